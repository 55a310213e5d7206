-- How many requests a client makes (DAP specification, Base Protocol, Request).
use Rattle.std.specs.Prelude.{ℕ, ◌+◌, Bool, true, false, List, [], ◌∷◌, Result, Ok, Err}
use Rattle.dap_messages.specs.declared.requests.Command.{Command}
use Rattle.dap_messages.specs.declared.requests.Command.TheVariants.{Disconnect}
use Rattle.dap_messages.specs.declared.requests.Incoming.{Incoming}
use Rattle.dap_messages.specs.declared.requests.Incoming.TheVariants.{Request as a_request, Ignored}
use Rattle.dap_messages.specs.declared.requests.ReadFault.{ReadFault}
use Rattle.dap_messages.specs.Reading.{reading_of}
use Rattle.wire_core.specs.Streams.{Front, waits, whole, faulty}
use Rattle.dap_frames.specs.Frames.{Frame}
use Rattle.dap_frames.specs.declared.fault.FrameFault.{FrameFault}
use Rattle.session_summaries.specs.declared.requests.Said.{Said}
use Rattle.session_summaries.specs.declared.requests.Said.TheVariants.{Request, Last, Passed, Nothing}

-- the request that ends the session (DAP specification, Disconnect request)
abbrev pub is_last : Command → Bool
is_last (Disconnect arguments) = true
is_last _ = false

abbrev pub said_if : Bool → Said
said_if true = Last
said_if false = Request

-- what a body says: a request, the last one or another; a message that is passed over; or nothing that is a message
abbrev pub said_in : Result Incoming ReadFault → Said
said_in (Ok (a_request request)) = said_if (is_last request.command)
said_in (Ok Ignored) = Passed
said_in (Err fault) = Nothing

-- what the next frame says; nothing where none is whole
abbrev pub said_at : Front Frame FrameFault → Said
said_at waits = Nothing
said_at (whole frame n) = said_in (reading_of frame.body)
said_at (faulty fault place) = Nothing

-- how many requests there are with this one, where so many follow it
abbrev pub counted : Said → ℕ → ℕ
counted Request more = more + 1
counted Last more = 1
counted Passed more = more
counted Nothing more = 0

-- the requests of these bodies, up to a `disconnect`, or to one that says nothing
abbrev pub requests_in : List (List ℕ) → ℕ
requests_in [] = 0
requests_in (body ∷ bodies) = counted (said_in (reading_of body)) (requests_in bodies)
