-- Conversations whose numbers have 64 bits, and the request that one means.
use Rattle.std.specs.Prelude.{ℕ, ◌<◌, ◌≤◌, ◌^◌}
use Rattle.std.specs.List.{AllByRecursion}
use Rattle.dap_messages.specs.declared.requests.Request.{Request}
use Rattle.dump_client.specs.Requests.{arguments_of, command_of}
use Rattle.dump_client.specs.declared.answers.Heading.{Heading}
use Rattle.dump_client.specs.declared.conversation.Conversation.{Conversation}
use Rattle.dump_client.specs.declared.due.Due.{Due}
use Rattle.dump_client.specs.declared.due.Due.TheVariants as due
use Rattle.request_laws.specs.Hearing.{request_read}

-- a thread or a frame under a number of 64 bits
abbrev pub IsHeading : Heading → Type 0
IsHeading heading = heading.number < 2 ^ 64

-- it is asked with a number of 64 bits, or without one
abbrev pub IsAskable : Due → Type 0
IsAskable due.Initialize = Unit {0}
IsAskable due.Attach = Unit {0}
IsAskable due.ConfigurationDone = Unit {0}
IsAskable due.FirstThreads = Unit {0}
IsAskable (due.Pause thread) = thread < 2 ^ 64
IsAskable due.Threads = Unit {0}
IsAskable (due.StackTrace thread) = thread < 2 ^ 64
IsAskable (due.Scopes frame) = frame < 2 ^ 64
IsAskable (due.Variables reference) = reference < 2 ^ 64
IsAskable (due.Continue thread) = thread < 2 ^ 64
IsAskable due.Disconnect = Unit {0}
IsAskable due.Nothing = Unit {0}

-- the next request has at most this number, and the numbers of threads, frames and variables have 64 bits
pub record IsInBounds (most : ℕ) (c : Conversation) : Type 0 where
  pub seq : c.seq ≤ most
  pub due : IsAskable c.due
  pub paused : c.paused < 2 ^ 64
  pub threads : AllByRecursion IsHeading c.threads
  pub frames : AllByRecursion IsHeading c.frames

-- the request that is due (DAP specification, Requests)
abbrev pub request_meant : Conversation → Request
request_meant c = request_read c.seq (command_of c.due) (arguments_of c.due)
