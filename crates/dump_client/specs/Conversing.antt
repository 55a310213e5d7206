-- The conversation of a dump: what is asked for, one request after the other, each once the one before it was answered, and
-- the text that the answers come to.
use Rattle.std.specs.Prelude.{ℕ, ◌+◌, ◌==◌, Bool, true, false, not, ◌&&◌, ◌||◌, if◌then◌else◌, List, [], ◌∷◌, ◌++◌}
use Rattle.std.specs.Prelude.{codes, length, slice_get, Option, Some, None}
use Rattle.std.specs.Option.{option_map_or}
use Rattle.serde_json.specs.Data.{Data}
use Rattle.wire_core.specs.Outside.{raised}
use Rattle.dump_client.specs.Answers.{failure_of, frames_said, is_response, scope_said, threads_said, variables_said}
use Rattle.dump_client.specs.Lines.{end_line, failure_line}
use Rattle.dump_client.specs.Messages.{message_in}
use Rattle.dump_client.specs.Requests.{is_over, request_of}
use Rattle.dump_client.specs.declared.answers.Heading.{Heading}
use Rattle.dump_client.specs.declared.conversation.Conversation.{Conversation}
use Rattle.dump_client.specs.declared.due.Due.{Due}
use Rattle.dump_client.specs.declared.due.Due.TheVariants as due

-- at its beginning
abbrev pub start : Conversation
start = record {
  due = due.Initialize;
  waits = false;
  seq = 1;
  paused = 0;
  threads = [];
  thread_at = 0;
  frames = [];
  frame_at = 0;
  text = [];
  gone = false;
}

-- Requests ------------------------------------------------------------------------------------------------------------

-- the frame of the request that is due, if one is: none while an answer is waited for
abbrev pub request_due : Conversation → Option (List ℕ)
request_due c = if c.waits || is_over c.due then None else Some (request_of c.seq c.due)

-- the request that is due is made
abbrev pub asked : Conversation → Conversation
asked c = record c { waits = true; seq = raised c.seq }

-- Going on ------------------------------------------------------------------------------------------------------------

-- this is due next
abbrev pub behind : Due → Conversation → Conversation
behind due c = record c { due = due }

-- so much more text
abbrev pub with_text : List ℕ → Conversation → Conversation
with_text text c = record c { text = c.text ++ text }

-- to this thread; where there is none, all is told, and the target goes on
abbrev pub at_this_thread : Option Heading → Conversation → Conversation
at_this_thread None c = behind (due.Continue c.paused) (with_text (end_line (length c.threads)) c)
at_this_thread (Some thread) c =
    record (behind (due.StackTrace thread.number) (with_text thread.line c)) { thread_at = c.thread_at + 1 }

-- to the next thread
abbrev pub at_thread : Conversation → Conversation
at_thread c = at_this_thread (slice_get c.threads c.thread_at) c

-- to this frame; where there is none, to the next thread
abbrev pub at_this_frame : Option Heading → Conversation → Conversation
at_this_frame None c = at_thread c
at_this_frame (Some frame) c =
    record (behind (due.Scopes frame.number) (with_text frame.line c)) { frame_at = c.frame_at + 1 }

-- to the next frame
abbrev pub at_frame : Conversation → Conversation
at_frame c = at_this_frame (slice_get c.frames c.frame_at) c

-- Answers -------------------------------------------------------------------------------------------------------------

-- the first of these threads is paused; where there is none, all is told
abbrev pub at_first_threads : List Heading → Conversation → Conversation
at_first_threads [] c = behind due.Disconnect (with_text (end_line 0) c)
at_first_threads (thread ∷ threads) c = record (behind (due.Pause thread.number) c) { paused = thread.number }

-- these threads are shown one after the other
abbrev pub at_threads : List Heading → Conversation → Conversation
at_threads threads c = at_thread (record c { threads = threads; thread_at = 0 })

-- the frames of a thread are shown one after the other, or the failure
abbrev pub at_stack_by : Option ℕ → Data → Conversation → Conversation
at_stack_by None d c = at_frame (record c { frames = frames_said d; frame_at = 0 })
at_stack_by (Some code) d c = at_thread (with_text (failure_line (codes "  ") code) c)

abbrev pub at_stack : Data → Conversation → Conversation
at_stack d c = at_stack_by (failure_of d) d c

-- the variables of a frame are asked for, or the failure is shown
abbrev pub at_scopes_by : Option ℕ → Data → Conversation → Conversation
at_scopes_by None d c = behind (due.Variables (scope_said d)) c
at_scopes_by (Some code) d c = at_frame (with_text (failure_line (codes "    ") code) c)

abbrev pub at_scopes : Data → Conversation → Conversation
at_scopes d c = at_scopes_by (failure_of d) d c

-- the variables of a frame are shown, or the failure
abbrev pub at_variables_by : Option ℕ → Data → Conversation → Conversation
at_variables_by None d c = at_frame (with_text (variables_said d) c)
at_variables_by (Some code) d c = at_frame (with_text (failure_line (codes "    ") code) c)

abbrev pub at_variables : Data → Conversation → Conversation
at_variables d c = at_variables_by (failure_of d) d c

-- what the response to a request makes of the conversation
abbrev pub taken_by : Due → Data → Conversation → Conversation
taken_by due.Initialize d c = behind due.Attach c
taken_by due.Attach d c = behind due.ConfigurationDone c
taken_by due.ConfigurationDone d c = behind due.FirstThreads c
taken_by due.FirstThreads d c = at_first_threads (threads_said d) c
taken_by (due.Pause thread) d c = behind due.Threads c
taken_by due.Threads d c = at_threads (threads_said d) c
taken_by (due.StackTrace thread) d c = at_stack d c
taken_by (due.Scopes frame) d c = at_scopes d c
taken_by (due.Variables reference) d c = at_variables d c
taken_by (due.Continue thread) d c = behind due.Disconnect c
taken_by due.Disconnect d c = behind due.Nothing c
taken_by due.Nothing d c = behind due.Nothing c

abbrev pub taken : Data → Conversation → Conversation
taken d c = taken_by c.due d c

-- the request at which the client leaves
abbrev pub is_leaving : Due → Bool
is_leaving due.Disconnect = true
is_leaving _ = false

-- whether a failure tells that the target has gone, before its client leaves it (DAP specification, Types, Message, `id`)
abbrev pub is_gone : Due → Option ℕ → Bool
is_gone due None = false
is_gone due (Some code) = (code == 10) && not (is_leaving due)

-- the response comes
abbrev pub answered : Data → Conversation → Conversation
answered d c = taken d (record c { waits = false; gone = c.gone || is_gone c.due (failure_of d) })

-- a message comes: a response is that to the request that was made, all else is passed over
abbrev pub said : Data → Conversation → Conversation
said d c = if c.waits && is_response d then answered d c else c

-- a frame comes
abbrev pub heard : List ℕ → Conversation → Conversation
heard frame c = option_map_or (λ d. said d c) (message_in frame) c
