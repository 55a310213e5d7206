-- What the client is told, with numbers in place of the target's ids, and what the telling changes.
use Rattle.std.specs.Prelude.{ℕ, ◌+◌, ◌==◌, ◌∷◌, ◌++◌, Bool, true, false, cond, List, [], map}
use Rattle.std.specs.List.{list_any}
use Rattle.dap_messages.specs.declared.told.Event.{Event as EventTold}
use Rattle.dap_messages.specs.declared.told.Event.TheVariants as events
use Rattle.dap_messages.specs.declared.told.Outcome.{Outcome as OutcomeTold}
use Rattle.dap_messages.specs.declared.told.Outcome.TheVariants as outcomes
use Rattle.dap_messages.specs.declared.told.Shape.{Shape}
use Rattle.dap_messages.specs.declared.told.Shape.TheVariants as shapes
use Rattle.dap_messages.specs.declared.told.StopReason.{StopReason}
use Rattle.dap_messages.specs.declared.told.StopReason.TheVariants as reasons
use Rattle.dap_messages.specs.declared.told.Thread.{Thread}
use Rattle.jdwp_values.specs.Lossy.{lossy}
use Rattle.machine_model.specs.Breakpoints.{breakpoint_told, verified_told, with_id, with_told}
use Rattle.machine_model.specs.Frames.{frame_told}
use Rattle.machine_model.specs.Names.{Attached, Body, Capabilities, Continued, Event, Failed, Fresh, Gone, Hit}
use Rattle.machine_model.specs.Names.{Initialized, NamedThread, News, Nothing, Outcome, Phase, Request, StopCause, Success}
use Rattle.machine_model.specs.Names.{Terminated, ThreadId, Told, a_response, a_stop, breakpoint_list, by_client}
use Rattle.machine_model.specs.Names.{entry_verified, frame_list, scope_list, some_news, thread_changed, thread_list}
use Rattle.machine_model.specs.Names.{a_value, a_written, an_exception, by_exception, by_step, variable_list}
use Rattle.machine_model.specs.Names.{Logged}
use Rattle.machine_model.specs.References.{things_of, with_things}
use Rattle.machine_model.specs.State.{State, lost}
use Rattle.machine_model.specs.Variables.{value_told, variable_told}
use Rattle.stop_refs.specs.Numbers.{number_of, with_thing}
use Rattle.stop_refs.specs.declared.thing.Thing.TheVariants.{Locals as some_locals}
use Rattle.wish_sets.specs.declared.entry.EntryAt.{EntryAt}

-- Numbers of threads --------------------------------------------------------------------------------------------------

-- the thread was told before
abbrev pub is_among : List ThreadId → ThreadId → Bool
is_among [] thread = false
is_among (first ∷ threads) thread = cond (first.0 == thread.0) true (is_among threads thread)

-- a thread is told, behind those that were, once
abbrev pub with_thread : List ThreadId → ThreadId → List ThreadId
with_thread threads thread = cond (is_among threads thread) threads (threads ++ thread ∷ [])

abbrev pub with_threads : List ThreadId → List NamedThread → List ThreadId
with_threads threads [] = threads
with_threads threads (first ∷ others) = with_threads (with_thread threads first.thread) others

-- threads are numbered from 1 in the order in which they are first told
abbrev pub number_among : List ThreadId → ThreadId → ℕ
number_among [] thread = 1
number_among (first ∷ threads) thread = cond (first.0 == thread.0) 1 (number_among threads thread + 1)

-- Responses (DAP specification, Base Protocol, Response) --------------------------------------------------------------

-- what a body numbers first
abbrev pub numbered : Body → State → State
numbered Nothing state = state
numbered Capabilities state = state
numbered (breakpoint_list rooted listed) state =
    record state { bound = with_told state.bound (map (breakpoint_told rooted state.wishes) listed) }
numbered Continued state = state
numbered (frame_list total frames) state =
    record state { numbers = with_things (things_of (frame_list total frames)) state.numbers }
numbered (scope_list frame) state = record state { numbers = with_thing (some_locals frame) state.numbers }
numbered (variable_list shown) state =
    record state { numbers = with_things (things_of (variable_list shown)) state.numbers }
numbered (a_value seen) state =
    record state { numbers = with_things (things_of (a_value seen)) state.numbers }
numbered (a_written seen) state = state
numbered (an_exception id mode) state = state
numbered (thread_list named) state = record state { threads = with_threads state.threads named }

-- a thread as it is told, its name as text (DAP specification, Types, Thread)
abbrev pub thread_told : List ThreadId → NamedThread → Thread
thread_told threads named = record { id = number_among threads named.thread; name = lossy named.name }

-- and how it is told then
abbrev pub body_told : Body → State → Shape
body_told Nothing state = shapes.Nothing
body_told Capabilities state = shapes.Capabilities
body_told (breakpoint_list rooted listed) state =
    shapes.Breakpoints (map (breakpoint_told rooted state.wishes) listed)
body_told Continued state = shapes.Continued
body_told (frame_list total frames) state =
    shapes.StackFrames (map (frame_told state.options state.numbers) frames) total
body_told (scope_list frame) state = shapes.Scopes (number_of (some_locals frame) state.numbers)
body_told (variable_list shown) state = shapes.Variables (map (variable_told state.numbers) shown)
body_told (a_value seen) state = shapes.Evaluated (value_told state.numbers seen)
body_told (a_written seen) state = shapes.Written (record { value = seen.text; kind = seen.kind })
body_told (an_exception id mode) state = shapes.ExceptionInfo id mode
body_told (thread_list named) state = shapes.Threads (map (thread_told state.threads) named)

abbrev pub numbered_by : Outcome → State → State
numbered_by (Success body) state = numbered body state
numbered_by (Failed failure) state = state

abbrev pub outcome_told : Outcome → State → OutcomeTold
outcome_told (Success body) state = outcomes.Success (body_told body (numbered body state))
outcome_told (Failed failure) state = outcomes.Failure failure

-- the response to a request: its sequence number and its command come back
abbrev pub response_to : Request → OutcomeTold → Told
response_to request outcome =
    a_response (record { request_seq = request.seq; command = request.name; outcome = outcome })

-- Events (DAP specification, Events) ----------------------------------------------------------------------------------

-- a target that is gone stays gone
abbrev pub attached_from : Phase → Phase
attached_from Fresh = Attached
attached_from Attached = Attached
attached_from Gone = Gone

-- the breakpoints that the client knows to be verified, once it was told this
abbrev pub bound_after : News → List ℕ → List ℕ
bound_after (entry_verified entry) bound = with_id bound entry.id
bound_after (thread_changed started thread) bound = bound

-- and the threads that it knows
abbrev pub threads_after : News → List ThreadId → List ThreadId
threads_after (entry_verified entry) threads = threads
threads_after (thread_changed started thread) threads = with_thread threads thread

-- what the telling of an event changes: the session is attached, or its target gone, from there on; a stop is in hand; or
-- the client knows of a breakpoint or a thread
abbrev pub after_event : Event → State → State
after_event Initialized state = record state { phase = attached_from state.phase }
after_event (some_news news) state =
    record state { bound = bound_after news state.bound; threads = threads_after news state.threads }
after_event (a_stop stopping) state =
    record state { threads = with_thread state.threads stopping.thread; stopped = true }
after_event (Logged text) state = state
after_event Terminated state = record (lost state) { terminated = true }

-- and how it is told then: a thread by its number
abbrev pub news_told : News → State → EventTold
news_told (entry_verified entry) state = events.Breakpoint (verified_told state.options.lines_from_one entry)
news_told (thread_changed started thread) state =
    events.Thread (record { started = started; id = number_among state.threads thread })

-- a hit is told with the breakpoints that stand there: of a source, or of functions (DAP specification, Events, Stopped,
-- hitBreakpointIds)
abbrev pub hit_told : List EntryAt → StopReason
hit_told entries = cond (list_any (λ entry. entry.line) entries) (reasons.Breakpoint (map (λ entry. entry.id) entries))
    (reasons.FunctionBreakpoint (map (λ entry. entry.id) entries))

abbrev pub reason_told : StopCause → State → StopReason
reason_told (Hit entries) state = hit_told entries
reason_told (by_exception text) state = reasons.Exception text
reason_told by_step state = reasons.Step
reason_told by_client state = reasons.Pause

abbrev pub event_told : Event → State → EventTold
event_told Initialized state = events.Initialized
event_told (some_news news) state = news_told news state
event_told (a_stop stopping) state = events.Stopped (record {
  reason = reason_told stopping.cause state;
  thread = number_among state.threads stopping.thread;
})
event_told (Logged text) state = events.Output text
event_told Terminated state = events.Terminated
