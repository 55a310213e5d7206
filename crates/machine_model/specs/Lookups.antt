-- What each look-up asks of the target, and what its result becomes.
use Rattle.std.specs.Prelude.{ℕ, ◌==◌, ◌∷◌, Bool, true, false, cond, List, [], map, Option, None, Some}
use Rattle.class_tables.specs.Lookups.{found_in}
use Rattle.dap_messages.specs.Telling.{references_spent, target_error, unknown_thread}
use Rattle.jdwp_commands.specs.declared.answer.Answer.TheVariants as answers
use Rattle.jdwp_commands.specs.declared.question.Question.TheVariants as questions
use Rattle.machine_model.specs.Classes.{classes_plan}
use Rattle.machine_model.specs.Exceptions.{exception_plan, text_plan}
use Rattle.machine_model.specs.Expressions.{value_plan}
use Rattle.machine_model.specs.Frames.{frames_plan}
use Rattle.machine_model.specs.Names.{Answer, Body, Classes, ClassId, Failed, Failure, Finding, Lookup, NamedThread}
use Rattle.machine_model.specs.Names.{classes_found, container_children, frame_list, frames_found, thread_frames}
use Rattle.machine_model.specs.Names.{thread_list, threads_found, variable_list, variables_found, a_stop, an_exception}
use Rattle.machine_model.specs.Names.{a_value, by_exception, exception_found, exception_info, exception_text, text_found}
use Rattle.machine_model.specs.Names.{Nothing, Outcome, Part, Success, ThreadId, Want, Written, Writes, all_threads}
use Rattle.machine_model.specs.Names.{class_facts, expression_value, no_value, value_found, variable_write, write_found}
use Rattle.machine_model.specs.Names.{Decides, Strike, breakpoint_hits, hits_found}
use Rattle.machine_model.specs.Plans.{Need, Plan, Result, Sight, asking, chained, each, gave, gives, joined, made_with}
use Rattle.machine_model.specs.Plans.{need, refused}
use Rattle.machine_model.specs.References.{has_room, things_of}
use Rattle.machine_model.specs.State.{Hand, State}
use Rattle.machine_model.specs.Variables.{children_plan}
use Rattle.machine_model.specs.Writing.{write_plan}
use Rattle.stop_refs.specs.Numbers.{InHand}

-- what an item sees: the facts that were learnt, and what was asked for it
abbrev pub sight_of : State → Hand → Sight
sight_of state hand = record { classes = found_in state.classes; asked = hand.asked }

-- Threads (DAP specification, Threads request; JDWP, VirtualMachine command set, AllThreads; JDWP, ThreadReference
-- command set, Name) --------------------------------------------------------------------------------------------------

-- a thread whose name was refused is left out
abbrev pub named_by : ThreadId → Option Answer → List NamedThread
named_by thread (Some (answers.ThreadName name)) = record { thread = thread; name = name } ∷ []
named_by thread _ = []

abbrev pub name_plan : ThreadId → Plan (List NamedThread)
name_plan thread = asking (named_by thread) (Want.May (questions.ThreadName thread))

abbrev pub names_plan : List ThreadId → Plan Finding
names_plan threads = made_with (λ named. threads_found (joined named)) (each name_plan threads)

abbrev pub threads_in : Option Answer → List ThreadId
threads_in (Some (answers.AllThreads threads)) = threads
threads_in _ = []

abbrev pub threads_plan : Plan Finding
threads_plan = chained (asking threads_in (Want.Must questions.AllThreads)) names_plan

-- Hits ----------------------------------------------------------------------------------------------------------------

-- each breakpoint that a thread came to is passed, logs nothing and stops it
abbrev pub hits_plan : List Strike → Plan Finding
hits_plan strikes = gives (hits_found (map (λ strike. strike.entry.id) strikes) [] strikes)

-- The tables ----------------------------------------------------------------------------------------------------------

-- the plan of a look-up
abbrev pub plan : Lookup → State → Plan Finding
plan all_threads state = threads_plan
plan (thread_frames thread start levels) state = frames_plan state thread start levels
plan (container_children thing filter start count) state =
    children_plan state.options.shows_types thing filter start count
plan (expression_value frame expression) state = value_plan state.options.shows_types frame expression
plan (variable_write thing name text) state = write_plan state.options.shows_types state.sizes thing name text
plan (exception_text thread object) state = text_plan object.0
plan (exception_info thrown) state = exception_plan thrown
plan (breakpoint_hits strikes) state = hits_plan strikes
plan class_facts state =
    made_with classes_found (classes_plan state.unlisted state.wishes.wanted (found_in state.classes))

-- what a look-up comes to by what was replied so far
abbrev pub found_for : Lookup → State → Hand → Need Finding
found_for lookup state hand = need (sight_of state hand) (plan lookup state)

-- the failure of a request whose question or effect was refused with an error (JDWP, Error Constants, INVALID_THREAD)
abbrev pub refusal : ℕ → Failure
refusal code = cond (code == 10) unknown_thread (target_error code)

-- the classes that were found
abbrev pub classes_of : Result Finding → List ClassId
classes_of (gave (threads_found named)) = []
classes_of (gave (classes_found classes)) = classes
classes_of (gave (frames_found total frames)) = []
classes_of (gave (variables_found shown)) = []
classes_of (gave (value_found seen)) = []
classes_of (gave (no_value failure)) = []
classes_of (gave (write_found write seen)) = []
classes_of (gave (text_found text)) = []
classes_of (gave (exception_found id mode)) = []
classes_of (gave (hits_found passed logged stops)) = []
classes_of (refused code) = []

-- the text that was found
abbrev pub text_of : Result Finding → Option (List ℕ)
text_of (gave (threads_found named)) = None
text_of (gave (classes_found classes)) = None
text_of (gave (frames_found total frames)) = None
text_of (gave (variables_found shown)) = None
text_of (gave (value_found seen)) = None
text_of (gave (no_value failure)) = None
text_of (gave (write_found write seen)) = None
text_of (gave (text_found text)) = text
text_of (gave (exception_found id mode)) = None
text_of (gave (hits_found passed logged stops)) = None
text_of (refused code) = None

-- what a response shows that was found
abbrev pub body_of : Finding → Body
body_of (threads_found named) = thread_list named
body_of (classes_found classes) = Nothing
body_of (frames_found total frames) = frame_list total frames
body_of (variables_found shown) = variable_list shown
body_of (value_found seen) = a_value seen
body_of (no_value failure) = Nothing
body_of (write_found write seen) = Nothing
body_of (text_found text) = Nothing
body_of (exception_found id mode) = an_exception id mode
body_of (hits_found passed logged stops) = Nothing

-- the response that shows what has no numbers to be told: threads, or an exception
abbrev pub plain_outcome : Result Finding → Outcome
plain_outcome (gave finding) = Success (body_of finding)
plain_outcome (refused code) = Failed (refusal code)

-- One that tells numbers; where too few are left it fails (DAP specification, Types, StackFrame, id; Types, Variable,
-- variablesReference).
abbrev pub shown_by : InHand → Body → Outcome
shown_by numbers body = cond (has_room (things_of body) numbers) (Success body) (Failed references_spent)

abbrev pub outcome_by : InHand → Result Finding → Outcome
outcome_by numbers (gave finding) = shown_by numbers (body_of finding)
outcome_by numbers (refused code) = Failed (refusal code)

-- a value, unless there is none
abbrev pub valued_by : InHand → Finding → Outcome
valued_by numbers (no_value failure) = Failed failure
valued_by numbers finding = shown_by numbers (body_of finding)

abbrev pub value_outcome : InHand → Result Finding → Outcome
value_outcome numbers (gave finding) = valued_by numbers finding
value_outcome numbers (refused code) = Failed (refusal code)

-- a value is written, and by the reply it is decided how it goes on; unless there is none to write
abbrev pub write_parts : Finding → List Part
write_parts (write_found write seen) = Part.Sends (Writes write) ∷ Part.Unfolds (Written seen) ∷ []
write_parts (no_value failure) = Part.Responds (Failed failure) ∷ []
write_parts finding = Part.Responds (Success Nothing) ∷ []

abbrev pub written_parts : Result Finding → List Part
written_parts (gave finding) = write_parts finding
written_parts (refused code) = Part.Responds (Failed (refusal code)) ∷ []

-- what judged breakpoints log, and what stops; that of no other look-up
abbrev pub logged_of : Result Finding → List (List ℕ)
logged_of (gave (hits_found passed logged stops)) = logged
logged_of _ = []

abbrev pub stops_of : Result Finding → List Strike
stops_of (gave (hits_found passed logged stops)) = stops
stops_of _ = []

-- the parts that a result becomes
abbrev pub finished : Lookup → Result Finding → State → List Part
finished all_threads result state = Part.Responds (plain_outcome result) ∷ []
finished (thread_frames thread start levels) result state = Part.Responds (outcome_by state.numbers result) ∷ []
finished (container_children thing filter start count) result state =
    Part.Responds (outcome_by state.numbers result) ∷ []
finished (expression_value frame expression) result state = Part.Responds (value_outcome state.numbers result) ∷ []
finished (variable_write thing name text) result state = written_parts result
finished (exception_text thread object) result state =
    Part.Tells (a_stop (record { cause = by_exception (text_of result); thread = thread })) ∷ []
finished (exception_info thrown) result state = Part.Responds (plain_outcome result) ∷ []
finished (breakpoint_hits strikes) result state = Part.Unfolds (Decides (logged_of result) (stops_of result)) ∷ []
finished class_facts result state = Part.Notes (Classes (classes_of result)) ∷ []

-- whether they bring the response
abbrev pub lookup_responds : Lookup → Bool
lookup_responds all_threads = true
lookup_responds (thread_frames thread start levels) = true
lookup_responds (container_children thing filter start count) = true
lookup_responds (expression_value frame expression) = true
lookup_responds (variable_write thing name text) = true
lookup_responds (exception_text thread object) = false
lookup_responds (exception_info thrown) = true
lookup_responds (breakpoint_hits strikes) = false
lookup_responds class_facts = false
