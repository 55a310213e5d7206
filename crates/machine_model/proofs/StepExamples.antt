-- Worked examples of steps, exceptions and functions, checked by computation.
use Rattle.std.proofs.Common.{◌≡◌, ℕ, true, false, [], ◌∷◌, None, Some, refl}
use Rattle.std.specs.Prelude.{pos, codes}
use Rattle.std.specs.Str.{chars, is_utf8}
use lib.Utf8.{encode}
use Rattle.dap_messages.specs.Telling.{target_error, unknown_thread}
use Rattle.dap_messages.specs.declared.told.BreakMode.TheVariants.{Unhandled}
use Rattle.dap_messages.specs.declared.told.Breakpoint.{Breakpoint}
use Rattle.dap_messages.specs.declared.told.BreakpointStatus.{BreakpointStatus}
use Rattle.dap_messages.specs.declared.told.BreakpointStatus.TheVariants as status
use Rattle.dap_messages.specs.declared.told.Outcome.TheVariants as outcomes
use Rattle.dap_messages.specs.declared.told.Shape.TheVariants as shapes
use Rattle.dap_messages.specs.declared.told.StopReason.TheVariants as reasons
use Rattle.jdwp_commands.specs.declared.answer.Answer.TheVariants as answers
use Rattle.jdwp_commands.specs.declared.question.Question.TheVariants as questions
use Rattle.jdwp_events.specs.declared.event.Event.TheVariants as happened
use Rattle.jdwp_values.specs.Lossy.{lossy, lossy_after}
use Rattle.jdwp_values.specs.declared.location.Location.{Location}
use Rattle.jdwp_values.specs.declared.id.ObjectId.{ObjectId}
use Rattle.jdwp_values.specs.declared.tag.TypeTag.TheVariants as tags
use Rattle.jdwp_values.specs.declared.value.Value.TheVariants as values
use Rattle.machine_model.specs.Breakpoints.{key_of}
use Rattle.machine_model.specs.Due.{due, load_of, newly_lacked, wanted}
use Rattle.machine_model.specs.Names.{Clear, ExceptionInfo, Next, Question, Request, Resume, Set}
use Rattle.machine_model.specs.Names.{SetExceptionBreakpoints, SetFunctionBreakpoints, StepOut, a_question, an_answer}
use Rattle.machine_model.specs.Names.{an_effect, an_error, of_stop}
use Rattle.machine_model.specs.Plans.{chained, each, made_with, need}
use Rattle.machine_model.specs.Replying.{answered}
use Rattle.machine_model.specs.Runs.{heard}
use Rattle.machine_model.specs.State.{Machine}
use Rattle.machine_model.proofs.BreakpointExamples.{at, class, classes, line, method, says_of}
use Rattle.machine_model.proofs.Examples.{asks, attached, changes, drive, request, responds, said_on, succeeds}
use Rattle.machine_model.proofs.StopExamples.{does, done, fails, happens, one, running, stopped, tells_stop}
use Rattle.wish_sets.specs.Wished.{wished}
use Rattle.wish_sets.specs.Wishes.{next_change}
use Rattle.wish_sets.specs.declared.wish.Depth.TheVariants.{Out, Over}
use Rattle.wish_sets.specs.declared.wish.Wish.{Wish}
use Rattle.wish_sets.specs.declared.wish.Wish.TheVariants as wishes

-- Words ---------------------------------------------------------------------------------------------------------------

-- an event request was set
abbrev set_as : ℕ → Wish → Machine → Machine
set_as id wish m = answered m (an_effect (Set wish)) (an_answer (answers.Set id))

abbrev cleared : ℕ → Wish → Machine → Machine
cleared id wish m = answered m (an_effect (Clear wish id)) (an_answer answers.Clear)

-- Steps ---------------------------------------------------------------------------------------------------------------

abbrev steps : Request
steps = request 20 (Next (record { thread_id = 1 }))

abbrev over : Wish
over = wishes.Step one Over

-- its event request is set first
sets_step : said_on 8 (heard stopped steps) ≡ changes (Set over) ∷ []
unfolding due wanted load_of newly_lacked next_change wished need chained made_with each key_of chars encode lossy
    lossy_after is_utf8
sets_step = refl

abbrev step_set : Machine
step_set = set_as 9 over (drive 8 (heard stopped steps))

-- then the target runs on
runs_step : said_on 8 step_set ≡ does (Resume of_stop) ∷ []
unfolding due wanted load_of newly_lacked next_change wished need chained made_with each key_of chars encode lossy
    lossy_after is_utf8
runs_step = refl

abbrev stepping : Machine
stepping = done (Resume of_stop) answers.Resume (drive 8 step_set)

-- and the request is answered
answers_step : said_on 8 stepping ≡ succeeds steps ∷ []
unfolding due wanted load_of newly_lacked next_change wished need chained made_with each key_of chars encode lossy
    lossy_after is_utf8
answers_step = refl

-- the step ends where a breakpoint stands
abbrev ends_at_breakpoint : Machine
ends_at_breakpoint =
    happens (happened.SingleStep 9 one (at 5) ∷ happened.Breakpoint 4 one (at 5) ∷ []) (drive 8 stepping)

-- the step is cleared once
clears_step : said_on 16 ends_at_breakpoint ≡ changes (Clear over 9) ∷ []
unfolding due wanted load_of newly_lacked next_change wished need chained made_with each key_of chars encode lossy
    lossy_after is_utf8
clears_step = refl

-- and one stop is told, of the breakpoint
tells_breakpoint : said_on 16 (cleared 9 over (drive 16 ends_at_breakpoint))
    ≡ tells_stop (reasons.Breakpoint (1 ∷ [])) 1 ∷ []
unfolding due wanted load_of newly_lacked next_change wished need chained made_with each key_of chars encode lossy
    lossy_after is_utf8
tells_breakpoint = refl

-- where no breakpoint stands the end of the step is told
tells_step : said_on 16 (cleared 9 over (drive 16 (happens (happened.SingleStep 9 one (at 9) ∷ []) (drive 8 stepping))))
    ≡ tells_stop reasons.Step 1 ∷ []
unfolding due wanted load_of newly_lacked next_change wished need chained made_with each key_of chars encode lossy
    lossy_after is_utf8
tells_step = refl

-- Steps that fail -----------------------------------------------------------------------------------------------------

-- the target refuses it: the request fails, and the stop stays in hand
abbrev refused : ℕ → Machine
refused code = answered (drive 8 (heard stopped steps)) (an_effect (Set over)) (an_error code)

fails_refused : (said_on 8 (refused 10) ≡ fails steps unknown_thread ∷ [])
    × (said_on 8 (refused 35) ≡ fails steps (target_error 35) ∷ [])
    × ((drive 8 (refused 10)).state.stopped ≡ true)
    × ((drive 8 (refused 10)).hand ≡ None)
unfolding due wanted load_of newly_lacked next_change wished need chained made_with each key_of chars encode lossy
    lossy_after is_utf8
fails_refused = (refl, refl, refl, refl)

-- and the next step is tried anew
abbrev steps_out : Request
steps_out = request 21 (StepOut (record { thread_id = 1 }))

sets_next : (said_on 8 (heard (drive 8 (refused 10)) steps) ≡ changes (Set over) ∷ [])
    × (said_on 8 (heard (drive 8 (refused 10)) steps_out) ≡ changes (Set (wishes.Step one Out)) ∷ [])
unfolding due wanted load_of newly_lacked next_change wished need chained made_with each key_of chars encode lossy
    lossy_after is_utf8
sets_next = (refl, refl)

-- a thread that was never told is sent nothing
abbrev steps_unknown : Request
steps_unknown = request 22 (Next (record { thread_id = 2 }))

fails_unknown : said_on 8 (heard stopped steps_unknown) ≡ fails steps_unknown unknown_thread ∷ []
unfolding due wanted load_of newly_lacked next_change wished need chained made_with each key_of chars encode lossy
    lossy_after is_utf8
fails_unknown = refl

-- Exceptions ----------------------------------------------------------------------------------------------------------

abbrev uncaught : Request
uncaught = request 23 (SetExceptionBreakpoints (record { caught = false; uncaught = true }))

abbrev throws : Wish
throws = wishes.Thrown false true

sets_exceptions : said_on 8 (heard (drive 8 running) uncaught) ≡ changes (Set throws) ∷ []
unfolding due wanted load_of newly_lacked next_change wished need chained made_with each key_of chars encode lossy
    lossy_after is_utf8
sets_exceptions = refl

abbrev exceptions_set : Machine
exceptions_set = set_as 7 throws (drive 8 (heard (drive 8 running) uncaught))

answers_exceptions : said_on 8 exceptions_set ≡ succeeds uncaught ∷ []
unfolding due wanted load_of newly_lacked next_change wished need chained made_with each key_of chars encode lossy
    lossy_after is_utf8
answers_exceptions = refl

abbrev nowhere : Location
nowhere = record { tag = tags.Class; class = record { 0 = 0 }; method = record { 0 = 0 }; index = 0 }

abbrev object : ObjectId
object = record { 0 = 77 }

abbrev thrown : Machine
thrown = happens (happened.Exception 7 one (at 9) (values.Object object) nowhere ∷ []) (drive 8 exceptions_set)

abbrev its_type : Question
its_type = questions.ObjectType object

-- the type of what was thrown is looked up
asks_type : said_on 16 thrown ≡ asks its_type ∷ []
unfolding due wanted load_of newly_lacked next_change wished need chained made_with each key_of chars encode lossy
    lossy_after is_utf8
asks_type = refl

-- the class that it is of is no class that was listed
abbrev typed : Machine
typed = answered (drive 16 thrown) (a_question its_type) (an_answer (answers.ObjectType tags.Class (class 50)))

asks_signature : said_on 8 typed ≡ asks (questions.Signature (class 50)) ∷ []
unfolding due wanted load_of newly_lacked next_change wished need chained made_with each key_of chars encode lossy
    lossy_after is_utf8
asks_signature = refl

abbrev named : Machine
named = answered (drive 8 typed) (a_question (questions.Signature (class 50)))
    (an_answer (answers.Signature (codes "La/E;")))

-- and the stop is told with its name
tells_exception : said_on 8 named ≡ tells_stop (reasons.Exception (Some (codes "a.E"))) 1 ∷ []
unfolding due wanted load_of newly_lacked next_change wished need chained made_with each key_of chars encode lossy
    lossy_after is_utf8
tells_exception = refl

-- without it, where the target refuses to say its class
tells_nameless : said_on 8 (answered (drive 16 thrown) (a_question its_type) (an_error 20))
    ≡ tells_stop (reasons.Exception None) 1 ∷ []
unfolding due wanted load_of newly_lacked next_change wished need chained made_with each key_of chars encode lossy
    lossy_after is_utf8
tells_nameless = refl

-- What was thrown is told once more on request: nothing catches it.
abbrev asks_info : Request
asks_info = request 24 (ExceptionInfo (record { thread_id = 1 }))

abbrev info_typed : Machine
info_typed = says_of its_type (answers.ObjectType tags.Class (class 50)) (drive 8 (heard (drive 8 named) asks_info))

tells_info : said_on 8 (answered info_typed (a_question (questions.Signature (class 50)))
    (an_answer (answers.Signature (codes "La/E;"))))
    ≡ responds asks_info (outcomes.Success (shapes.ExceptionInfo (codes "a.E") Unhandled)) ∷ []
unfolding due wanted load_of newly_lacked next_change wished need chained made_with each key_of chars encode lossy
    lossy_after is_utf8
tells_info = refl

-- in a stop of another kind nothing was thrown
fails_info : said_on 8 (heard stopped asks_info) ≡ fails asks_info unknown_thread ∷ []
unfolding due wanted load_of newly_lacked next_change wished need chained made_with each key_of chars encode lossy
    lossy_after is_utf8
fails_info = refl

-- Functions -----------------------------------------------------------------------------------------------------------

abbrev names : Request
names = request 25 (SetFunctionBreakpoints (record {
  breakpoints = record { name = codes "a.F.m"; plain = true } ∷ record { name = codes "a.F.n"; plain = true } ∷ [];
}))

abbrev shown : ℕ → BreakpointStatus → Breakpoint
shown id standing = record { id = id; line = None; status = standing }

-- the package of the class is watched, and then all classes are listed
watches_function : said_on 8 (heard attached names) ≡ changes (Set (wishes.Watch (codes "a"))) ∷ []
unfolding due wanted load_of newly_lacked next_change wished need chained made_with each key_of chars encode lossy
    lossy_after is_utf8
watches_function = refl

abbrev heard_list : Machine
heard_list = answered (drive 8 (set_as 3 (wishes.Watch (codes "a")) (drive 8 (heard attached names))))
    (a_question questions.AllClasses) (an_answer (answers.AllClasses classes))

-- the class that is named is asked for its methods beside its source
asks_both : said_on 8 heard_list ≡ asks (questions.SourceFile (class 16)) ∷ asks (questions.Methods (class 16))
    ∷ asks (questions.SourceFile (class 20)) ∷ []
unfolding due wanted load_of newly_lacked next_change wished need chained made_with each key_of chars encode lossy
    lossy_after is_utf8
asks_both = refl

abbrev listed : Machine
listed = drive 8 heard_list

abbrev sourced : Machine
sourced = says_of (questions.SourceFile (class 16)) (answers.SourceFile (codes "F"))
    (drive 8 (answered listed (a_question (questions.SourceFile (class 20))) (an_error 101)))

-- the method that is named is asked for its lines
abbrev with_methods : Machine
with_methods = answered sourced (a_question (questions.Methods (class 16)))
    (an_answer (answers.Methods (method 3 ∷ [])))

abbrev its_lines : Question
its_lines = questions.LineTable (class 16) (record { 0 = 3 })

asks_lines : said_on 8 with_methods ≡ asks its_lines ∷ []
unfolding due wanted load_of newly_lacked next_change wished need chained made_with each key_of chars encode lossy
    lossy_after is_utf8
asks_lines = refl

-- it is bound where the code of its method begins
abbrev with_lines : Machine
with_lines = answered (drive 8 with_methods) (a_question its_lines) (an_answer (answers.LineTable (record {
  start = pos 2;
  end = pos 12;
  lines = line 2 9 ∷ line 5 10 ∷ [];
})))

binds_function : said_on 8 with_lines ≡ changes (Set (wishes.Stop (at 2))) ∷ []
unfolding due wanted load_of newly_lacked next_change wished need chained made_with each key_of chars encode lossy
    lossy_after is_utf8
binds_function = refl

abbrev function_bound : Machine
function_bound = set_as 4 (wishes.Stop (at 2)) (drive 8 with_lines)

-- the one that is verified has no line, and there is no method of the other name
lists_functions : said_on 8 function_bound
    ≡ responds names (outcomes.Success (shapes.Breakpoints (shown 1 status.Verified ∷ shown 2 status.NotBoundYet
    ∷ []))) ∷ []
unfolding due wanted load_of newly_lacked next_change wished need chained made_with each key_of chars encode lossy
    lossy_after is_utf8
lists_functions = refl

-- a stop there is one of a function
stops_in_function : said_on 16 (happens (happened.Breakpoint 4 one (at 2) ∷ []) (drive 8 function_bound))
    ≡ tells_stop (reasons.FunctionBreakpoint (1 ∷ [])) 1 ∷ []
unfolding due wanted load_of newly_lacked next_change wished need chained made_with each key_of chars encode lossy
    lossy_after is_utf8
stops_in_function = refl
