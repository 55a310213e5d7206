-- Worked examples of stops, and of what a target may refuse, at their edges.
use Rattle.std.proofs.Common.{◌≡◌, ℕ, true, false, [], ◌∷◌, refl, map}
use Rattle.std.specs.Prelude.{Bool, pos, codes}
use Rattle.std.specs.Str.{chars, is_utf8}
use lib.Utf8.{encode}
use Rattle.dap_messages.specs.declared.told.StopReason.TheVariants as reasons
use Rattle.jdwp_commands.specs.declared.answer.Answer.TheVariants as answers
use Rattle.jdwp_commands.specs.declared.question.Question.TheVariants as questions
use Rattle.jdwp_events.specs.declared.event.Event.{Event as ATargetEvent}
use Rattle.jdwp_events.specs.declared.event.Event.TheVariants as happened
use Rattle.jdwp_values.specs.Lossy.{lossy, lossy_after}
use Rattle.jdwp_values.specs.declared.location.Location.{Location}
use Rattle.jdwp_values.specs.declared.tag.TypeTag.TheVariants as tags
use Rattle.jdwp_values.specs.declared.value.Value.TheVariants as values
use Rattle.machine_model.specs.Breakpoints.{key_of}
use Rattle.machine_model.specs.Due.{due, load_of, newly_lacked, wanted}
use Rattle.machine_model.specs.Names.{ExceptionInfo, Request, SetExceptionBreakpoints, SetFunctionBreakpoints, ThreadId}
use Rattle.machine_model.specs.Names.{an_answer, an_error}
use Rattle.machine_model.specs.declared.acts.TargetCommand.{TargetCommand}
use Rattle.machine_model.specs.declared.acts.Effect.TheVariants.{Clear, Does, Set}
use Rattle.machine_model.specs.declared.parts.Deed.TheVariants.{Dispose, Exit, Resume, Suspend}
use Rattle.machine_model.specs.declared.acts.TargetCommand.TheVariants.{Question as a_question, Effect as an_effect}
use Rattle.machine_model.specs.declared.parts.Suspension.TheVariants.{Composite as of_composite, Entry as of_entry}
use Rattle.machine_model.specs.declared.parts.Suspension.TheVariants.{Stop as of_stop}
use Rattle.machine_model.specs.Plans.{chained, each, made_with, need}
use Rattle.machine_model.specs.Replying.{answered, is_tolerated}
use Rattle.machine_model.specs.Runs.{heard}
use Rattle.machine_model.specs.State.{Machine}
use Rattle.machine_model.proofs.BreakpointExamples.{at, class, classes, line, method, says_of}
use Rattle.wish_sets.specs.Wished.{wished}
use Rattle.wish_sets.specs.Wishes.{next_change}
use Rattle.wish_sets.specs.declared.wish.Wish.TheVariants as wishes
use Rattle.edge_examples.proofs.Words.{asks, attached_with, drive, happens, one, request, said_on, set_as, tells_stop}

-- What a target may refuse --------------------------------------------------------------------------------------------

-- whether a session goes on behind an error, and behind that of a target that has ended (JDWP, Error Constants,
-- VM_DEAD)
abbrev refusals : TargetCommand → Bool × Bool
refusals command = (is_tolerated command 13, is_tolerated command 112)

abbrev ended_alone : Bool × Bool
ended_alone = (false, true)

abbrev any_error : Bool × Bool
any_error = (true, true)

-- A target that won't suspend, run on, or clear an event request can't be debugged any more. Nor can one that doesn't
-- say its sizes of ids, or its classes.
essential : map refusals (an_effect (Does Suspend) ∷ an_effect (Does (Resume of_stop))
    ∷ an_effect (Does (Resume of_entry)) ∷ an_effect (Does (Resume of_composite))
    ∷ an_effect (Clear (wishes.Stop (at 5)) 4)
    ∷ a_question questions.IdSizes ∷ a_question questions.AllClasses ∷ [])
    ≡ ended_alone ∷ ended_alone ∷ ended_alone ∷ ended_alone ∷ ended_alone ∷ ended_alone ∷ ended_alone ∷ []
essential = refl

-- all else it may refuse
tolerated : map refusals (an_effect (Does Dispose) ∷ an_effect (Does Exit) ∷ an_effect (Set (wishes.Stop (at 5)))
    ∷ a_question questions.AllThreads ∷ a_question (questions.Methods (class 16))
    ∷ a_question (questions.FrameCount one) ∷ [])
    ≡ any_error ∷ any_error ∷ any_error ∷ any_error ∷ any_error ∷ any_error ∷ []
tolerated = refl

-- Which stop is told --------------------------------------------------------------------------------------------------

abbrev names : Request
names = request 4 (SetFunctionBreakpoints (record { breakpoints = record { name = codes "a.F.m"; plain = true } ∷ [] }))

abbrev throws : Request
throws = request 5 (SetExceptionBreakpoints (record { caught = true; uncaught = true }))

-- a function is listed, and its class is there
abbrev listed : Machine
listed = answered (drive 8 (set_as 3 (wishes.Watch (codes "a")) (drive 8 (heard (attached_with true) names))))
    (a_question questions.AllClasses) (an_answer (answers.AllClasses classes))

abbrev function_bound : Machine
function_bound = set_as 4 (wishes.Stop (at 2))
    (says_of (questions.LineTable (class 16) (record { 0 = 3 })) (answers.LineTable (record {
      start = pos 2;
      end = pos 12;
      lines = line 2 9 ∷ line 5 10 ∷ [];
    }))
    (says_of (questions.SourceFile (class 16)) (answers.SourceFile (codes "F"))
    (says_of (questions.Methods (class 16)) (answers.Methods (method 3 ∷ []))
    (drive 8 (answered (drive 8 listed) (a_question (questions.SourceFile (class 20))) (an_error 101))))))

-- and all exceptions are stopped at
abbrev both_set : Machine
both_set = drive 8 (set_as 7 (wishes.Thrown true true) (drive 8 (heard (drive 8 function_bound) throws)))

abbrev nowhere : Location
nowhere = record { tag = tags.Class; class = class 0; method = record { 0 = 0 }; index = 0 }

abbrev thrown : ℕ → ATargetEvent
thrown object = happened.Exception 7 one (at 9) (values.Object (record { 0 = object })) nowhere

-- Of one composite the breakpoint of a function is told before what is thrown, in whichever order they stand.
tells_function :
    (said_on 16 (happens (thrown 77 ∷ happened.Breakpoint 4 one (at 2) ∷ []) both_set)
    ≡ tells_stop (reasons.FunctionBreakpoint (1 ∷ [])) 1 ∷ [])
    × (said_on 16 (happens (happened.Breakpoint 4 one (at 2) ∷ thrown 77 ∷ []) both_set)
    ≡ tells_stop (reasons.FunctionBreakpoint (1 ∷ [])) 1 ∷ [])
unfolding due wanted load_of newly_lacked next_change wished need chained made_with each key_of chars encode lossy
    lossy_after is_utf8
tells_function = (refl, refl)

-- What was thrown -----------------------------------------------------------------------------------------------------

abbrev asks_info : Request
asks_info = request 6 (ExceptionInfo (record { thread_id = 1 }))

-- A thread threw twice in one stop: what it threw first is told.
tells_first : said_on 8 (heard (drive 16 (happens (thrown 77 ∷ thrown 78 ∷ happened.Breakpoint 4 one (at 2) ∷ [])
    both_set)) asks_info) ≡ asks (questions.ObjectType (record { 0 = 77 })) ∷ []
unfolding due wanted load_of newly_lacked next_change wished need chained made_with each key_of chars encode lossy
    lossy_after is_utf8
tells_first = refl

-- It is so behind a second hit, whose suspension is undone: with that Resume the stop isn't over.
abbrev two : ThreadId
two = record { 0 = 2 }

abbrev hit_again : Machine
hit_again = answered (drive 16 (happens (happened.Breakpoint 4 two (at 2) ∷ [])
    (drive 16 (happens (thrown 77 ∷ happened.Breakpoint 4 one (at 2) ∷ []) both_set))))
    (an_effect (Does (Resume of_composite))) (an_answer answers.Resume)

tells_still : said_on 8 (heard (drive 8 hit_again) asks_info) ≡ asks (questions.ObjectType (record { 0 = 77 })) ∷ []
unfolding due wanted load_of newly_lacked next_change wished need chained made_with each key_of chars encode lossy
    lossy_after is_utf8
tells_still = refl
