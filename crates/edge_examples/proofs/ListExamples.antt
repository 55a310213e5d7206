-- Worked examples of breakpoints, at their edges.
use Rattle.std.proofs.Common.{◌≡◌, ℕ, Bool, true, false, List, [], ◌∷◌, Some, refl}
use Rattle.std.specs.Prelude.{pos, codes}
use Rattle.std.specs.Str.{chars, is_utf8}
use lib.Utf8.{encode}
use Rattle.class_tables.specs.Facts.{Known, nothing}
use Rattle.dap_messages.specs.declared.requests.SourceBreakpoint.{SourceBreakpoint}
use Rattle.dap_messages.specs.declared.told.Breakpoint.{Breakpoint}
use Rattle.dap_messages.specs.declared.told.BreakpointStatus.{BreakpointStatus}
use Rattle.dap_messages.specs.declared.told.BreakpointStatus.TheVariants as status
use Rattle.dap_messages.specs.declared.told.Event.TheVariants as events
use Rattle.dap_messages.specs.declared.told.Outcome.TheVariants as outcomes
use Rattle.dap_messages.specs.declared.told.Shape.TheVariants as shapes
use Rattle.jdwp_commands.specs.declared.answer.Answer.TheVariants as answers
use Rattle.jdwp_commands.specs.declared.question.Question.TheVariants as questions
use Rattle.jdwp_events.specs.declared.event.Event.TheVariants as happened
use Rattle.jdwp_values.specs.Lossy.{lossy, lossy_after}
use Rattle.jdwp_values.specs.declared.class.LineTable.{LineTable}
use Rattle.jdwp_values.specs.declared.location.Location.{Location}
use Rattle.jdwp_values.specs.declared.tag.TypeTag.TheVariants as tags
use Rattle.machine_model.specs.Binding.{sight_alone}
use Rattle.machine_model.specs.Breakpoints.{key_of}
use Rattle.machine_model.specs.Due.{due, load_of, newly_lacked, wanted}
use Rattle.machine_model.specs.Names.{Answer, Question, Replied, Request, SetBreakpoints, an_answer, an_error, an_event}
use Rattle.machine_model.specs.declared.acts.Want.{Want}
use Rattle.machine_model.specs.declared.acts.Effect.TheVariants.{Set}
use Rattle.machine_model.specs.declared.parts.Deed.TheVariants.{Resume}
use Rattle.machine_model.specs.declared.acts.TargetCommand.TheVariants.{Question as a_question, Effect as an_effect}
use Rattle.machine_model.specs.declared.parts.Suspension.TheVariants.{Composite as of_composite}
use Rattle.machine_model.specs.Plans.{asking, chained, each, has, lacks, made_with, need}
use Rattle.machine_model.specs.Replying.{answered, learnt}
use Rattle.machine_model.specs.Runs.{Message, heard}
use Rattle.machine_model.specs.State.{Machine}
use Rattle.machine_model.proofs.BreakpointExamples.{at, class, classes, line, method, says_of}
use Rattle.wish_sets.specs.Wished.{wished}
use Rattle.wish_sets.specs.Wishes.{next_change}
use Rattle.wish_sets.specs.declared.wish.Wish.TheVariants as wishes
use Rattle.edge_examples.proofs.Words.{attached_with, does, drive, happens, one, request, responds}
use Rattle.edge_examples.proofs.Words.{said_on, set_as}

-- Words ---------------------------------------------------------------------------------------------------------------

abbrev at_line : ℕ → SourceBreakpoint
at_line line = record { line = line; plain = true }

abbrev sets : ℕ → Request
sets line = request 4 (SetBreakpoints (record { path = codes "s/a/F"; breakpoints = at_line line ∷ [] }))

abbrev shown : ℕ → BreakpointStatus → Breakpoint
shown line standing = record { id = 1; line = Some line; status = standing }

abbrev lists : ℕ → BreakpointStatus → Message
lists line standing =
    responds (sets line) (outcomes.Success (shapes.Breakpoints (shown line standing ∷ [])))

-- the package is watched, and these classes are there
abbrev listed : Bool → ℕ → Answer → Machine
listed from_one line all = answered
    (drive 8 (set_as 3 (wishes.Watch (codes "a")) (drive 8 (heard (attached_with from_one) (sets line)))))
    (a_question questions.AllClasses) (an_answer all)

abbrev lines_of : ℕ → ℕ → Question
lines_of type id = questions.LineTable (class type) (record { 0 = id })

abbrev table : ℕ → ℕ → LineTable
table index number = record { start = pos 0; end = pos 12; lines = line index number ∷ [] }

-- Lines ---------------------------------------------------------------------------------------------------------------

-- a class is prepared later, and has this line
abbrev prepared : Machine → ℕ → Machine
prepared m number = says_of (lines_of 16 3) (answers.LineTable (table 5 number))
    (says_of (questions.Methods (class 16)) (answers.Methods (method 3 ∷ []))
    (says_of (questions.SourceFile (class 16)) (answers.SourceFile (codes "F"))
    (drive 8 (happens (happened.ClassPrepare 3 one tags.Class (class 16) (codes "La/F;") (pos 7) ∷ []) (drive 8 m)))))

abbrev later_bound : Bool → ℕ → ℕ → Machine
later_bound from_one line number =
    set_as 4 (wishes.Stop (at 5)) (prepared (listed from_one line (answers.AllClasses [])) number)

abbrev tells_verified : ℕ → List Message
tells_verified line =
    Message.tells (an_event (events.Breakpoint (shown line status.Verified))) ∷ does (Resume of_composite) ∷ []

-- The event tells a line as the client counts lines, from 0 or from 1. A line above 65,535 is bound like any other.
tells_lines : (said_on 8 (later_bound false 9 10) ≡ tells_verified 9)
    × (said_on 8 (later_bound true 10 10) ≡ tells_verified 10)
    × (said_on 8 (later_bound true 70000 70000) ≡ tells_verified 70000)
unfolding due wanted load_of newly_lacked next_change wished need chained made_with each key_of chars encode lossy
    lossy_after is_utf8
tells_lines = (refl, refl, refl)

-- Two places ----------------------------------------------------------------------------------------------------------

-- two methods of the class have the line
abbrev other_place : Location
other_place = record { tag = tags.Class; class = class 16; method = record { 0 = 4 }; index = 2 }

abbrev two_places : Machine
two_places = says_of (lines_of 16 4) (answers.LineTable (table 2 10))
    (says_of (lines_of 16 3) (answers.LineTable (table 5 10))
    (says_of (questions.Methods (class 16)) (answers.Methods (method 3 ∷ method 4 ∷ []))
    (says_of (questions.SourceFile (class 16)) (answers.SourceFile (codes "F"))
    (drive 8 (answered (drive 8 (listed true 10 (answers.AllClasses classes)))
    (a_question (questions.SourceFile (class 20))) (an_error 101))))))

-- the target replies to both event requests
abbrev replied_both : Replied → Replied → Machine
replied_both first second = answered
    (drive 8 (answered two_places (an_effect (Set (wishes.Stop (at 5)))) first))
    (an_effect (Set (wishes.Stop other_place))) second

abbrev granted : ℕ → Replied
granted id = an_answer (answers.Set id)

-- A breakpoint is verified where it stands at one place at least, whichever the target refuses; it is told as refused
-- where it stands at none.
tells_places : (said_on 8 (replied_both (granted 4) (granted 5)) ≡ lists 10 status.Verified ∷ [])
    × (said_on 8 (replied_both (granted 4) (an_error 24)) ≡ lists 10 status.Verified ∷ [])
    × (said_on 8 (replied_both (an_error 24) (granted 4)) ≡ lists 10 status.Verified ∷ [])
    × (said_on 8 (replied_both (an_error 24) (an_error 24)) ≡ lists 10 status.RefusedByTarget ∷ [])
unfolding due wanted load_of newly_lacked next_change wished need chained made_with each key_of chars encode lossy
    lossy_after is_utf8
tells_places = (refl, refl, refl, refl)

-- Line tables ---------------------------------------------------------------------------------------------------------

abbrev known : Known
known = learnt (lines_of 16 3) (Some (answers.LineTable (table 5 10))) nothing

-- The lines of a method are known by its class and its id: another class may have a method with the same id.
knows_lines : (need (sight_alone known) (asking (λ answer. answer) (Want.Fact (lines_of 16 3)))
    ≡ has (Some (answers.LineTable (table 5 10))))
    × (need (sight_alone known) (asking (λ answer. answer) (Want.Fact (lines_of 17 3)))
    ≡ lacks (Want.Fact (lines_of 17 3)) [])
    × (need (sight_alone known) (asking (λ answer. answer) (Want.Fact (lines_of 16 4)))
    ≡ lacks (Want.Fact (lines_of 16 4)) [])
unfolding need
knows_lines = (refl, refl, refl)
