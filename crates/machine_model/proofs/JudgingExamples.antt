-- Worked examples of hits that are judged, checked by computation (DAP specification, Types, SourceBreakpoint, condition,
-- hitCondition and logMessage).
use Rattle.std.proofs.Common.{◌≡◌, ℕ, pos, List, [], ◌∷◌, ◌++◌, true, Option, Some, None, refl}
use Rattle.std.specs.Prelude.{codes}
use Rattle.break_rules.specs.declared.rule.Comparison.TheVariants.{Equal}
use Rattle.break_rules.specs.declared.rule.HitRule.TheVariants.{Multiple}
use Rattle.break_rules.specs.declared.rule.Part.TheVariants as sides
use Rattle.break_rules.specs.declared.rule.Piece.TheVariants as pieces
use Rattle.class_tables.specs.Facts.{nothing}
use Rattle.class_tables.specs.Lookups.{found_in}
use Rattle.field_exprs.specs.declared.expr.Expr.{Expr}
use Rattle.field_exprs.specs.declared.expr.Head.TheVariants.{Name}
use Rattle.jdwp_commands.specs.declared.answer.Answer.TheVariants as answers
use Rattle.jdwp_commands.specs.declared.question.Question.TheVariants as questions
use Rattle.jdwp_values.specs.declared.id.ClassId.{ClassId}
use Rattle.jdwp_values.specs.declared.id.MethodId.{MethodId}
use Rattle.jdwp_values.specs.declared.tag.TypeTag.TheVariants.{Class}
use Rattle.jdwp_values.specs.declared.value.Value.{Value}
use Rattle.jdwp_values.specs.declared.value.Value.TheVariants as values
use Rattle.machine_model.specs.Caught.{caught}
use Rattle.machine_model.specs.Judging.{hits_plan}
use Rattle.machine_model.specs.Names.{Judgement, Location, Replied, Ruled, Sent, Strike, ThreadId, Want, an_answer, an_error}
use Rattle.machine_model.specs.Plans.{Need, Sight, chained, each, has, lacks, made_with, need}
use Rattle.machine_model.specs.RuleTables.{Rules, no_rules, with_passes}

-- Words ---------------------------------------------------------------------------------------------------------------

abbrev class : ClassId
class = record { 0 = 32 }

abbrev method : MethodId
method = record { 0 = 33 }

abbrev place : Location
place = record { tag = Class; class = class; method = method; index = 7 }

abbrev one : ThreadId
one = record { 0 = 1 }

abbrev two : ThreadId
two = record { 0 = 2 }

abbrev named : List ℕ → Expr
named name = record { head = Name name; steps = [] }

-- the rules of breakpoints of a source
abbrev of_lines : List Ruled → Rules
of_lines ruled = record { lists = (codes "Main.java", ruled) ∷ []; functions = [] }

-- a thread came to a breakpoint
abbrev strike : ThreadId → ℕ → Strike
strike thread id = record { thread = thread; at = place; entry = record { id = id; line = true } }

-- what was asked, with its replies
abbrev sees : List Sent → Sight
sees asked = record { classes = found_in nothing; asked = asked }

abbrev sent : Want → Replied → Sent
sent want replied = record { want = want; reply = Some replied }

-- the innermost frame of a thread
abbrev frame_of : ThreadId → Want
frame_of thread = Want.May (questions.Frames thread (pos 0) (pos 1))

abbrev frame : ThreadId → Sent
frame thread = sent (frame_of thread) (an_answer (answers.Frames (record { id = record { 0 = 9 }; at = place } ∷ [])))

-- `n` is the one variable of the method
abbrev variables : Want
variables = Want.Fact (questions.VariableTable class method)

abbrev table : Sent
table = sent variables (an_answer (answers.VariableTable (pos 0)
    (record { index = 0; name = codes "n"; signature = codes "I"; length = 20; slot = pos 2 } ∷ [])))

abbrev n_of : ThreadId → Want
n_of thread = Want.May (questions.GetSlots thread (record { 0 = 9 }) (record { slot = pos 2; tag = 73 } ∷ []))

abbrev n_is : ThreadId → Value → Sent
n_is thread value = sent (n_of thread) (an_answer (answers.GetSlots (value ∷ [])))

abbrev found : List ℕ → List (List ℕ) → List Strike → Need Judgement
found passed logged stops = has (record { passed = passed; logged = logged; stops = stops })

-- A condition ---------------------------------------------------------------------------------------------------------

-- breakpoint 1 stops where n is 5
abbrev if_five : Rules
if_five = of_lines (record (no_rules 1) {
  condition = Some (record { left = sides.Path (named (codes "n")); rest = Some (Equal, sides.Number (pos 5)) });
} ∷ [])

lacks_the_frame : need (sees []) (hits_plan if_five (strike one 1 ∷ [])) ≡ lacks (frame_of one) []
unfolding need chained made_with each caught
lacks_the_frame = refl

then_the_variables : need (sees (frame one ∷ [])) (hits_plan if_five (strike one 1 ∷ [])) ≡ lacks variables []
unfolding need chained made_with each caught
then_the_variables = refl

then_the_value : need (sees (frame one ∷ table ∷ [])) (hits_plan if_five (strike one 1 ∷ [])) ≡ lacks (n_of one) []
unfolding need chained made_with each caught
then_the_value = refl

stops_at_five : need (sees (frame one ∷ table ∷ n_is one (values.Int (pos 5)) ∷ [])) (hits_plan if_five (strike one 1 ∷ []))
    ≡ found (1 ∷ []) [] (strike one 1 ∷ [])
unfolding need chained made_with each caught
stops_at_five = refl

goes_on_at_six : need (sees (frame one ∷ table ∷ n_is one (values.Int (pos 6)) ∷ []))
    (hits_plan if_five (strike one 1 ∷ [])) ≡ found [] [] []
unfolding need chained made_with each caught
goes_on_at_six = refl

-- a question that is refused fails nothing: the condition holds (JDWP, Error Constants, INVALID_THREAD)
stops_where_refused : need (sees (sent (frame_of one) (an_error 10) ∷ [])) (hits_plan if_five (strike one 1 ∷ []))
    ≡ found (1 ∷ []) [] (strike one 1 ∷ [])
unfolding need chained made_with each caught
stops_where_refused = refl

stops_without_a_value : need (sees (frame one ∷ table ∷ sent (n_of one) (an_error 35) ∷ []))
    (hits_plan if_five (strike one 1 ∷ [])) ≡ found (1 ∷ []) [] (strike one 1 ∷ [])
unfolding need chained made_with each caught
stops_without_a_value = refl

-- no frame is there
stops_without_a_frame : need (sees (sent (frame_of one) (an_answer (answers.Frames [])) ∷ []))
    (hits_plan if_five (strike one 1 ∷ [])) ≡ found (1 ∷ []) [] (strike one 1 ∷ [])
unfolding need chained made_with each caught
stops_without_a_frame = refl

-- two threads at once: all that either lacks may be asked, and each is judged by itself
lacks_both : need (sees []) (hits_plan if_five (strike one 1 ∷ strike two 1 ∷ [])) ≡ lacks (frame_of one) (frame_of two ∷ [])
unfolding need chained made_with each caught
lacks_both = refl

one_of_two : need (sees (frame two ∷ frame one ∷ table ∷ n_is one (values.Int (pos 6)) ∷ n_is two (values.Int (pos 5)) ∷ []))
    (hits_plan if_five (strike one 1 ∷ strike two 1 ∷ [])) ≡ found (1 ∷ []) [] (strike two 1 ∷ [])
unfolding need chained made_with each caught
one_of_two = refl

-- without rules nothing is asked
without_rules : need (sees []) (hits_plan if_five (strike one 2 ∷ [])) ≡ found (2 ∷ []) [] (strike one 2 ∷ [])
unfolding need chained made_with each caught
without_rules = refl

-- Counts --------------------------------------------------------------------------------------------------------------

-- breakpoint 1 stops at each second hit
abbrev each_second : ℕ → Rules
each_second passed = of_lines (record (no_rules 1) {
  hit = Some (record { rule = Multiple; count = 2 });
  passed = passed;
} ∷ [])

first_goes_on : need (sees []) (hits_plan (each_second 0) (strike one 1 ∷ [])) ≡ found (1 ∷ []) [] []
unfolding need chained made_with each caught
first_goes_on = refl

second_stops : need (sees []) (hits_plan (each_second 1) (strike one 1 ∷ [])) ≡ found (1 ∷ []) [] (strike one 1 ∷ [])
unfolding need chained made_with each caught
second_stops = refl

-- two threads came there at once: the second is the second, and both are counted
second_of_two : need (sees []) (hits_plan (each_second 0) (strike one 1 ∷ strike two 1 ∷ []))
    ≡ found (1 ∷ 1 ∷ []) [] (strike two 1 ∷ [])
unfolding need chained made_with each caught
second_of_two = refl

counted_then : with_passes (1 ∷ 1 ∷ []) (each_second 0) ≡ each_second 2
counted_then = refl

-- a hit whose condition is false isn't counted, so the next is the first
abbrev second_of_fives : Rules
second_of_fives = of_lines (record (no_rules 1) {
  condition = Some (record { left = sides.Path (named (codes "n")); rest = Some (Equal, sides.Number (pos 5)) });
  hit = Some (record { rule = Multiple; count = 2 });
} ∷ [])

false_is_no_pass : need (sees (frame one ∷ frame two ∷ table ∷ n_is one (values.Int (pos 6))
    ∷ n_is two (values.Int (pos 5)) ∷ [])) (hits_plan second_of_fives (strike one 1 ∷ strike two 1 ∷ []))
    ≡ found (1 ∷ []) [] []
unfolding need chained made_with each caught
false_is_no_pass = refl

-- Messages to log -----------------------------------------------------------------------------------------------------

-- breakpoint 1 logs, and 2 beside it stops
abbrev logs_n_and_m : Rules
logs_n_and_m = of_lines (record (no_rules 1) {
  log = Some (record {
    pieces = pieces.Plain (codes "n is ") ∷ pieces.Path (named (codes "n")) ∷ pieces.Plain (codes ", ")
        ∷ pieces.Path (named (codes "m")) ∷ [];
  });
} ∷ [])

-- what `m` is asked for: a field of the receiver, which isn't there
abbrev receiver : Sent
receiver = sent (Want.May (questions.ThisObject one (record { 0 = 9 })))
    (an_answer (answers.ThisObject (values.Object (record { 0 = 0 }))))

logs_what_is_there : need (sees (frame one ∷ table ∷ n_is one (values.Object (record { 0 = 0 })) ∷ receiver ∷ []))
    (hits_plan logs_n_and_m (strike one 1 ∷ strike one 2 ∷ []))
    ≡ found (1 ∷ 2 ∷ []) ((codes "n is null, <noSuchName>" ++ 10 ∷ []) ∷ []) (strike one 2 ∷ [])
unfolding need chained made_with each caught
logs_what_is_there = refl

-- a thread that isn't there any more, and a question that is refused otherwise
logs_no_thread : need (sees (sent (frame_of one) (an_error 10) ∷ [])) (hits_plan logs_n_and_m (strike one 1 ∷ []))
    ≡ found (1 ∷ []) ((codes "n is <unknownThread>, <unknownThread>" ++ 10 ∷ []) ∷ []) []
unfolding need chained made_with each caught
logs_no_thread = refl

logs_an_error : need (sees (frame one ∷ table ∷ sent (n_of one) (an_error 35) ∷ receiver ∷ []))
    (hits_plan logs_n_and_m (strike one 1 ∷ []))
    ≡ found (1 ∷ []) ((codes "n is <targetError>, <noSuchName>" ++ 10 ∷ []) ∷ []) []
unfolding need chained made_with each caught
logs_an_error = refl
