-- Hits: which breakpoints with a condition, a hit condition or a message to log are passed, what they log, and which stop
-- a thread. All that a composite tells of are judged by one look-up (DAP specification, Types, SourceBreakpoint,
-- condition, hitCondition and logMessage; JDWP, ThreadReference command set, Frames).
use Rattle.std.specs.Prelude.{ℕ, suc, pos, ◌+◌, ◌==◌, ◌∷◌, ◌++◌, Bool, true, false, not, cond, List, [], map, filter}
use Rattle.std.specs.Prelude.{codes, Option, None, Some, Result as Tried, Ok, Err}
use Rattle.break_rules.specs.Judging.{is_met, judged}
use Rattle.break_rules.specs.Rendering.{paths_in, rendered}
use Rattle.break_rules.specs.declared.rule.Comparison.{Comparison}
use Rattle.break_rules.specs.declared.rule.Condition.{Condition}
use Rattle.break_rules.specs.declared.rule.Hit.{Hit}
use Rattle.break_rules.specs.declared.rule.Part.{Part as Side}
use Rattle.break_rules.specs.declared.rule.Part.TheVariants as sides
use Rattle.break_rules.specs.declared.rule.Seen.{Seen as Judged}
use Rattle.break_rules.specs.declared.rule.Seen.TheVariants as judges
use Rattle.break_rules.specs.declared.rule.Template.{Template}
use Rattle.dap_messages.specs.Failures.{message_of}
use Rattle.dap_messages.specs.Telling.{no_such_name, target_error, unknown_thread}
use Rattle.field_exprs.specs.declared.expr.Expr.{Expr}
use Rattle.jdwp_commands.specs.declared.answer.Answer.TheVariants as answers
use Rattle.jdwp_commands.specs.declared.listed.Frame.{Frame}
use Rattle.jdwp_commands.specs.declared.question.Question.TheVariants as questions
use Rattle.jdwp_values.specs.declared.value.Value.{Value}
use Rattle.jdwp_values.specs.declared.value.Value.TheVariants as values
use Rattle.machine_model.specs.Caught.{caught}
use Rattle.machine_model.specs.Expressions.{Sought, named_in}
use Rattle.machine_model.specs.Names.{Answer, Failure, Judgement, Strike, ThreadId}
use Rattle.machine_model.specs.Plans.{Plan, Refusal, both, chained, each, gives, made_with, no_thread, other_error, tries}
use Rattle.machine_model.specs.RuleTables.{Rules, rules_of, times}
use Rattle.machine_model.specs.State.{is_some}
use Rattle.machine_model.specs.Values.{Valued, by_id, length_plan, text_plan, type_plan}
use Rattle.stop_refs.specs.declared.thing.FrameThing.{FrameThing}
use Rattle.value_views.specs.Texts.{value_text}
use Rattle.value_views.specs.declared.known.Known.TheVariants as knowns

-- Values of expressions -----------------------------------------------------------------------------------------------

-- a value, or why it can't be had
abbrev pub Taken : Type 0 → Type 0
Taken A = Tried A Failure

-- an error is told without its number, since a target may choose it
abbrev pub failure_by : Refusal → Failure
failure_by no_thread = unknown_thread
failure_by other_error = target_error 0

-- the innermost frame of a thread; one without frames has no names (JDWP, ThreadReference command set, Frames)
abbrev pub frame_first : ThreadId → List Frame → Taken FrameThing
frame_first thread [] = Err no_such_name
frame_first thread (frame ∷ others) = Ok (record { thread = thread; frame = frame.id; at = frame.at })

abbrev pub frame_heard : ThreadId → Tried Answer Refusal → Taken FrameThing
frame_heard thread (Ok (answers.Frames frames)) = frame_first thread frames
frame_heard thread (Ok _) = Err no_such_name
frame_heard thread (Err why) = Err (failure_by why)

abbrev pub innermost_plan : ThreadId → Plan (Taken FrameThing)
innermost_plan thread = tries (questions.Frames thread (pos 0) (pos 1)) (λ heard. gives (frame_heard thread heard))

-- what was sought, where no error came
abbrev pub sought_taken : Tried Sought Refusal → Taken Valued
sought_taken (Ok sought) = sought
sought_taken (Err why) = Err (failure_by why)

-- what an expression names in that frame, as `evaluate` finds it (DAP specification, Evaluate request)
abbrev pub value_by : Expr → Taken FrameThing → Plan (Taken Valued)
value_by e (Ok frame) = made_with sought_taken (caught (named_in frame e))
value_by e (Err failure) = gives (Err failure)

-- in the innermost frame of that thread
abbrev pub path_plan : ThreadId → Expr → Plan (Taken Valued)
path_plan thread e = chained (innermost_plan thread) (value_by e)

-- Texts of values -----------------------------------------------------------------------------------------------------

abbrev pub text_taken : Tried (List ℕ) Refusal → Taken (List ℕ)
text_taken (Ok text) = Ok text
text_taken (Err why) = Err (failure_by why)

-- A value as `evaluate` shows it (DAP specification, Evaluate request, result). One question stands behind the other, so
-- that the error that counts is the one that comes: of a string its text is asked, of an array its type and then its
-- length, of another object its type.
abbrev pub array_text : Value → ℕ → Plan (List ℕ)
array_text value id = chained (type_plan id)
    (λ signature. made_with (λ total. value_text value (knowns.Array signature total)) (length_plan id))

abbrev pub string_text : Value → ℕ → Plan (List ℕ)
string_text value id = made_with (λ text. value_text value (knowns.Text text)) (text_plan id)

abbrev pub object_text : Value → ℕ → Plan (List ℕ)
object_text value id = made_with (λ signature. value_text value (knowns.Object signature)) (type_plan id)

abbrev pub plain_text : Value → Plan (List ℕ)
plain_text value = gives (value_text value knowns.Plain)

abbrev pub shown_text : Value → Value → Plan (List ℕ)
shown_text value (values.Object o) = by_id o.0 (plain_text value) (object_text value)
shown_text value (values.Array o) = by_id o.0 (plain_text value) (array_text value)
shown_text value (values.String o) = by_id o.0 (plain_text value) (string_text value)
shown_text value (values.Thread o) = by_id o.0 (plain_text value) (object_text value)
shown_text value (values.ThreadGroup o) = by_id o.0 (plain_text value) (object_text value)
shown_text value (values.ClassLoader o) = by_id o.0 (plain_text value) (object_text value)
shown_text value (values.ClassObject o) = by_id o.0 (plain_text value) (object_text value)
shown_text value _ = plain_text value

-- what an expression names, as it is shown
abbrev pub text_by : Taken Valued → Plan (Taken (List ℕ))
text_by (Ok v) = made_with text_taken (caught (shown_text v.value v.value))
text_by (Err failure) = gives (Err failure)

abbrev pub path_text : ThreadId → Expr → Plan (Taken (List ℕ))
path_text thread e = chained (path_plan thread e) text_by

-- Conditions ----------------------------------------------------------------------------------------------------------

-- a value as a condition sees it (Java Language Specification, Types, Values, and Variables)
abbrev pub seen_as : Value → Judged
seen_as (values.Byte n) = judges.Number n
seen_as (values.Short n) = judges.Number n
seen_as (values.Int n) = judges.Number n
seen_as (values.Long n) = judges.Number n
seen_as (values.Char n) = judges.Number (pos n)
seen_as (values.Boolean byte) = judges.Truth (not (byte == 0))
seen_as (values.Float bits) = judges.Other
seen_as (values.Double bits) = judges.Other
seen_as values.Void = judges.Other
seen_as (values.Object o) = judges.Reference o.0
seen_as (values.Array o) = judges.Reference o.0
seen_as (values.String o) = judges.Reference o.0
seen_as (values.Thread o) = judges.Reference o.0
seen_as (values.ThreadGroup o) = judges.Reference o.0
seen_as (values.ClassLoader o) = judges.Reference o.0
seen_as (values.ClassObject o) = judges.Reference o.0

abbrev pub side_seen : Taken Valued → Option Judged
side_seen (Ok v) = Some (seen_as v.value)
side_seen (Err failure) = None

-- a side of a condition; nothing is asked but of an expression
abbrev pub side_plan : ThreadId → Side → Plan (Option Judged)
side_plan thread (sides.Number n) = gives (Some (judges.Number n))
side_plan thread (sides.Truth is) = gives (Some (judges.Truth is))
side_plan thread sides.Null = gives (Some (judges.Reference 0))
side_plan thread (sides.Path e) = made_with side_seen (path_plan thread e)

-- a condition that can't be judged holds
abbrev pub unless_false : Option Bool → Bool
unless_false None = true
unless_false (Some is) = is

abbrev pub holds_alone : Option Judged → Bool
holds_alone None = true
holds_alone (Some left) = unless_false (judged left None)

abbrev pub holds_by : Comparison → Option Judged × Option Judged → Bool
holds_by comparison (None, right) = true
holds_by comparison ((Some left), None) = true
holds_by comparison ((Some left), (Some right)) = unless_false (judged left (Some (comparison, right)))

abbrev pub sides_plan : ThreadId → Side → Option (Comparison × Side) → Plan Bool
sides_plan thread left None = made_with holds_alone (side_plan thread left)
sides_plan thread left (Some rest) =
    made_with (holds_by rest.0) (both (side_plan thread left) (side_plan thread rest.1))

abbrev pub condition_plan : ThreadId → Option Condition → Plan Bool
condition_plan thread None = gives true
condition_plan thread (Some condition) = sides_plan thread condition.left condition.rest

-- whether a breakpoint is passed: it has no condition, or its condition holds
abbrev pub pass_plan : Rules → Strike → Plan (Strike × Bool)
pass_plan rules strike = made_with (λ passes. (strike, passes))
    (condition_plan strike.thread (rules_of rules strike.entry.id).condition)

-- Hit conditions ------------------------------------------------------------------------------------------------------

abbrev pub is_met_by : Option Hit → ℕ → Bool
is_met_by None passes = true
is_met_by (Some hit) passes = is_met hit passes

-- the breakpoints that are passed, in order, one as often as it is
abbrev pub passes_in : List (Strike × Bool) → List ℕ
passes_in [] = []
passes_in (one ∷ others) = cond one.1 (one.0.entry.id ∷ passes_in others) (passes_in others)

-- its hit condition is met by the passes before this composite, those before it in this composite, and this one (DAP
-- specification, Types, SourceBreakpoint, hitCondition)
abbrev pub is_counted : Rules → List ℕ → ℕ → Bool
is_counted rules before id = is_met_by (rules_of rules id).hit (suc ((rules_of rules id).passed + times before id))

abbrev pub fired_if : Bool → Strike → List Strike
fired_if true strike = strike ∷ []
fired_if false strike = []

-- What fires: what is passed, where its hit condition is met. These ids were passed before in this composite.
abbrev pub fired_from : Rules → List ℕ → List (Strike × Bool) → List Strike
fired_from rules before [] = []
fired_from rules before (one ∷ others) =
    cond one.1
    (fired_if (is_counted rules before one.0.entry.id) one.0
    ++ fired_from rules (before ++ one.0.entry.id ∷ []) others)
    (fired_from rules before others)

-- Messages to log -----------------------------------------------------------------------------------------------------

-- what fires and has a message logs it; all else that fires stops (DAP specification, Types, SourceBreakpoint, logMessage)
abbrev pub logs : Rules → Strike → Bool
logs rules strike = is_some (rules_of rules strike.entry.id).log

abbrev pub stops : Rules → Strike → Bool
stops rules strike = not (logs rules strike)

-- what can't be had is shown by its failure
abbrev pub said_as : Taken (List ℕ) → List ℕ
said_as (Ok text) = text
said_as (Err failure) = codes "<" ++ message_of failure.code ++ codes ">"

-- the text ends with a newline (DAP specification, Events, Output)
abbrev pub logged_with : Template → List (Taken (List ℕ)) → List ℕ
logged_with template taken = rendered template (map said_as taken) ++ 10 ∷ []

abbrev pub template_plan : ThreadId → Option Template → Plan (List ℕ)
template_plan thread None = gives []
template_plan thread (Some template) =
    made_with (logged_with template) (each (path_text thread) (paths_in template.pieces))

abbrev pub log_plan : Rules → Strike → Plan (List ℕ)
log_plan rules strike = template_plan strike.thread (rules_of rules strike.entry.id).log

-- The look-up ---------------------------------------------------------------------------------------------------------

-- what was passed, what is logged, and what of that which fires stops
abbrev pub judgement : Rules → List ℕ → List Strike → List (List ℕ) → Judgement
judgement rules passed fired logged = record { passed = passed; logged = logged; stops = filter (stops rules) fired }

-- once it is known what is passed, all that fires and has a message is asked for what it logs
abbrev pub fired_plan : Rules → List ℕ → List Strike → Plan Judgement
fired_plan rules passed fired =
    made_with (judgement rules passed fired) (each (log_plan rules) (filter (logs rules) fired))

abbrev pub judged_plan : Rules → List (Strike × Bool) → Plan Judgement
judged_plan rules passed = fired_plan rules (passes_in passed) (fired_from rules [] passed)

-- all are judged side by side
abbrev pub hits_plan : Rules → List Strike → Plan Judgement
hits_plan rules strikes = chained (each (pass_plan rules) strikes) (judged_plan rules)
