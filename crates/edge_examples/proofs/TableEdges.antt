-- Worked examples of tables at their edges: event requests, replies, options of the client, and rules of breakpoints.
use Rattle.std.proofs.Common.{◌≡◌, Bool, true, false, List, [], ◌∷◌, Option, Some, None, refl, map, negsuc, pos}
use Rattle.std.specs.Prelude.{codes}
use Rattle.break_rules.specs.Parsing.{condition_of, hit_of, pieces_at, template_of}
use Rattle.break_rules.specs.declared.rule.HitRule.TheVariants as counts
use Rattle.break_rules.specs.declared.rule.Part.TheVariants as sides
use Rattle.break_rules.specs.declared.rule.Piece.TheVariants as pieces
use Rattle.break_rules.specs.declared.rule.Seen.TheVariants as judges
use Rattle.jdwp_commands.specs.declared.answer.Answer.TheVariants as answers
use Rattle.jdwp_commands.specs.declared.effect.Effect.TheVariants as effects
use Rattle.jdwp_commands.specs.declared.question.Question.TheVariants as questions
use Rattle.jdwp_events.specs.declared.kind.EventKind.TheVariants as kinds
use Rattle.jdwp_events.specs.declared.kind.Policy.TheVariants.{All, NoThread}
use Rattle.jdwp_events.specs.declared.modifier.Modifier.TheVariants as modifiers
use Rattle.jdwp_values.specs.declared.value.Value.TheVariants as values
use Rattle.machine_model.specs.Frames.{client_line, first_column}
use Rattle.machine_model.specs.Judging.{seen_as}
use Rattle.machine_model.specs.Names.{an_answer, an_error}
use Rattle.machine_model.specs.declared.acts.TargetCommand.{TargetCommand}
use Rattle.machine_model.specs.declared.acts.Effect.TheVariants.{Clear, Does, Set}
use Rattle.machine_model.specs.declared.acts.TargetCommand.TheVariants.{Question as a_question, Effect as an_effect}
use Rattle.machine_model.specs.declared.parts.Deed.TheVariants.{Dispose, Exit, Resume, Suspend}
use Rattle.machine_model.specs.declared.parts.Suspension.TheVariants.{Stop as of_stop}
use Rattle.machine_model.specs.Replying.{is_end, unlisted_by}
use Rattle.machine_model.specs.Requests.{clear_of, set_of}
use Rattle.machine_model.specs.RuleTables.{functions_ruled, no_rules, none_ruled}
use Rattle.machine_model.specs.RuleTexts.{ruled_of}
use Rattle.machine_model.specs.State.{usual_options}
use Rattle.machine_model.specs.Values.{type_if}
use Rattle.machine_model.proofs.BreakpointExamples.{at}
use Rattle.wish_sets.specs.declared.wish.Depth.TheVariants.{Into, Out, Over}
use Rattle.wish_sets.specs.declared.wish.Wish.TheVariants as wishes
use Rattle.edge_examples.proofs.Words.{one}

-- Event requests (JDWP, EventRequest command set, Set and Clear; JDWP, Constants, EventKind and SuspendPolicy) --------

-- The starts and the ends of threads suspend nothing, and all else suspends the whole target.
sets_requests : (set_of wishes.ThreadStart ≡ effects.Set kinds.ThreadStart NoThread [])
    × (set_of wishes.ThreadDeath ≡ effects.Set kinds.ThreadDeath NoThread [])
    × (set_of (wishes.Watch (codes "a.b"))
    ≡ effects.Set kinds.ClassPrepare All (modifiers.ClassMatch (codes "a.b.*") ∷ []))
    × (set_of (wishes.Watch []) ≡ effects.Set kinds.ClassPrepare All (modifiers.ClassMatch (codes "*") ∷ []))
    × (set_of (wishes.Stop (at 5)) ≡ effects.Set kinds.Breakpoint All (modifiers.LocationOnly (at 5) ∷ []))
    × (set_of (wishes.Thrown true false)
    ≡ effects.Set kinds.Exception All (modifiers.ExceptionOnly (record { 0 = 0 }) 1 0 ∷ []))
sets_requests = (refl, refl, refl, refl, refl, refl)

-- a step is one of a line (JDWP, Constants, StepDepth and StepSize)
sets_steps :
    (set_of (wishes.Step one Into) ≡ effects.Set kinds.SingleStep All (modifiers.Step one (pos 1) (pos 0) ∷ []))
    × (set_of (wishes.Step one Over) ≡ effects.Set kinds.SingleStep All (modifiers.Step one (pos 1) (pos 1) ∷ []))
    × (set_of (wishes.Step one Out) ≡ effects.Set kinds.SingleStep All (modifiers.Step one (pos 1) (pos 2) ∷ []))
sets_steps = (refl, refl, refl)

clears_requests : (clear_of (wishes.Watch (codes "a")) 7 ≡ effects.Clear kinds.ClassPrepare 7)
    × (clear_of (wishes.Stop (at 5)) 7 ≡ effects.Clear kinds.Breakpoint 7)
clears_requests = (refl, refl)

-- Replies -------------------------------------------------------------------------------------------------------------

-- whether an error shows the target's end: that of a target that has ended, and another (JDWP, Error Constants,
-- VM_DEAD)
abbrev ends : TargetCommand → Bool × Bool
ends command = (is_end command (an_error 112), is_end command (an_error 13))

-- A target that is left may say that it has ended: it shows no end of its own.
shows_ends : map ends (an_effect (Does Dispose) ∷ an_effect (Does Exit) ∷ an_effect (Does Suspend)
    ∷ an_effect (Does (Resume of_stop)) ∷ an_effect (Set (wishes.Stop (at 5)))
    ∷ an_effect (Clear (wishes.Stop (at 5)) 4) ∷ a_question questions.AllThreads ∷ [])
    ≡ (false, false) ∷ (false, false) ∷ (true, false) ∷ (true, false) ∷ (true, false) ∷ (true, false)
    ∷ (true, false) ∷ []
shows_ends = refl

-- All classes are to be listed behind the watch of a package that the target grants, and behind nothing else; what was
-- to be listed stays so.
lists_classes : (unlisted_by (Set (wishes.Watch (codes "a"))) (an_answer (answers.Set 3)) false ≡ true)
    × (unlisted_by (Set (wishes.Watch (codes "a"))) (an_error 13) false ≡ false)
    × (unlisted_by (Set (wishes.Watch (codes "a"))) (an_error 13) true ≡ true)
    × (unlisted_by (Set (wishes.Stop (at 5))) (an_answer (answers.Set 3)) false ≡ false)
    × (unlisted_by (Clear (wishes.Watch (codes "a")) 3) (an_answer answers.Clear) false ≡ false)
lists_classes = (refl, refl, refl, refl, refl)

-- Options (DAP specification, Initialize request, linesStartAt1, columnsStartAt1 and supportsVariableType) ------------

-- one that says nothing counts lines and columns from 1, and shows no types
counts_from_one : (client_line usual_options.lines_from_one (pos 10) ≡ pos 10)
    × (first_column usual_options.columns_from_one ≡ 1) × (type_if usual_options.shows_types (codes "I") ≡ None)
counts_from_one = (refl, refl, refl)

-- Rules (DAP specification, Types, SourceBreakpoint and FunctionBreakpoint) -------------------------------------------

-- each of the three texts is kept without the others
keeps_each : (ruled_of 7 (Some (codes "true")) None None
    ≡ record (no_rules 7) { condition = Some (record { left = sides.Truth true; rest = None }) } ∷ [])
    × (ruled_of 7 None (Some (codes "% 2")) None
    ≡ record (no_rules 7) { hit = Some (record { rule = counts.Multiple; count = 2 }) } ∷ [])
    × (ruled_of 7 None None (Some (codes "here"))
    ≡ record (no_rules 7) { log = Some (record { pieces = pieces.Plain (codes "here") ∷ [] }) } ∷ [])
unfolding condition_of hit_of template_of pieces_at
keeps_each = (refl, refl, refl)

-- functions that are set again replace the others (DAP specification, SetFunctionBreakpoints request)
replaces_functions : functions_ruled (no_rules 4 ∷ []) (functions_ruled (no_rules 3 ∷ []) none_ruled)
    ≡ record { lists = []; functions = no_rules 4 ∷ [] }
replaces_functions = refl

-- A char is judged as its number, a truth value by whether its byte is 0, null as the object 0, and what has a point as
-- nothing (Java Language Specification, Types, Values, and Variables).
judges_values : (seen_as (values.Char 97) ≡ judges.Number (pos 97))
    × (seen_as (values.Byte (negsuc 0)) ≡ judges.Number (negsuc 0))
    × (seen_as (values.Boolean 0) ≡ judges.Truth false) × (seen_as (values.Boolean 1) ≡ judges.Truth true)
    × (seen_as (values.Boolean 2) ≡ judges.Truth true)
    × (seen_as (values.String (record { 0 = 0 })) ≡ judges.Reference 0) × (seen_as (values.Float 0) ≡ judges.Other)
judges_values = (refl, refl, refl, refl, refl, refl, refl)
