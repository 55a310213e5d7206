-- What hits come to in a world: which breakpoints are passed, which of them fire, what these log and which stop a thread
-- (DAP specification, Types, SourceBreakpoint, condition, hitCondition and logMessage).
use Rattle.std.specs.Prelude.{ℕ, ℤ, pos, not, ◌+◌, ◌==◌, ◌++◌, Bool, true, false, if◌then◌else◌, List, [], ◌∷◌, filter}
use Rattle.std.specs.Prelude.{length, map, Option, Some, None, option_and_then, option_map}
use Rattle.std.specs.Option.{option_map_or}
use Rattle.std.specs.Result.{result_ok}
use Rattle.break_rules.specs.Judging.{is_met, judged}
use Rattle.break_rules.specs.Rendering.{paths_in, rendered}
use Rattle.break_rules.specs.declared.rule.Comparison.{Comparison}
use Rattle.break_rules.specs.declared.rule.Condition.{Condition}
use Rattle.break_rules.specs.declared.rule.Part.{Part as Side}
use Rattle.break_rules.specs.declared.rule.Part.TheVariants as sides
use Rattle.break_rules.specs.declared.rule.Seen.{Seen as Judged}
use Rattle.break_rules.specs.declared.rule.Seen.TheVariants as judges
use Rattle.break_rules.specs.declared.rule.Template.{Template}
use Rattle.jdwp_values.specs.declared.id.ObjectId.{ObjectId}
use Rattle.jdwp_values.specs.declared.id.ThreadId.{ThreadId}
use Rattle.jdwp_values.specs.declared.value.Value.{Value}
use Rattle.jdwp_values.specs.declared.value.Value.TheVariants as values
use Rattle.machine_model.specs.RuleTables.{Rules, rules_of}
use Rattle.machine_model.specs.State.{is_some}
use Rattle.machine_model.specs.declared.parts.Judgement.{Judgement}
use Rattle.machine_model.specs.declared.parts.Strike.{Strike}
use Rattle.judged_worlds.specs.PathRows.{path_in, said, text_in}
use Rattle.world_model.specs.Storing.{referred}
use Rattle.world_model.specs.declared.world.World.{World}

-- Conditions ----------------------------------------------------------------------------------------------------------

-- the number that a value is: those of the integral types are (Java Language Specification, Types, Values, and Variables)
abbrev pub number_of : Value → Option ℤ
number_of (values.Byte n) = Some n
number_of (values.Char n) = Some (pos n)
number_of (values.Int n) = Some n
number_of (values.Long n) = Some n
number_of (values.Short n) = Some n
number_of _ = None

-- the truth value that one is: any byte but 0 is true (JDWP, Detailed Command Information, common data types, boolean)
abbrev pub truth_of : Value → Option Bool
truth_of (values.Boolean byte) = Some (not (byte == 0))
truth_of _ = None

-- what is neither, nor a reference, can't be compared
abbrev pub judged_by : Option ℤ → Option Bool → Option ObjectId → Judged
judged_by (Some n) truth id = judges.Number n
judged_by None (Some is) id = judges.Truth is
judged_by None None (Some id) = judges.Reference id.0
judged_by None None None = judges.Other

abbrev pub judged_as : Value → Judged
judged_as value = judged_by (number_of value) (truth_of value) (referred value)

-- a side of a condition, where it can be had
abbrev pub side_in : World → ThreadId → Side → Option Judged
side_in w thread (sides.Number n) = Some (judges.Number n)
side_in w thread (sides.Truth is) = Some (judges.Truth is)
side_in w thread sides.Null = Some (judges.Reference 0)
side_in w thread (sides.Path e) = option_map (λ p. judged_as p.value) (result_ok (path_in w thread e))

-- two sides compared, where both can be had
abbrev pub compared : Comparison → Option Judged → Option Judged → Option Bool
compared comparison left right =
    option_and_then (λ a. option_and_then (λ b. judged a (Some (comparison, b))) right) left

-- what a condition comes to, where it can be judged
abbrev pub judged_in : World → ThreadId → Side → Option (Comparison × Side) → Option Bool
judged_in w thread left None = option_and_then (λ a. judged a None) (side_in w thread left)
judged_in w thread left (Some rest) = compared rest.0 (side_in w thread left) (side_in w thread rest.1)

-- one that can't be judged holds
abbrev pub is_false : Option Bool → Bool
is_false None = false
is_false (Some is) = not is

abbrev pub holds : World → ThreadId → Option Condition → Bool
holds w thread None = true
holds w thread (Some condition) = not (is_false (judged_in w thread condition.left condition.rest))

-- a breakpoint is passed where its condition holds
abbrev pub passes : World → Rules → Strike → Bool
passes w rules strike = holds w strike.thread (rules_of rules strike.entry.id).condition

-- Hit conditions ------------------------------------------------------------------------------------------------------

-- how often a breakpoint stands among those that were passed
abbrev pub so_often : List Strike → ℕ → ℕ
so_often passed id = length (filter (λ strike. strike.entry.id == id) passed)

-- its hit condition is met by all passes so far, this one among them
abbrev pub is_met_at : Rules → List Strike → ℕ → Bool
is_met_at rules passed id =
    option_map_or (λ hit. is_met hit ((rules_of rules id).passed + so_often passed id)) (rules_of rules id).hit true

-- Of those that are passed one behind the other these fire: each whose hit condition is met when it is passed.
abbrev pub fires_behind : Rules → List Strike → List Strike → List Strike
fires_behind rules before [] = []
fires_behind rules before (strike ∷ others) =
    (if is_met_at rules (before ++ strike ∷ []) strike.entry.id then strike ∷ [] else [])
    ++ fires_behind rules (before ++ strike ∷ []) others

-- Messages to log -----------------------------------------------------------------------------------------------------

-- a message ends with a newline (DAP specification, Events, Output)
abbrev pub message_in : World → ThreadId → Template → List ℕ
message_in w thread template =
    rendered template (map (λ e. said (text_in w thread e)) (paths_in template.pieces)) ++ 10 ∷ []

abbrev pub logs : Rules → Strike → Bool
logs rules strike = is_some (rules_of rules strike.entry.id).log

abbrev pub logged_in : World → Rules → Strike → List ℕ
logged_in w rules strike = option_map_or (message_in w strike.thread) (rules_of rules strike.entry.id).log []

-- Hits ----------------------------------------------------------------------------------------------------------------

-- what was passed, and of it what fires: that logs its message where it has one, and else stops its thread
abbrev pub judgement_of : World → Rules → List Strike → List Strike → Judgement
judgement_of w rules passed fired = record {
  passed = map (λ strike. strike.entry.id) passed;
  logged = map (logged_in w rules) (filter (logs rules) fired);
  stops = filter (λ strike. not (logs rules strike)) fired;
}

abbrev pub world_hits : World → Rules → List Strike → Judgement
world_hits w rules strikes =
    judgement_of w rules (filter (passes w rules) strikes) (fires_behind rules [] (filter (passes w rules) strikes))
