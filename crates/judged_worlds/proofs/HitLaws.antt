-- Hits: conditions, hit conditions and messages, and the look-up that judges all.
use Rattle.std.proofs.Common.{◌≡◌, ◌∷◌, ◌++◌, ℕ, suc, Bool, true, false, not, cond, List, [], refl, sym, ap, ◌∙◌, map, arith}
use Rattle.std.proofs.Common.{filter, length}
use Rattle.std.specs.Prelude.{if◌then◌else◌, Option, Some, None, option_and_then, option_map, Ok, Err, ◌==◌, ◌+◌}
use Rattle.std.specs.Option.{option_map_or}
use Rattle.std.specs.Result.{result_ok}
use Rattle.std.proofs.lemmas.Bool.{eq-eqb}
use Rattle.std.proofs.lemmas.List.{length-append, map-append}
use Rattle.std.proofs.lemmas.List.Elements.{filter-append}
use Rattle.break_rules.specs.Judging.{is_met, judged}
use Rattle.break_rules.specs.Rendering.{paths_in, rendered}
use Rattle.break_rules.specs.declared.rule.Comparison.{Comparison}
use Rattle.break_rules.specs.declared.rule.Condition.{Condition}
use Rattle.break_rules.specs.declared.rule.Hit.{Hit}
use Rattle.break_rules.specs.declared.rule.Part.{Part as Side}
use Rattle.break_rules.specs.declared.rule.Part.TheVariants as sides
use Rattle.break_rules.specs.declared.rule.Seen.{Seen as Judged}
use Rattle.break_rules.specs.declared.rule.Template.{Template}
use Rattle.dap_messages.specs.declared.told.Failure.{Failure}
use Rattle.field_exprs.specs.declared.expr.Expr.{Expr}
use Rattle.jdwp_values.specs.declared.id.ThreadId.{ThreadId}
use Rattle.jdwp_values.specs.declared.value.Value.{Value}
use Rattle.jdwp_values.specs.declared.value.Value.TheVariants as values
use Rattle.judged_worlds.specs.HitRows.{compared, fires_behind, holds, is_false, is_met_at, judged_as, judged_in}
use Rattle.judged_worlds.specs.HitRows.{judgement_of, logged_in, message_in, passes, side_in, so_often, world_hits}
use Rattle.judged_worlds.specs.HitRows as rows
use Rattle.judged_worlds.specs.Laws.{JudgesHits}
use Rattle.judged_worlds.specs.PathRows.{path_in, said, text_in}
use Rattle.judged_worlds.proofs.PathLaws.{path_text_there, path_there}
use Rattle.machine_model.specs.Expressions.{Sought}
use Rattle.machine_model.specs.Judging.{Taken, condition_plan, fired_from, fired_if, fired_plan, hits_plan, holds_alone}
use Rattle.machine_model.specs.Judging.{holds_by, is_counted, is_met_by, judged_plan, judgement, log_plan, logged_with, logs}
use Rattle.machine_model.specs.Judging.{pass_plan, passes_in, path_plan, path_text, said_as, seen_as, side_plan}
use Rattle.machine_model.specs.Judging.{side_seen, sides_plan, template_plan, unless_false}
use Rattle.machine_model.specs.Plans.{both, each, of_world, two_of}
use Rattle.machine_model.specs.RuleTables.{Rules, rules_of, times}
use Rattle.machine_model.specs.declared.parts.Judgement.{Judgement}
use Rattle.machine_model.specs.declared.parts.Strike.{Strike}
use Rattle.shown_worlds.specs.ExpressionRows as shown
use Rattle.shown_worlds.specs.Laws.{IsLive}
use Rattle.shown_worlds.proofs.ExpressionLaws.{found_as}
use Rattle.shown_worlds.proofs.FrameLaws.{map_same, map_then}
use Rattle.shown_worlds.proofs.PlanLemmas.{each_has, living, said_both, said_chained, said_made}
use Rattle.shown_worlds.proofs.ValueLaws.{placed}
use Rattle.world_model.specs.Replies.{living_reply}
use Rattle.world_model.specs.declared.world.World.{World}

-- Conditions ----------------------------------------------------------------------------------------------------------

seen_same : (value : Value) → seen_as value ≡ judged_as value
seen_same (values.Byte n) = refl
seen_same (values.Char n) = refl
seen_same (values.Int n) = refl
seen_same (values.Long n) = refl
seen_same (values.Short n) = refl
seen_same (values.Boolean byte) = refl
seen_same (values.Object o) = refl
seen_same (values.Array o) = refl
seen_same (values.String o) = refl
seen_same (values.Thread o) = refl
seen_same (values.ThreadGroup o) = refl
seen_same (values.ClassLoader o) = refl
seen_same (values.ClassObject o) = refl
seen_same (values.Double bits) = refl
seen_same (values.Float bits) = refl
seen_same values.Void = refl

-- a side that was sought
abbrev side_of : shown.Sought → Option Judged
side_of s = option_map (λ p. judged_as p.value) (result_ok s)

side_sought : (w : World) (there : Option Sought) (s : shown.Sought) → option_map (found_as w) there ≡ Some s
    → option_map side_seen there ≡ Some (side_of s)
side_sought w None s is = cc
side_sought w (Some (Ok v)) s is = ap (λ j. Some (Some j)) (seen_same v.value) ∙ ap (option_map side_of) is
side_sought w (Some (Err failure)) s is = ap (option_map side_of) is

side_there : (w : World) (thread : ThreadId) (side : Side) → IsLive w
    → of_world (living_reply w) (side_plan thread side) ≡ Some (side_in w thread side)
unfolding of_world
side_there w thread (sides.Number n) live = refl
side_there w thread (sides.Truth is) live = refl
side_there w thread sides.Null live = refl
side_there w thread (sides.Path e) live =
    said_made (living_reply w) side_seen (path_plan thread e)
    ∙ side_sought w (of_world (living_reply w) (path_plan thread e)) (path_in w thread e) (path_there w thread e live)

-- one that can't be judged holds
unless_same : (is : Option Bool) → unless_false is ≡ not (is_false is)
unless_same None = refl
unless_same (Some true) = refl
unless_same (Some false) = refl

alone_same : (left : Option Judged) → holds_alone left ≡ not (is_false (option_and_then (λ a. judged a None) left))
alone_same None = refl
alone_same (Some a) = unless_same (judged a None)

by_same : (comparison : Comparison) (left right : Option Judged)
    → holds_by comparison (left, right) ≡ not (is_false (compared comparison left right))
by_same comparison None right = refl
by_same comparison (Some a) None = refl
by_same comparison (Some a) (Some b) = unless_same (judged a (Some (comparison, b)))

sides_there : (w : World) (thread : ThreadId) (left : Side) (rest : Option (Comparison × Side)) → IsLive w
    → of_world (living_reply w) (sides_plan thread left rest) ≡ Some (not (is_false (judged_in w thread left rest)))
sides_there w thread left None live =
    said_made (living_reply w) holds_alone (side_plan thread left)
    ∙ ap (option_map holds_alone) (side_there w thread left live)
    ∙ ap Some (alone_same (side_in w thread left))
sides_there w thread left (Some rest) live =
    said_made (living_reply w) (holds_by rest.0) (both (side_plan thread left) (side_plan thread rest.1))
    ∙ ap (option_map (holds_by rest.0)) (said_both (living_reply w) (side_plan thread left) (side_plan thread rest.1)
    ∙ ap (λ o. two_of o (of_world (living_reply w) (side_plan thread rest.1))) (side_there w thread left live)
    ∙ ap (two_of (Some (side_in w thread left))) (side_there w thread rest.1 live))
    ∙ ap Some (by_same rest.0 (side_in w thread left) (side_in w thread rest.1))

condition_there : (w : World) (thread : ThreadId) (condition : Option Condition) → IsLive w
    → of_world (living_reply w) (condition_plan thread condition) ≡ Some (holds w thread condition)
unfolding of_world
condition_there w thread None live = refl
condition_there w thread (Some condition) live = sides_there w thread condition.left condition.rest live

-- whether a breakpoint is passed
abbrev passed_by : World → Rules → Strike → Strike × Bool
passed_by w rules strike = (strike, passes w rules strike)

pass_there : (w : World) (rules : Rules) (strike : Strike) → IsLive w
    → of_world (living_reply w) (pass_plan rules strike) ≡ Some (passed_by w rules strike)
pass_there w rules strike live =
    said_made (living_reply w) (λ is. (strike, is))
    (condition_plan strike.thread (rules_of rules strike.entry.id).condition)
    ∙ ap (option_map (λ is. (strike, is)))
    (condition_there w strike.thread (rules_of rules strike.entry.id).condition live)

-- What is passed and what fires ---------------------------------------------------------------------------------------

abbrev ids : List Strike → List ℕ
ids strikes = map (λ strike. strike.entry.id) strikes

ids_passed : (test : Strike → Bool) (strikes : List Strike)
    → passes_in (map (λ strike. (strike, test strike)) strikes) ≡ ids (filter test strikes)
ids_passed test [] = refl
ids_passed test (strike ∷ others) = by_test (test strike) (ids_passed test others)
  where
    by_test : (is : Bool) → passes_in (map (λ s. (s, test s)) others) ≡ ids (filter test others)
        → cond is (strike.entry.id ∷ passes_in (map (λ s. (s, test s)) others))
        (passes_in (map (λ s. (s, test s)) others))
        ≡ ids (if is then strike ∷ filter test others else filter test others)
    by_test true is = ap (λ l. strike.entry.id ∷ l) is
    by_test false is = is

-- so often as its id stands among those of all
often : (before : List Strike) (id : ℕ) → so_often before id ≡ times (ids before) id
often [] id = refl
often (strike ∷ others) id = by_is (strike.entry.id == id) (often others id)
  where
    by_is : (is : Bool) → so_often others id ≡ times (ids others) id
        → length (if is then strike ∷ filter (λ (s : Strike). s.entry.id == id) others
        else filter (λ (s : Strike). s.entry.id == id) others)
        ≡ length (if is then strike.entry.id ∷ filter (λ other. other == id) (ids others)
        else filter (λ other. other == id) (ids others))
    by_is true is = ap suc is
    by_is false is = is

same_id : (n : ℕ) → (n == n) ≡ true
same_id n = eq-eqb n n refl

-- one more pass
often_more : (before : List Strike) (strike : Strike)
    → so_often (before ++ strike ∷ []) strike.entry.id ≡ suc (times (ids before) strike.entry.id)
often_more before strike =
    ap length (filter-append (λ (s : Strike). s.entry.id == strike.entry.id) before (strike ∷ []))
    ∙ length-append (filter (λ (s : Strike). s.entry.id == strike.entry.id) before)
    (filter (λ (s : Strike). s.entry.id == strike.entry.id) (strike ∷ []))
    ∙ ap (λ is. so_often before strike.entry.id + length (if is then strike ∷ [] else [])) (same_id strike.entry.id)
    ∙ omega (arith, often before strike.entry.id)

met_same : (rules : Rules) (before : List Strike) (strike : Strike)
    → is_counted rules (ids before) strike.entry.id ≡ is_met_at rules (before ++ strike ∷ []) strike.entry.id
met_same rules before strike = by_hit (rules_of rules strike.entry.id).hit
  where
    passed : ℕ
    passed = (rules_of rules strike.entry.id).passed

    by_hit : (hit : Option Hit)
        → is_met_by hit (suc (passed + times (ids before) strike.entry.id))
        ≡ option_map_or (λ h. is_met h (passed + so_often (before ++ strike ∷ []) strike.entry.id)) hit true
    by_hit None = refl
    by_hit (Some hit) = ap (is_met hit) (omega (arith, often_more before strike))

fired_same : (met : Bool) (strike : Strike) → fired_if met strike ≡ (if met then strike ∷ [] else [])
fired_same true strike = refl
fired_same false strike = refl

-- what fires, behind those that were passed before
fires_same : (rules : Rules) (test : Strike → Bool) (before strikes : List Strike)
    → fired_from rules (ids before) (map (λ strike. (strike, test strike)) strikes)
    ≡ fires_behind rules before (filter test strikes)
fires_same rules test before [] = refl
fires_same rules test before (strike ∷ others) =
    by_test (test strike) (fires_same rules test (before ++ strike ∷ []) others) (fires_same rules test before others)
  where
    judged_others : List (Strike × Bool)
    judged_others = map (λ s. (s, test s)) others

    by_test : (is : Bool)
        → fired_from rules (ids (before ++ strike ∷ [])) judged_others
        ≡ fires_behind rules (before ++ strike ∷ []) (filter test others)
        → fired_from rules (ids before) judged_others ≡ fires_behind rules before (filter test others)
        → cond is (fired_if (is_counted rules (ids before) strike.entry.id) strike
        ++ fired_from rules (ids before ++ strike.entry.id ∷ []) judged_others)
        (fired_from rules (ids before) judged_others)
        ≡ fires_behind rules before (if is then strike ∷ filter test others else filter test others)
    by_test true with_it without =
        ap (λ l. l ++ fired_from rules (ids before ++ strike.entry.id ∷ []) judged_others)
        (ap (λ met. fired_if met strike) (met_same rules before strike)
        ∙ fired_same (is_met_at rules (before ++ strike ∷ []) strike.entry.id) strike)
        ∙ ap (λ l. (if is_met_at rules (before ++ strike ∷ []) strike.entry.id then strike ∷ [] else []) ++ l)
        (ap (λ l. fired_from rules l judged_others) (sym (map-append (λ (s : Strike). s.entry.id) before (strike ∷ [])))
        ∙ with_it)
    by_test false with_it without = without

-- Messages ------------------------------------------------------------------------------------------------------------

said_same : (taken : Taken (List ℕ)) → said_as taken ≡ said taken
said_same (Ok text) = refl
said_same (Err failure) = refl

message_there : (w : World) (thread : ThreadId) (template : Template) → IsLive w
    → of_world (living_reply w) (template_plan thread (Some template)) ≡ Some (message_in w thread template)
message_there w thread template live =
    let paths = paths_in template.pieces in
    said_made (living_reply w) (logged_with template) (each (path_text thread) paths)
    ∙ ap (option_map (logged_with template)) (each_has (living_reply w) (path_text thread) (text_in w thread)
    (λ e. path_text_there w thread e live) paths)
    ∙ ap (λ l. Some (rendered template l ++ 10 ∷ []))
    (map_then (text_in w thread) said_as paths
    ∙ map_same (λ e. said_as (text_in w thread e)) (λ e. said (text_in w thread e))
    (λ e. said_same (text_in w thread e)) paths)

logged_there : (w : World) (rules : Rules) (strike : Strike) → IsLive w
    → of_world (living_reply w) (log_plan rules strike) ≡ Some (logged_in w rules strike)
unfolding of_world
logged_there w rules strike live = by_log (rules_of rules strike.entry.id).log
  where
    by_log : (log : Option Template) → of_world (living_reply w) (template_plan strike.thread log)
        ≡ Some (option_map_or (message_in w strike.thread) log [])
    by_log None = refl
    by_log (Some template) = message_there w strike.thread template live

-- The look-up ---------------------------------------------------------------------------------------------------------

fired_there : (w : World) (rules : Rules) (passed fired : List Strike) → IsLive w
    → of_world (living_reply w) (fired_plan rules (ids passed) fired) ≡ Some (judgement_of w rules passed fired)
fired_there w rules passed fired live =
    said_made (living_reply w) (judgement rules (ids passed) fired) (each (log_plan rules) (filter (logs rules) fired))
    ∙ ap (option_map (judgement rules (ids passed) fired))
    (each_has (living_reply w) (log_plan rules) (logged_in w rules) (λ strike. logged_there w rules strike live)
    (filter (logs rules) fired))

judged_there : (w : World) (rules : Rules) (strikes : List Strike) → IsLive w
    → of_world (living_reply w) (judged_plan rules (map (passed_by w rules) strikes)) ≡ Some (world_hits w rules strikes)
judged_there w rules strikes live =
    let test = passes w rules in
    let passed = map (passed_by w rules) strikes in
    ap (λ l. of_world (living_reply w) (fired_plan rules l (fired_from rules [] passed))) (ids_passed test strikes)
    ∙ ap (λ l. of_world (living_reply w) (fired_plan rules (ids (filter test strikes)) l))
    (fires_same rules test [] strikes)
    ∙ fired_there w rules (filter test strikes) (fires_behind rules [] (filter test strikes)) live

pub judges_hits : JudgesHits
judges_hits w rules strikes live =
    living w (hits_plan rules strikes) live.alive
    ∙ said_chained (living_reply w) (each (pass_plan rules) strikes) (judged_plan rules)
    ∙ ap (option_and_then (λ (passed : List (Strike × Bool)). of_world (living_reply w) (judged_plan rules passed)))
    (each_has (living_reply w) (pass_plan rules) (passed_by w rules) (λ strike. pass_there w rules strike live) strikes)
    ∙ judged_there w rules strikes live
