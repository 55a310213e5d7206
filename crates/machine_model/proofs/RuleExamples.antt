-- Worked examples of what is kept of a breakpoint's texts, checked by computation (DAP specification, Types,
-- SourceBreakpoint, condition, hitCondition and logMessage).
use Rattle.std.proofs.Common.{◌≡◌, ℕ, List, [], ◌∷◌, true, Option, Some, None, refl}
use Rattle.std.specs.Prelude.{codes}
use Rattle.break_rules.specs.Parsing.{condition_of, hit_of, pieces_at, template_of}
use Rattle.break_rules.specs.declared.rule.HitRule.TheVariants as counts
use Rattle.break_rules.specs.declared.rule.Part.TheVariants as sides
use Rattle.break_rules.specs.declared.rule.Piece.TheVariants as pieces
use Rattle.field_exprs.specs.Parsing.{parsed}
use Rattle.machine_model.specs.Names.{Ruled, of_condition, of_hit, of_log}
use Rattle.machine_model.specs.RuleTables.{Rules, functions_ruled, lines_ruled, no_rules, none_ruled, rules_of, with_passes}
use Rattle.machine_model.specs.RuleTexts.{fault_in, is_plain, ruled_of}

-- Texts ---------------------------------------------------------------------------------------------------------------

-- without a text nothing is kept, and an empty one counts as missing
without_texts : ruled_of 7 None (Some []) None ≡ []
without_texts = refl

all_three : ruled_of 7 (Some (codes "true")) (Some (codes "% 2")) (Some (codes "here"))
    ≡ record {
      id = 7;
      condition = Some (record { left = sides.Truth true; rest = None });
      hit = Some (record { rule = counts.Multiple; count = 2 });
      log = Some (record { pieces = pieces.Plain (codes "here") ∷ [] });
      passed = 0;
    } ∷ []
unfolding condition_of hit_of template_of pieces_at
all_three = refl

-- of one with a text that is no rule nothing is kept; the first of the three is told
no_condition : fault_in (Some (codes " ")) (Some (codes "0")) None ≡ Some of_condition
unfolding condition_of hit_of parsed
no_condition = refl

no_count : fault_in (Some (codes "true")) (Some (codes "0")) (Some (codes "{")) ≡ Some of_hit
unfolding condition_of hit_of template_of pieces_at parsed
no_count = refl

no_message : fault_in None None (Some (codes "{")) ≡ Some of_log
unfolding template_of pieces_at parsed
no_message = refl

never_bound : ruled_of 7 (Some (codes "true")) (Some (codes "0")) None ≡ []
unfolding condition_of hit_of
never_bound = refl

-- Tables --------------------------------------------------------------------------------------------------------------

abbrev counted : ℕ → ℕ → Ruled
counted id passed = record (no_rules id) { passed = passed }

-- two of a source, and one of a function
abbrev table : Rules
table = functions_ruled (counted 3 0 ∷ []) (lines_ruled (Some (codes "A")) (counted 1 0 ∷ counted 2 0 ∷ []) none_ruled)

counts_each : with_passes (2 ∷ 3 ∷ 2 ∷ 9 ∷ []) table ≡ record {
  lists = (codes "A", counted 1 0 ∷ counted 2 2 ∷ []) ∷ [];
  functions = counted 3 1 ∷ [];
}
counts_each = refl

finds_by_id : rules_of (with_passes (2 ∷ 3 ∷ 2 ∷ []) table) 2 ≡ counted 2 2
finds_by_id = refl

has_none : rules_of table 4 ≡ no_rules 4
has_none = refl

-- a list that is set again starts anew, and the others stay
set_again : lines_ruled (Some (codes "A")) (counted 4 0 ∷ []) (with_passes (2 ∷ 3 ∷ []) table) ≡ record {
  lists = (codes "A", counted 4 0 ∷ []) ∷ [];
  functions = counted 3 1 ∷ [];
}
set_again = refl

without_key : lines_ruled None (counted 4 0 ∷ []) table ≡ table
without_key = refl
