-- What a condition comes to by the values of its sides, and at which counts a hit condition is met.
use Rattle.std.specs.Prelude.{ℕ, ℤ, zero, suc, int_lt, nat_le, nat_lt, ◌==◌, ◌%◌, Bool, true, false, not}
use Rattle.std.specs.Prelude.{Option, None, Some}
use Rattle.std.specs.Ordering.{int_eq}
use Rattle.break_rules.specs.declared.rule.Comparison.{Comparison}
use Rattle.break_rules.specs.declared.rule.Comparison.TheVariants as compare
use Rattle.break_rules.specs.declared.rule.Hit.{Hit}
use Rattle.break_rules.specs.declared.rule.HitRule.{HitRule}
use Rattle.break_rules.specs.declared.rule.HitRule.TheVariants as counts
use Rattle.break_rules.specs.declared.rule.Seen.{Seen}
use Rattle.break_rules.specs.declared.rule.Seen.TheVariants.{Number, Truth, Reference}

-- Conditions ----------------------------------------------------------------------------------------------------------

-- numbers have an order
abbrev pub of_numbers : Comparison → ℤ → ℤ → Bool
of_numbers compare.Equal a b = int_eq a b
of_numbers compare.Unequal a b = not (int_eq a b)
of_numbers compare.Less a b = int_lt a b
of_numbers compare.LessEqual a b = not (int_lt b a)
of_numbers compare.Greater a b = int_lt b a
of_numbers compare.GreaterEqual a b = not (int_lt a b)

-- truth values and references are equal or aren't
abbrev pub of_equals : Comparison → Bool → Option Bool
of_equals compare.Equal same = Some same
of_equals compare.Unequal same = Some (not same)
of_equals compare.Less same = None
of_equals compare.LessEqual same = None
of_equals compare.Greater same = None
of_equals compare.GreaterEqual same = None

abbrev pub same_truth : Bool → Bool → Bool
same_truth true b = b
same_truth false b = not b

abbrev pub compared : Comparison → Seen → Seen → Option Bool
compared comparison (Number a) (Number b) = Some (of_numbers comparison a b)
compared comparison (Truth a) (Truth b) = of_equals comparison (same_truth a b)
compared comparison (Reference a) (Reference b) = of_equals comparison (a == b)
compared comparison _ _ = None

-- one side alone has to be a truth value
abbrev pub truth_of : Seen → Option Bool
truth_of (Truth is) = Some is
truth_of _ = None

-- What a condition comes to: none where it can't be judged.
abbrev pub judged : Seen → Option (Comparison × Seen) → Option Bool
judged left None = truth_of left
judged left (Some rest) = compared rest.0 left rest.1

-- Hit conditions ------------------------------------------------------------------------------------------------------

-- a count is a multiple of a number from 1 on
abbrev pub is_multiple : ℕ → ℕ → Bool
is_multiple hits zero = false
is_multiple hits (suc count) = hits % suc count == 0

abbrev pub met_by : HitRule → ℕ → ℕ → Bool
met_by counts.Equal count hits = hits == count
met_by counts.AtLeast count hits = nat_le count hits
met_by counts.Above count hits = nat_lt count hits
met_by counts.AtMost count hits = nat_le hits count
met_by counts.Below count hits = nat_lt hits count
met_by counts.Multiple count hits = is_multiple hits count

-- A hit condition is met at this count.
abbrev pub is_met : Hit → ℕ → Bool
is_met hit hits = met_by hit.rule hit.count hits
