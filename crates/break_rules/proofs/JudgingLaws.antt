-- Which sides of a condition can be judged.
use Rattle.std.proofs.Common.{◌≡◌, ℕ, Bool, Some, None, refl, ap}
use Rattle.break_rules.specs.Judging.{compared, judged}
use Rattle.break_rules.specs.Laws.{AreComparable, CanBeJudged, Judges}
use Rattle.break_rules.specs.declared.rule.Comparison.{Comparison}
use Rattle.break_rules.specs.declared.rule.Comparison.TheVariants as compare
use Rattle.break_rules.specs.declared.rule.Seen.{Seen}
use Rattle.break_rules.specs.declared.rule.Seen.TheVariants.{Number, Truth, Reference, Other}

truths : (comparison : Comparison) (a b is : Bool) → compared comparison (Truth a) (Truth b) ≡ Some is
    → AreComparable comparison (Truth a) (Truth b)
truths compare.Equal a b is h = AreComparable.equal_truths
truths compare.Unequal a b is h = AreComparable.unequal_truths
truths compare.Less a b is h = cc
truths compare.LessEqual a b is h = cc
truths compare.Greater a b is h = cc
truths compare.GreaterEqual a b is h = cc

objects : (comparison : Comparison) (a b : ℕ) (is : Bool) → compared comparison (Reference a) (Reference b) ≡ Some is
    → AreComparable comparison (Reference a) (Reference b)
objects compare.Equal a b is h = AreComparable.equal_objects
objects compare.Unequal a b is h = AreComparable.unequal_objects
objects compare.Less a b is h = cc
objects compare.LessEqual a b is h = cc
objects compare.Greater a b is h = cc
objects compare.GreaterEqual a b is h = cc

-- two sides that come to something can be compared
comparable : (comparison : Comparison) (left right : Seen) (is : Bool) → compared comparison left right ≡ Some is
    → AreComparable comparison left right
comparable comparison (Number a) (Number b) is h = AreComparable.numbers
comparable comparison (Number a) (Truth b) is h = cc
comparable comparison (Number a) (Reference b) is h = cc
comparable comparison (Number a) Other is h = cc
comparable comparison (Truth a) (Truth b) is h = truths comparison a b is h
comparable comparison (Truth a) (Number b) is h = cc
comparable comparison (Truth a) (Reference b) is h = cc
comparable comparison (Truth a) Other is h = cc
comparable comparison (Reference a) (Reference b) is h = objects comparison a b is h
comparable comparison (Reference a) (Number b) is h = cc
comparable comparison (Reference a) (Truth b) is h = cc
comparable comparison (Reference a) Other is h = cc
comparable comparison Other (Number b) is h = cc
comparable comparison Other (Truth b) is h = cc
comparable comparison Other (Reference b) is h = cc
comparable comparison Other Other is h = cc

alone : (left : Seen) (is : Bool) → judged left None ≡ Some is → CanBeJudged left None
alone (Truth a) is h = (a, refl)
alone (Number a) is h = cc
alone (Reference a) is h = cc
alone Other is h = cc

-- and two that can be compared come to something
comes : (comparison : Comparison) (left right : Seen) → AreComparable comparison left right
    → (is : Bool) × (compared comparison left right ≡ Some is)
comes comparison left right AreComparable.numbers = (_, refl)
comes comparison left right AreComparable.equal_truths = (_, refl)
comes comparison left right AreComparable.unequal_truths = (_, refl)
comes comparison left right AreComparable.equal_objects = (_, refl)
comes comparison left right AreComparable.unequal_objects = (_, refl)

pub judges : Judges
judges left None = (alone left, (λ can. (can.0, ap (λ (left : Seen). judged left None) can.1)))
judges left (Some rest) = (comparable rest.0 left rest.1, comes rest.0 left rest.1)
