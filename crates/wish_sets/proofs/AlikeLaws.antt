-- What is known of a class is what is found of it.
use Rattle.std.proofs.Common.{◌≡◌, ℕ, zero, suc, ◌<◌, Bool, true, false, List, [], ◌∷◌, refl, ap, sym, ◌∙◌, length}
use Rattle.std.proofs.Common.{get_or, take, arith, Option, Some, None, option_map}
use Rattle.std.specs.Prelude.{map, if◌then◌else◌}
use Rattle.std.specs.Option.{option_flatten}
use Rattle.class_tables.specs.Facts.{is_prepared}
use Rattle.class_tables.specs.Lookups.{Lookups}
use Rattle.class_tables.specs.Views.{ClassFacts, class_in, facts_of, has_any}
use Rattle.class_tables.specs.declared.loaded.Loaded.{Loaded}
use Rattle.jdwp_values.specs.declared.id.ClassId.{ClassId}
use Rattle.wish_sets.specs.declared.facts.KnownClass.{KnownClass}
use Rattle.wish_sets.specs.Shown.{facts_by, shown_facts}
use Rattle.wish_sets.specs.Wanted.{class_found, facts_found}

-- one more is that to which another leads
module _ {A B : Type 0} (f : A → B) where
  pub one_more_alike : (xs : List A) (ys : List B) (at : ℕ) (d : A) (e : B) → at < length xs → at < length ys
      → map f (take at xs) ≡ take at ys → f (get_or xs at d) ≡ get_or ys at e
      → map f (take (suc at) xs) ≡ take (suc at) ys
  one_more_alike [] ys at d e left right same here = absurd (omega (arith, left))
  one_more_alike (x ∷ xs) [] at d e left right same here = absurd (omega (arith, right))
  one_more_alike (x ∷ xs) (y ∷ ys) zero d e left right same here = ap (λ z. z ∷ []) here
  one_more_alike (x ∷ xs) (y ∷ ys) (suc at) d e left right same here =
      let first : f x ≡ y = cc in
      let others : map f (take at xs) ≡ take at ys = cc in
      ap (λ z. z ∷ map f (take (suc at) xs)) first
      ∙ ap (λ zs. y ∷ zs) (one_more_alike xs ys at d e (omega (arith, left)) (omega (arith, right)) others here)

module _ (known : Lookups) (class : ClassId) where
  as_loaded : (loaded : Option Loaded)
      → facts_by known class (option_map (λ one. one.tag) loaded) (option_map (λ one. one.signature) loaded)
      (is_prepared loaded) (known.source class) (known.methods class)
      ≡ option_map (facts_found known class) loaded
  as_loaded None = refl
  as_loaded (Some one) = refl

  shown_is : (shown : ClassFacts) (b : Bool) → Some shown ≡ (if b then Some (facts_of known class) else None)
      → shown ≡ facts_of known class
  shown_is shown true e = cc
  shown_is shown false e = absurd cc

  pub found_so : (shown : ClassFacts) (facts : KnownClass) → Some shown ≡ class_in known class
      → shown_facts known class shown ≡ Some facts → class_found known class ≡ Some facts
  found_so shown facts is alike =
      sym (as_loaded (known.loaded class))
      ∙ (sym (ap (shown_facts known class) (shown_is shown (has_any (facts_of known class)) is)) ∙ alike)
