-- What look-ups come to, of values that are seen another way.
use Rattle.std.proofs.Common.{◌≡◌, ap, refl, ◌∙◌}
use Rattle.machine_model.specs.Plans as plans
use Rattle.machine_model.specs.Plans.{after, beside, fails, has, lacks}
use Rattle.look_ups.specs.Needs.{need_of, need_with}
use Rattle.look_ups.specs.declared.need.Need.{Need}
use Rattle.look_ups.specs.declared.need.Need.TheVariants.{Has, Fails, Lacks}

-- the values of a look-up, seen another way
pub seen_with : {A B : Type 0} (f : A → B) (found : Need A) → need_with f found ≡ after (need_of found) (λ a. has (f a))
seen_with f (Has a) = refl
seen_with f (Fails place code) = refl
seen_with f (Lacks first others) = refl

-- two side by side, each seen another way
pub beside_with : {A B C D : Type 0} (f : A → C) (g : B → D) (found : Need (A × B)) (first : Need A) (second : Need B)
    → need_of found ≡ beside (need_of first) (need_of second)
    → need_with (λ two. (f two.0, g two.1)) found ≡ beside (need_with f first) (need_with g second)
beside_with {A} {B} {C} {D} f g found first second is =
    seen_with (λ (two : A × B). (f two.0, g two.1)) found
    ∙ ap (λ n. after n (λ two. has (f two.0, g two.1))) is
    ∙ by_cases first second
  where
    by_cases : (first : Need A) (second : Need B)
        → after (beside (need_of first) (need_of second)) (λ two. has (f two.0, g two.1))
        ≡ beside (need_with f first) (need_with g second)
    by_cases (Has a) (Has b) = refl
    by_cases (Has a) (Fails place code) = refl
    by_cases (Has a) (Lacks want wants) = refl
    by_cases (Fails place code) (Has b) = refl
    by_cases (Fails place code) (Fails other another) = refl
    by_cases (Fails place code) (Lacks want wants) = refl
    by_cases (Lacks first others) (Has b) = refl
    by_cases (Lacks first others) (Fails place code) = refl
    by_cases (Lacks first others) (Lacks want wants) = refl

-- what depends on what depends on a value
pub after_after : {A B C : Type 0} (n : plans.Need A) (f : A → plans.Need B) (g : B → plans.Need C)
    → after n (λ a. after (f a) g) ≡ after (after n f) g
after_after (has a) f g = refl
after_after (fails fault) f g = refl
after_after (lacks want others) f g = refl
