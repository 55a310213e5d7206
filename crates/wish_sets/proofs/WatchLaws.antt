-- A package is watched where it is wished: no other wish is one of a package.
use Rattle.std.proofs.Common.{◌≡◌, ℕ, Bool, true, false, List, [], ◌∷◌, ◌++◌, refl, ap, sym, ◌∙◌, Some, None, Option}
use Rattle.std.specs.Prelude.{◌||◌, bytes_eq, map}
use Rattle.std.specs.List.{list_any}
use Rattle.std.proofs.lemmas.Map.Text.{is_eq-slice_cmp}
use Rattle.wish_sets.specs.declared.wish.StepWish.{StepWish}
use Rattle.wish_sets.specs.declared.wish.Wish.{Wish}
use Rattle.wish_sets.specs.declared.wish.Wish.TheVariants as wishes
use Rattle.wish_sets.specs.Names.{package_name}
use Rattle.wish_sets.specs.Order.{has_wish, is_wish}
use Rattle.wish_sets.specs.Places.{Place, places}
use Rattle.wish_sets.specs.Wanted.{Wanted}
use Rattle.wish_sets.specs.Wished.{wished, watched, stops, thrown, stepping, is_watched}
use Rattle.wish_sets.proofs.WishLaws.{wished_has}

pub has-append : (wish : Wish) (xs ys : List Wish) → has_wish (xs ++ ys) wish ≡ (has_wish xs wish || has_wish ys wish)
has-append wish [] ys = refl
has-append wish (x ∷ xs) ys =
    ap (λ b. is_wish wish x || b) (has-append wish xs ys)
    ∙ turn (is_wish wish x) (has_wish xs wish) (has_wish ys wish)
  where
    turn : (a b c : Bool) → (a || (b || c)) ≡ ((a || b) || c)
    turn true b c = refl
    turn false b c = refl

has-watch : (name : List ℕ) (names : List (List ℕ))
    → has_wish (map wishes.Watch names) (wishes.Watch name) ≡ list_any (bytes_eq name) names
has-watch name [] = refl
has-watch name (other ∷ names) =
    ap (λ b. b || has_wish (map wishes.Watch names) (wishes.Watch name)) (is_eq-slice_cmp name other)
    ∙ ap (λ b. bytes_eq name other || b) (has-watch name names)

no-stop : (name : List ℕ) (those : List Place)
    → has_wish (map (λ (place : Place). wishes.Stop place.at) those) (wishes.Watch name) ≡ false
no-stop name [] = refl
no-stop name (place ∷ those) = no-stop name those

no-thrown : (name : List ℕ) (caught uncaught : Bool) → has_wish (thrown caught uncaught) (wishes.Watch name) ≡ false
no-thrown name true uncaught = refl
no-thrown name false true = refl
no-thrown name false false = refl

no-step : (name : List ℕ) (step : Option StepWish) → has_wish (stepping step) (wishes.Watch name) ≡ false
no-step name None = refl
no-step name (Some step) = refl

pub watched_is_wished : (wanted : Wanted) (path : List ℕ)
    → is_watched wanted path ≡ has_wish (wished wanted) (wishes.Watch (package_name path))
watched_is_wished wanted path =
    let name = package_name path in
    let it = wishes.Watch name in
    let first = wishes.ThreadStart ∷ wishes.ThreadDeath ∷ map wishes.Watch (watched wanted) in
    let caught = thrown wanted.caught wanted.uncaught in
    sym (wished_has wanted it
    ∙ (has-append it (first ++ stops wanted ++ caught) (stepping wanted.step)
    ∙ (ap (λ b. b || has_wish (stepping wanted.step) it) (has-append it (first ++ stops wanted) caught
    ∙ ap (λ b. b || has_wish caught it) (has-append it first (stops wanted)))
    ∙ (alone (has_wish first it) (has_wish (stops wanted) it) (has_wish caught it) (has_wish (stepping wanted.step) it)
    (no-stop name (places wanted)) (no-thrown name wanted.caught wanted.uncaught) (no-step name wanted.step)
    ∙ has-watch name (watched wanted)))))
  where
    alone : (a b c d : Bool) → b ≡ false → c ≡ false → d ≡ false → (((a || b) || c) || d) ≡ a
    alone true b c d e f g = refl
    alone false b c d e f g = rw e (rw f g)
