-- Locations of a breakpoint that are neither installed nor refused, and what each change of the event requests leaves
-- of them.
use Rattle.std.proofs.Common.{◌≡◌, ℕ, Bool, true, false, not, List, [], ◌∷◌, ◌++◌, Some, None, refl, ap, ◌∙◌, sym, ◌||◌}
use Rattle.std.proofs.Common.{◌&&◌, ◌==◌, map, arith}
use Rattle.std.specs.List.{AllByRecursion as All, list_any}
use Rattle.machine_model.specs.Requests.{Wishes, effect_due}
use Rattle.machine_steps.specs.Names.{Clear, Set}
use Rattle.machine_steps.proofs.WishLemmas.{due_clear, new_set_due, none_due_change}
use Rattle.wish_sets.proofs.LeftLaws.{any-kept}
use Rattle.wish_sets.proofs.NextLaws.{none-is, surplus_clear}
use Rattle.wish_sets.proofs.OrderLaws.{any-insert}
use Rattle.wish_sets.proofs.TidyLaws.{installed-with}
use Rattle.wish_sets.proofs.WatchLaws.{has-append}
use Rattle.wish_sets.proofs.WishLaws.{alike, equal_is, has-filter, is_itself, none-any, wished_has, witness}
use Rattle.wish_sets.specs.Entries.{has_location}
use Rattle.wish_sets.specs.Order.{has_wish, is_wish, wish_cmp}
use Rattle.wish_sets.specs.Places.{places}
use Rattle.wish_sets.specs.Wanted.{Wanted}
use Rattle.wish_sets.specs.Wished.{stepping, stops, thrown, watched, wished}
use Rattle.wish_sets.specs.Wishes.{EventRequest, cleared, installed_as, is_installed, is_missing, refused_now, rewished}
use Rattle.wish_sets.specs.declared.place.Place.{Place}
use Rattle.wish_sets.specs.declared.wish.Wish.{Wish}
use Rattle.wish_sets.specs.declared.wish.Wish.TheVariants as wishes

-- Lists ---------------------------------------------------------------------------------------------------------------

-- tests that agree on each find the same
any_same : {X : Type 0} (p q : X → Bool) (xs : List X) → All (λ x. p x ≡ q x) xs → list_any p xs ≡ list_any q xs
any_same p q [] all = refl
any_same p q (x ∷ xs) all =
    ap (λ b. b || list_any p xs) all.0 ∙ ap (λ b. q x || b) (any_same p q xs all.1)

-- what passes one test passes one of two
any_either : {X : Type 0} (p q r : X → Bool) (xs : List X) → All (λ x. p x ≡ true → (q x || r x) ≡ true) xs
    → list_any p xs ≡ true → (list_any q xs || list_any r xs) ≡ true
any_either p q r [] all is = cc
any_either p q r (x ∷ xs) all is =
    by_tests (p x) (list_any p xs) (q x) (r x) (list_any q xs) (list_any r xs) is all.0 (any_either p q r xs all.1)
  where
    by_tests : (a b c d e f : Bool) → (a || b) ≡ true → (a ≡ true → (c || d) ≡ true) → (b ≡ true → (e || f) ≡ true)
        → ((c || e) || (d || f)) ≡ true
    by_tests a b c d e f is one others = grind (arith, is, one, others)

each : {X : Type 0} (P Q : X → Type 0) → ((x : X) → P x → Q x) → (xs : List X) → All P xs → All Q xs
each P Q h [] all = tt
each P Q h (x ∷ xs) all = (h x all.0, each P Q h xs all.1)

-- Locations are wished ------------------------------------------------------------------------------------------------

abbrev stop_of : Place → Wish
stop_of place = wishes.Stop place.at

among : (all : List Wish) (those : List Place)
    → ((wish : Wish) → has_wish (map stop_of those) wish ≡ true → has_wish all wish ≡ true)
    → All (λ (place : Place). has_wish all (stop_of place) ≡ true) those
among all [] sub = tt
among all (place ∷ those) sub = (
  sub (stop_of place) (rw (is_itself (stop_of place)) refl),
  among all those (λ wish is. sub wish (rw is (last (is_wish wish (stop_of place))))),
)
  where
    last : (b : Bool) → (b || true) ≡ true
    last b = grind arith

abbrev AreWished : Wanted → List Place → Type 0
AreWished wanted those = All (λ (place : Place). has_wish (wished wanted) (stop_of place) ≡ true) those

places_wished : (wanted : Wanted) → AreWished wanted (places wanted)
places_wished wanted = among (wished wanted) (places wanted) (λ wish is.
    let first = wishes.ThreadStart ∷ wishes.ThreadDeath ∷ map wishes.Watch (watched wanted) in
    let caught = thrown wanted.caught wanted.uncaught in
    wished_has wanted wish
    ∙ has-append wish (first ++ stops wanted ++ caught) (stepping wanted.step)
    ∙ ap (λ b. b || has_wish (stepping wanted.step) wish) (has-append wish (first ++ stops wanted) caught
    ∙ ap (λ b. b || has_wish caught wish) (has-append wish first (stops wanted)))
    ∙ in_second (has_wish first wish) (has_wish (stops wanted) wish) (has_wish caught wish)
    (has_wish (stepping wanted.step) wish) is)
  where
    in_second : (a b c d : Bool) → b ≡ true → (((a || b) || c) || d) ≡ true
    in_second a b c d is = grind (arith, is)

-- Bare locations ------------------------------------------------------------------------------------------------------

module _ (id : ℕ) where
  -- one of its locations is neither installed nor refused
  abbrev pub is_bare : Wishes → Bool
  is_bare w = has_location (places w.wanted) id (is_missing w.installed w.refused)

  abbrev at : (Wish → Bool) → Place → Bool
  at test place = (place.id == id) && test (stop_of place)

  -- tests that agree on what is wished find the same locations
  pub located_same : (wanted : Wanted) (p q : Wish → Bool)
      → ((wish : Wish) → has_wish (wished wanted) wish ≡ true → p wish ≡ q wish)
      → has_location (places wanted) id p ≡ has_location (places wanted) id q
  located_same wanted p q same =
      any_same (at p) (at q) (places wanted)
      (each (λ (place : Place). has_wish (wished wanted) (stop_of place) ≡ true)
      (λ (place : Place). at p place ≡ at q place)
      (λ place is. ap (λ b. (place.id == id) && b) (same (stop_of place) is)) (places wanted) (places_wished wanted))

  -- where no change is due none is left
  pub bare_none : (w : Wishes) → effect_due w ≡ None → is_bare w ≡ false
  bare_none w none =
      located_same w.wanted (is_missing w.installed w.refused) (λ wish. false) not_missing ∙ no_place (places w.wanted)
    where
      no_place : (those : List Place) → list_any (at (λ wish. false)) those ≡ false
      no_place [] = refl
      no_place (place ∷ those) = no_test (place.id == id) (list_any (at (λ wish. false)) those) (no_place those)
        where
          no_test : (a b : Bool) → b ≡ false → ((a && false) || b) ≡ false
          no_test a b is = grind (arith, is)

      not_missing : (wish : Wish) → has_wish (wished w.wanted) wish ≡ true
          → is_missing w.installed w.refused wish ≡ false
      not_missing wish is =
          let found = witness (is_missing w.installed w.refused) (is_wish wish) (wished w.wanted)
          (none-any (is_missing w.installed w.refused) (wished w.wanted) (none-is w (none_due_change w none)).1) is in
          ap (is_missing w.installed w.refused) (equal_is wish found.0 found.1.0) ∙ found.1.1

  -- Clear -------------------------------------------------------------------------------------------------------------

  still_installed : (w : Wishes) (wish : Wish) (request : ℕ) → effect_due w ≡ Some (Clear wish request) → (other : Wish)
      → has_wish (wished w.wanted) other ≡ true
      → is_installed (cleared wish w).installed other ≡ is_installed w.installed other
  still_installed w wish request due other is =
      any-kept (λ (r : EventRequest). not (is_wish wish r.wish)) (λ (r : EventRequest). is_wish other r.wish)
      (λ r same. not_it (is_wish wish r.wish) (λ it. clash
      (sym (surplus_clear w (record { wish = wish; request = request }) (due_clear w wish request due))
      ∙ ap (has_wish (wished w.wanted)) (equal_is wish r.wish it ∙ sym (equal_is other r.wish same)) ∙ is)))
      w.installed
    where
      clash : false ≡ true → ⊥
      clash is = cc

      not_it : (b : Bool) → (b ≡ true → ⊥) → not b ≡ true
      not_it true never = absurd (never refl)
      not_it false never = refl

  -- what is cleared was no location that is wished
  pub placed_cleared : (w : Wishes) (wish : Wish) (request : ℕ) → effect_due w ≡ Some (Clear wish request)
      → has_location (places w.wanted) id (is_installed (cleared wish w).installed)
      ≡ has_location (places w.wanted) id (is_installed w.installed)
  placed_cleared w wish request due =
      located_same w.wanted (is_installed (cleared wish w).installed) (is_installed w.installed)
      (still_installed w wish request due)

  pub bare_cleared : (w : Wishes) (wish : Wish) (request : ℕ) → effect_due w ≡ Some (Clear wish request)
      → is_bare (cleared wish w) ≡ is_bare w
  bare_cleared w wish request due =
      located_same w.wanted (is_missing (cleared wish w).installed w.refused) (is_missing w.installed w.refused)
      (λ other is. ap (λ b. not (b || has_wish w.refused other)) (still_installed w wish request due other is))

  -- Set ---------------------------------------------------------------------------------------------------------------

  -- where fewer wishes pass, none of its locations does that didn't
  none_more : (wanted : Wanted) (p q : Wish → Bool) → ((wish : Wish) → q wish ≡ true → p wish ≡ true)
      → has_location (places wanted) id p ≡ false → has_location (places wanted) id q ≡ false
  none_more wanted p q fewer = over (places wanted)
    where
      over : (those : List Place) → list_any (at p) those ≡ false → list_any (at q) those ≡ false
      over [] none = refl
      over (place ∷ those) none =
          by_tests (place.id == id) (p (stop_of place)) (q (stop_of place)) (list_any (at p) those)
          (list_any (at q) those) none (fewer (stop_of place)) (over those)
        where
          by_tests : (a b c d e : Bool) → ((a && b) || d) ≡ false → (c ≡ true → b ≡ true) → (d ≡ false → e ≡ false)
              → ((a && c) || e) ≡ false
          by_tests a b c d e none fewer others = grind (arith, none, fewer, others)

  -- once one more is refused or installed no other is bare
  pub bare_refused : (w : Wishes) (wish : Wish) → is_bare w ≡ false → is_bare (refused_now wish w) ≡ false
  bare_refused w wish =
      none_more w.wanted (is_missing w.installed w.refused) (is_missing w.installed (refused_now wish w).refused)
      (λ other is. less (is_installed w.installed other) (is_wish other wish) (has_wish w.refused other)
      (sym (ap (λ b. not (is_installed w.installed other || b))
      (any-insert wish_cmp (is_wish other) (alike other) wish w.refused)) ∙ is))
    where
      less : (a b c : Bool) → not (a || (b || c)) ≡ true → not (a || c) ≡ true
      less a b c is = grind (arith, is)

  pub bare_installed : (w : Wishes) (wish : Wish) (request : ℕ) → is_bare w ≡ false
      → is_bare (installed_as request wish w) ≡ false
  bare_installed w wish request =
      none_more w.wanted (is_missing w.installed w.refused)
      (is_missing (installed_as request wish w).installed w.refused)
      (λ other is. less (is_installed w.installed other) (is_wish other wish) (has_wish w.refused other)
      (sym (ap (λ b. not (b || has_wish w.refused other))
      (installed-with (record { wish = wish; request = request }) w.installed other)) ∙ is))
    where
      less : (a b c : Bool) → not ((b || a) || c) ≡ true → not (a || c) ≡ true
      less a b c is = grind (arith, is)

  -- what a Set installs was bare
  pub placed_installed : (w : Wishes) (wish : Wish) (request : ℕ) → effect_due w ≡ Some (Set wish)
      → has_location (places w.wanted) id (is_installed (installed_as request wish w).installed) ≡ true
      → (has_location (places w.wanted) id (is_installed w.installed) || is_bare w) ≡ true
  placed_installed w wish request due is =
      any_either (at (is_installed (installed_as request wish w).installed)) (at (is_installed w.installed))
      (at (is_missing w.installed w.refused)) (places w.wanted) (each_place (places w.wanted)) is
    where
      missing : is_missing w.installed w.refused wish ≡ true
      missing = let new = new_set_due w wish due in rw (new.not_installed, new.not_refused) refl

      one : (a b c d : Bool) → (a && (c || b)) ≡ true → (c ≡ true → d ≡ true) → ((a && b) || (a && d)) ≡ true
      one a b c d is h = grind (arith, is, h)

      each_place : (those : List Place)
          → All (λ (place : Place). at (is_installed (installed_as request wish w).installed) place ≡ true
          → (at (is_installed w.installed) place || at (is_missing w.installed w.refused) place) ≡ true) those
      each_place [] = tt
      each_place (place ∷ those) = (
        λ found. one (place.id == id) (is_installed w.installed (stop_of place)) (is_wish (stop_of place) wish)
            (is_missing w.installed w.refused (stop_of place))
            (sym (ap (λ b. (place.id == id) && b)
            (installed-with (record { wish = wish; request = request }) w.installed (stop_of place))) ∙ found)
            (λ same. ap (is_missing w.installed w.refused) (equal_is (stop_of place) wish same) ∙ missing),
        each_place those,
      )

  -- Something else is wanted ------------------------------------------------------------------------------------------

  -- what was refused stays refused as long as it is wished
  pub bare_rewished : (now : Wanted) (w : Wishes)
      → has_location (places now) id (is_missing w.installed (rewished now w).refused)
      ≡ has_location (places now) id (is_missing w.installed w.refused)
  bare_rewished now w =
      located_same now (is_missing w.installed (rewished now w).refused) (is_missing w.installed w.refused)
      (λ wish is. ap (λ b. not (is_installed w.installed wish || b)) (has-filter (has_wish (wished now)) wish w.refused
      ∙ kept (has_wish (wished now) wish) (has_wish w.refused wish) is))
    where
      kept : (a b : Bool) → a ≡ true → (a && b) ≡ b
      kept a b is = rw is refl
