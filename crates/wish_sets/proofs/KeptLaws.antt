-- What is kept says what is wished and what stands: the next change, and what comes of it.
use Rattle.std.proofs.Common.{◌≡◌, ℕ, ◌<◌, Bool, true, false, List, [], ◌∷◌, ◌++◌, refl, ap, sym, ◌∙◌}
use Rattle.std.proofs.Common.{Option, Some, None, arith, append_assoc}
use Rattle.std.specs.Prelude.{◌||◌, map, fold, if◌then◌else◌}
use Rattle.std.specs.BTreeSet.{insert_key}
use Rattle.std.specs.List.{AllByRecursion}
use Rattle.std.specs.declared.cmp.Ordering.{Ordering}
use Rattle.std.specs.declared.cmp.Ordering.TheVariants.{Greater}
use Rattle.wish_sets.specs.declared.slot.Slot.{Slot}
use Rattle.wish_sets.specs.declared.wish.StepWish.{StepWish}
use Rattle.wish_sets.specs.declared.wish.Wish.{Wish}
use Rattle.wish_sets.specs.declared.wish.Wish.TheVariants as wishes
use Rattle.wish_sets.specs.Order.{has_wish, in_order, wish_cmp, wish_rank}
use Rattle.wish_sets.specs.Places.{Place, places}
use Rattle.wish_sets.specs.Wanted.{Wanted}
use Rattle.wish_sets.specs.Wished.{wished, watched, stops, thrown, stepping}
use Rattle.std.specs.Option.{option_or}
use Rattle.wish_sets.specs.declared.wants.Wants.{Wants}
use Rattle.wish_sets.specs.Kept.{listed_wishes, wanted_by, wishes_by, AreFixed, AreKept}
use Rattle.wish_sets.specs.Slots.{wishes_in, late_from, unset_from}
use Rattle.wish_sets.specs.Wishes.{Wishes, next_change, next_place, is_missing}
use Rattle.wish_sets.proofs.OrderLaws.{each-insert}
use Rattle.wish_sets.proofs.SlotLaws.{has_slot, has-kept, has-installed, stands, own_slot, change_of, place_of, Tells}
use Rattle.wish_sets.proofs.SlotLaws.{TellsUnset, late_change, late_place, unset_change, unset_place}

-- Wishes by their kinds -----------------------------------------------------------------------------------------------

-- a wish that stands behind all others goes to their end
behind-all : (wish : Wish) (those : List Wish) → AllByRecursion (λ other. wish_cmp wish other ≡ Greater) those
    → insert_key wish_cmp those wish ≡ those ++ wish ∷ []
behind-all wish [] all = refl
behind-all wish (other ∷ those) all = rw all.0 (ap (λ ws. other ∷ ws) (behind-all wish those all.1))

-- exceptions and steps stand behind all others, and steps behind exceptions
abbrev pub Early : Wish → Type 0
Early wish = wish_rank wish < 4

pub thrown-behind : (caught uncaught : Bool) (wish : Wish) → Early wish
    → wish_cmp (wishes.Thrown caught uncaught) wish ≡ Greater
thrown-behind caught uncaught wishes.ThreadStart early = refl
thrown-behind caught uncaught wishes.ThreadDeath early = refl
thrown-behind caught uncaught (wishes.Watch path) early = refl
thrown-behind caught uncaught (wishes.Stop at) early = refl
thrown-behind caught uncaught (wishes.Thrown a b) early = absurd (let h : 4 < 4 = early in omega (arith, h))
thrown-behind caught uncaught (wishes.Step thread depth) early = absurd (let h : 5 < 4 = early in omega (arith, h))

pub step-behind : (step : StepWish) (wish : Wish) → Early wish
    → wish_cmp (wishes.Step step.thread step.depth) wish ≡ Greater
step-behind step wishes.ThreadStart early = refl
step-behind step wishes.ThreadDeath early = refl
step-behind step (wishes.Watch path) early = refl
step-behind step (wishes.Stop at) early = refl
step-behind step (wishes.Thrown a b) early = refl
step-behind step (wishes.Step thread depth) early = absurd (let h : 5 < 4 = early in omega (arith, h))

pub each-map : {A : Type 0} (P Q : A → Type 0) → ((x : A) → P x → Q x) → (xs : List A) → AllByRecursion P xs
    → AllByRecursion Q xs
each-map P Q f [] all = tt
each-map P Q f (x ∷ xs) all = (f x all.0, each-map P Q f xs all.1)

pub each-append : {A : Type 0} (P : A → Type 0) (xs ys : List A) → AllByRecursion P xs → AllByRecursion P ys
    → AllByRecursion P (xs ++ ys)
each-append P [] ys all more = more
each-append P (x ∷ xs) ys all more = (all.0, each-append P xs ys all.1 more)

each-fold : {K : Type 0} (cmp : K → K → Ordering) (P : K → Type 0) (start ks : List K) → AllByRecursion P start
    → AllByRecursion P ks → AllByRecursion P (fold (insert_key cmp) start ks)
each-fold cmp P start [] all more = all
each-fold cmp P start (k ∷ ks) all more =
    each-fold cmp P (insert_key cmp start k) ks (each-insert cmp P k start more.0 all) more.1

fold-append : {A B : Type 0} (f : B → A → B) (start : B) (xs ys : List A)
    → fold f start (xs ++ ys) ≡ fold f (fold f start xs) ys
fold-append f start [] ys = refl
fold-append f start (x ∷ xs) ys = fold-append f (f start x) xs ys

watches_early : (names : List (List ℕ)) → AllByRecursion Early (map wishes.Watch names)
watches_early [] = tt
watches_early (name ∷ names) = (omega arith, watches_early names)

stops_early : (those : List Place) → AllByRecursion Early (map (λ (place : Place). wishes.Stop place.at) those)
stops_early [] = tt
stops_early (place ∷ those) = (omega arith, stops_early those)

pub listed_early : (wanted : Wanted) → AllByRecursion Early (listed_wishes wanted)
listed_early wanted = (
  omega arith,
  (
    omega arith,
    each-append Early (map wishes.Watch (watched wanted)) (stops wanted)
        (watches_early (watched wanted)) (stops_early (places wanted)),
  ),
)

pub in_order_early : (wanted : Wanted) → AllByRecursion Early (in_order (listed_wishes wanted))
in_order_early wanted = each-fold wish_cmp Early [] (listed_wishes wanted) tt (listed_early wanted)

-- what is wished: what is listed, in order, the exceptions, and the step
pub wished_parts : (wanted : Wanted) → wished wanted
    ≡ (in_order (listed_wishes wanted) ++ thrown wanted.caught wanted.uncaught) ++ stepping wanted.step
unfolding wished
wished_parts wanted =
    fold-append (insert_key wish_cmp) [] (listed_wishes wanted ++ thrown wanted.caught wanted.uncaught)
    (stepping wanted.step)
    ∙ (ap (λ those. fold (insert_key wish_cmp) those (stepping wanted.step))
    (fold-append (insert_key wish_cmp) [] (listed_wishes wanted) (thrown wanted.caught wanted.uncaught)
    ∙ with-thrown (wanted.caught || wanted.uncaught))
    ∙ with-step wanted.step)
  where
    front : List Wish
    front = in_order (listed_wishes wanted)

    flags : Bool → List Wish
    flags any = if any then wishes.Thrown wanted.caught wanted.uncaught ∷ [] else []

    append-none : {A : Type 0} (xs : List A) → xs ≡ xs ++ []
    append-none [] = refl
    append-none (x ∷ xs) = ap (λ ys. x ∷ ys) (append-none xs)

    with-thrown : (any : Bool) → fold (insert_key wish_cmp) front (flags any) ≡ front ++ flags any
    with-thrown true =
        behind-all (wishes.Thrown wanted.caught wanted.uncaught) front
        (each-map Early _ (thrown-behind wanted.caught wanted.uncaught) front (in_order_early wanted))
    with-thrown false = append-none front

    flags_behind : (step : StepWish) (any : Bool)
        → AllByRecursion (λ other. wish_cmp (wishes.Step step.thread step.depth) other ≡ Greater) (flags any)
    flags_behind step true = (refl, tt)
    flags_behind step false = tt

    with-step : (step : Option StepWish)
        → fold (insert_key wish_cmp) (front ++ flags (wanted.caught || wanted.uncaught)) (stepping step)
        ≡ (front ++ flags (wanted.caught || wanted.uncaught)) ++ stepping step
    with-step None = append-none (front ++ flags (wanted.caught || wanted.uncaught))
    with-step (Some step) =
        behind-all (wishes.Step step.thread step.depth) (front ++ flags (wanted.caught || wanted.uncaught))
        (each-append _ front (flags (wanted.caught || wanted.uncaught))
        (each-map Early _ (step-behind step) front (in_order_early wanted))
        (flags_behind step (wanted.caught || wanted.uncaught)))

-- What is kept --------------------------------------------------------------------------------------------------------

pub wishes_in-append : (xs ys : List Slot) → wishes_in (xs ++ ys) ≡ wishes_in xs ++ wishes_in ys
wishes_in-append [] ys = refl
wishes_in-append (slot ∷ xs) ys = by slot.wished (wishes_in-append xs ys)
  where
    by : (b : Bool) → wishes_in (xs ++ ys) ≡ wishes_in xs ++ wishes_in ys
        → wishes_in (record slot { wished = b } ∷ (xs ++ ys)) ≡ wishes_in (record slot { wished = b } ∷ xs)
        ++ wishes_in ys
    by true e = ap (λ ws. slot.wish ∷ ws) e
    by false e = e

fixed_wishes : (wanted : Wanted) (fixed : List Slot) → AreFixed wanted fixed
    → wishes_in fixed ≡ thrown wanted.caught wanted.uncaught ++ stepping wanted.step
fixed_wishes wanted fixed these =
    ap wishes_in these.these
    ∙ (wishes_in-append (these.p ∷ these.q ∷ these.r ∷ []) (these.a ∷ these.b ∷ [])
    ∙ (ap (λ ws. ws ++ wishes_in (these.a ∷ these.b ∷ [])) these.exceptions.wishes
    ∙ ap (λ ws. thrown wanted.caught wanted.uncaught ++ ws) these.steps.wishes))

-- the slots that are wished are what is wished
pub kept_wishes : (wanted : Wanted) (slots fixed : List Slot) → AreKept wanted slots fixed
    → wishes_in (slots ++ fixed) ≡ wished wanted
kept_wishes wanted slots fixed kept =
    wishes_in-append slots fixed
    ∙ (ap (λ ws. ws ++ wishes_in fixed) kept.wishes
    ∙ (ap (λ ws. in_order (listed_wishes wanted) ++ ws) (fixed_wishes wanted fixed kept.ends)
    ∙ (sym (append_assoc (in_order (listed_wishes wanted)) (thrown wanted.caught wanted.uncaught) (stepping
    wanted.step))
    ∙ sym (wished_parts wanted))))

each-is : {A : Type 0} (f g : A → Bool) → ((x : A) → f x ≡ g x) → (h : A → Bool) → (xs : List A)
    → AllByRecursion (λ x. f x ≡ h x) xs → AllByRecursion (λ x. g x ≡ h x) xs
each-is f g e h [] all = tt
each-is f g e h (x ∷ xs) all = (sym (e x) ∙ all.0, each-is f g e h xs all.1)

pub each-both : {A : Type 0} (P Q R : A → Type 0) → ((x : A) → P x → Q x → R x) → (xs : List A) → AllByRecursion P xs
    → AllByRecursion Q xs → AllByRecursion R xs
each-both P Q R f [] all more = tt
each-both P Q R f (x ∷ xs) all more = (f x all.0 more.0, each-both P Q R f xs all.1 more.1)

module _ (wants : Wants) (slots fixed : List Slot) (kept : AreKept (wanted_by wants) slots fixed) where
  abbrev kept_all : List Slot
  kept_all = slots ++ fixed

  abbrev what_stands : Wishes
  what_stands = wishes_by wants kept_all

  pub tells_wished : AllByRecursion (Tells (has_wish (wished (wanted_by wants)))) kept_all
  tells_wished =
      each-map (λ slot. has_slot (λ s. s.wished) kept_all slot.wish ≡ slot.wished)
      (Tells (has_wish (wished (wanted_by wants))))
      (λ slot e. ap (λ ws. has_wish ws slot.wish) (sym (kept_wishes (wanted_by wants) slots fixed kept))
      ∙ (has-kept (λ s. s.wished) kept_all slot.wish ∙ e)) kept_all
      (own_slot (λ s. s.wished) kept_all kept.sorted)

  pub tells_unset : AllByRecursion (TellsUnset (is_missing what_stands.installed what_stands.refused)) kept_all
  tells_unset =
      each-both (λ slot. has_slot stands kept_all slot.wish ≡ stands slot)
      (λ slot. has_slot (λ s. s.refused) kept_all slot.wish ≡ slot.refused)
      (TellsUnset (is_missing what_stands.installed what_stands.refused))
      (λ slot e f. rw (has-installed kept_all slot.wish, e, has-kept (λ s. s.refused) kept_all slot.wish, f) refl)
      kept_all
      (own_slot stands kept_all kept.sorted) (own_slot (λ s. s.refused) kept_all kept.sorted)

  pub next_is : next_change what_stands
      ≡ option_or (change_of (late_from 0 kept_all)) (change_of (unset_from 0 kept_all))
  unfolding next_change
  next_is =
      rw (
        late_change (has_wish (wished (wanted_by wants))) 0 kept_all tells_wished,
        unset_change (is_missing what_stands.installed what_stands.refused) 0 kept_all tells_unset,
        kept_wishes (wanted_by wants) slots fixed kept,
      ) refl

  pub place_is : next_place what_stands
      ≡ option_or (place_of (late_from 0 kept_all)) (place_of (unset_from 0 kept_all))
  unfolding next_place
  place_is =
      rw (
        late_place (has_wish (wished (wanted_by wants))) 0 kept_all tells_wished,
        unset_place (is_missing what_stands.installed what_stands.refused) 0 kept_all tells_unset,
        kept_wishes (wanted_by wants) slots fixed kept,
      ) refl
