-- Something else is wanted: which slots are wished then, what stays, and which wishes are wished.
use Rattle.std.proofs.Common.{◌≡◌, ℕ, Bool, true, false, not, List, [], ◌∷◌, ◌++◌, refl, ap, ◌∙◌}
use Rattle.std.proofs.Common.{Option, Some, None}
use Rattle.std.specs.Prelude.{◌||◌, ◌&&◌, filter, is_some, if◌then◌else◌}
use Rattle.std.specs.List.{AllByRecursion}
use Rattle.std.specs.Ordering.{is_eq, ordering_reverse}
use Rattle.std.specs.declared.cmp.Ordering.TheVariants.{Greater}
use Rattle.wish_sets.specs.declared.slot.Slot.{Slot}
use Rattle.wish_sets.specs.declared.wants.Wants.{Wants}
use Rattle.wish_sets.specs.declared.wish.StepWish.{StepWish}
use Rattle.wish_sets.specs.declared.wish.Wish.{Wish}
use Rattle.wish_sets.specs.declared.wish.Wish.TheVariants as wishes
use Rattle.wish_sets.specs.Kept.{listed_wishes, wanted_by, wishes_by, is_sound, step_wish}
use Rattle.wish_sets.specs.Order.{has_wish, in_order, is_wish, wish_cmp, wish_total}
use Rattle.wish_sets.specs.Slots.{requests_in, refusals_in, wanted_slot, wanted_slots}
use Rattle.wish_sets.specs.Wanted.{Wanted}
use Rattle.wish_sets.specs.Wished.{wished, thrown, stepping}
use Rattle.wish_sets.specs.Wishes.{Wishes, EventRequest, rewished}
use Rattle.wish_sets.proofs.KeptLaws.{Early, in_order_early, wished_parts, thrown-behind, step-behind, each-map}
use Rattle.wish_sets.proofs.SlotLaws.{wishes_of}
use Rattle.wish_sets.proofs.WatchLaws.{has-append}

-- Slots that are wished from now on -----------------------------------------------------------------------------------

pub requests_wanted : (test : Wish → Bool) (slots : List Slot)
    → requests_in (wanted_slots test slots) ≡ requests_in slots
requests_wanted test [] = refl
requests_wanted test (slot ∷ slots) = by slot.request (requests_wanted test slots)
  where
    by : (o : Option ℕ) → requests_in (wanted_slots test slots) ≡ requests_in slots
        → requests_in (wanted_slots test (record slot { request = o } ∷ slots))
        ≡ requests_in (record slot { request = o } ∷ slots)
    by None e = e
    by (Some request) e = ap (λ rs. record { wish = slot.wish; request = request } ∷ rs) e

pub refusals_wanted : (test : Wish → Bool) (slots : List Slot)
    → refusals_in (wanted_slots test slots) ≡ filter test (refusals_in slots)
refusals_wanted test [] = refl
refusals_wanted test (slot ∷ slots) = by slot.refused (test slot.wish) refl (refusals_wanted test slots)
  where
    by : (b c : Bool) → test slot.wish ≡ c → refusals_in (wanted_slots test slots) ≡ filter test (refusals_in slots)
        → refusals_in (wanted_slots test (record slot { refused = b } ∷ slots))
        ≡ filter test (refusals_in (record slot { refused = b } ∷ slots))
    by false c f e = e
    by true true f e = rw f (ap (λ ws. slot.wish ∷ ws) e)
    by true false f e = rw f e

pub wishes_wanted : (test : Wish → Bool) (slots : List Slot) → wishes_of (wanted_slots test slots) ≡ wishes_of slots
wishes_wanted test [] = refl
wishes_wanted test (slot ∷ slots) = ap (λ ws. slot.wish ∷ ws) (wishes_wanted test slots)

sound_wanted : (wished : Bool) (slot : Slot) → is_sound slot ≡ true → is_sound (wanted_slot wished slot) ≡ true
sound_wanted wished slot e = by wished slot.wished (is_some slot.request) slot.refused e
  where
    by : (w a b c : Bool) → (not c || (a && not b)) ≡ true → (not (c && w) || (w && not b)) ≡ true
    by w a b false e = refl
    by true true false true e = refl
    by false a b true e = refl
    by true true true true e = absurd (cc)
    by true false b true e = absurd (cc)

pub all_sound_wanted : (test : Wish → Bool) (slots : List Slot) → AllByRecursion (λ slot. is_sound slot ≡ true) slots
    → AllByRecursion (λ slot. is_sound slot ≡ true) (wanted_slots test slots)
all_sound_wanted test [] all = tt
all_sound_wanted test (slot ∷ slots) all =
    (sound_wanted (test slot.wish) slot all.0, all_sound_wanted test slots all.1)

-- a slot that is wished already stays
pub wanted_already : (test : Wish → Bool) (slots : List Slot)
    → AllByRecursion (λ slot. test slot.wish ≡ slot.wished) slots
    → AllByRecursion (λ slot. is_sound slot ≡ true) slots → wanted_slots test slots ≡ slots
wanted_already test [] all sound = refl
wanted_already test (slot ∷ slots) all sound =
    ap (λ x. x ∷ wanted_slots test slots) (rw all.0 (by slot.refused slot.wished sound.0))
    ∙ ap (λ xs. slot ∷ xs) (wanted_already test slots all.1 sound.1)
  where
    by : (c a : Bool) → (not c || (a && not (is_some slot.request))) ≡ true
        → wanted_slot a (record slot { refused = c; wished = a }) ≡ record slot { refused = c; wished = a }
    by false a e = refl
    by true true e = refl
    by true false e = absurd (cc)

pub wanted-append : (test : Wish → Bool) (xs ys : List Slot)
    → wanted_slots test (xs ++ ys) ≡ wanted_slots test xs ++ wanted_slots test ys
wanted-append test [] ys = refl
wanted-append test (x ∷ xs) ys = ap (λ zs. wanted_slot (test x.wish) x ∷ zs) (wanted-append test xs ys)

-- what is wanted now, and what stood before, is said by slots that are wished from now on
pub rewanted : (before after : Wants) (slots : List Slot)
    → wishes_by after (wanted_slots (has_wish (wished (wanted_by after))) slots)
    ≡ rewished (wanted_by after) (wishes_by before slots)
rewanted before after slots =
    ap (λ rs. with_both rs (refusals_in (wanted_slots (has_wish (wished (wanted_by after))) slots)))
    (requests_wanted (has_wish (wished (wanted_by after))) slots)
    ∙ ap (with_both (requests_in slots)) (refusals_wanted (has_wish (wished (wanted_by after))) slots)
  where
    with_both : List EventRequest → List Wish → Wishes
    with_both rs ws = record { wanted = wanted_by after; installed = rs; refused = ws }

-- Which wishes are wished ---------------------------------------------------------------------------------------------

greater-differs : (a b : Wish) → wish_cmp a b ≡ Greater → is_wish a b ≡ false
greater-differs a b e = ap is_eq e

greater-differs_back : (a b : Wish) → wish_cmp a b ≡ Greater → is_wish b a ≡ false
greater-differs_back a b e = ap is_eq (wish_total.antisymm b a ∙ ap ordering_reverse e)

none-among : (wish : Wish) (those : List Wish) → AllByRecursion (λ other. wish_cmp wish other ≡ Greater) those
    → has_wish those wish ≡ false
none-among wish [] all = refl
none-among wish (other ∷ those) all = rw (greater-differs wish other all.0) (none-among wish those all.1)

or-last : (a b : Bool) → b ≡ false → (a || b) ≡ a
or-last true b e = refl
or-last false b e = e

module _ (wanted : Wanted) where
  abbrev listed : List Wish
  listed = in_order (listed_wishes wanted)

  abbrev flags : List Wish
  flags = thrown wanted.caught wanted.uncaught

  parts : (wish : Wish) → has_wish (wished wanted) wish
      ≡ ((has_wish listed wish || has_wish flags wish) || has_wish (stepping wanted.step) wish)
  parts wish =
      ap (λ ws. has_wish ws wish) (wished_parts wanted)
      ∙ (has-append wish (listed ++ flags) (stepping wanted.step)
      ∙ ap (λ b. b || has_wish (stepping wanted.step) wish) (has-append wish listed flags))

  no_flags : (wish : Wish) → Early wish → (any : Bool)
      → has_wish (if any then wishes.Thrown wanted.caught wanted.uncaught ∷ [] else []) wish ≡ false
  no_flags wish early true =
      rw (greater-differs_back (wishes.Thrown wanted.caught wanted.uncaught) wish
      (thrown-behind wanted.caught wanted.uncaught wish early)) refl
  no_flags wish early false = refl

  no_step : (wish : Wish) → Early wish → (step : Option StepWish) → has_wish (stepping step) wish ≡ false
  no_step wish early None = refl
  no_step wish early (Some step) = rw (greater-differs_back (step_wish step) wish (step-behind step wish early)) refl

  pub has_early : (wish : Wish) → Early wish → has_wish (wished wanted) wish ≡ has_wish listed wish
  has_early wish early =
      parts wish
      ∙ (or-last (has_wish listed wish || has_wish flags wish) (has_wish (stepping wanted.step) wish)
      (no_step wish early wanted.step)
      ∙ or-last (has_wish listed wish) (has_wish flags wish) (no_flags wish early (wanted.caught || wanted.uncaught)))

  no_step_thrown : (a b : Bool) (step : Option StepWish) → has_wish (stepping step) (wishes.Thrown a b) ≡ false
  no_step_thrown a b None = refl
  no_step_thrown a b (Some step) = refl

  pub has_thrown : (a b : Bool) → has_wish (wished wanted) (wishes.Thrown a b) ≡ has_wish flags (wishes.Thrown a b)
  has_thrown a b =
      parts (wishes.Thrown a b)
      ∙ (or-last (has_wish listed (wishes.Thrown a b) || has_wish flags (wishes.Thrown a b))
      (has_wish (stepping wanted.step) (wishes.Thrown a b)) (no_step_thrown a b wanted.step)
      ∙ rw (none-among (wishes.Thrown a b) listed (each-map Early _ (thrown-behind a b) listed (in_order_early wanted)))
      refl)

  no_flags_step : (step : StepWish) (any : Bool)
      → has_wish (if any then wishes.Thrown wanted.caught wanted.uncaught ∷ [] else []) (step_wish step) ≡ false
  no_flags_step step true = refl
  no_flags_step step false = refl

  pub has_step : (step : StepWish)
      → has_wish (wished wanted) (step_wish step) ≡ has_wish (stepping wanted.step) (step_wish step)
  has_step step =
      parts (step_wish step)
      ∙ rw (
        none-among (step_wish step) listed (each-map Early _ (step-behind step) listed (in_order_early wanted)),
        no_flags_step step (wanted.caught || wanted.uncaught),
      ) refl
