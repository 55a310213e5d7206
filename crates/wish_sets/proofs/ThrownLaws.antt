-- Other exceptions stop: their slots say so, and nothing else changes.
use Rattle.std.proofs.Common.{◌≡◌, Bool, true, false, not, List, [], ◌∷◌, ◌++◌, refl, ap, sym, subst, ◌∙◌}
use Rattle.std.specs.Prelude.{◌&&◌}
use Rattle.std.specs.List.{AllByRecursion}
use Rattle.std.specs.List.Sorted.{IsStrictlySortedBy}
use Rattle.wish_sets.specs.declared.slot.Slot.{Slot}
use Rattle.wish_sets.specs.declared.wants.Wants.{Wants}
use Rattle.wish_sets.specs.declared.wish.StepWish.{StepWish}
use Rattle.wish_sets.specs.declared.wish.Wish.{Wish}
use Rattle.wish_sets.specs.declared.wish.Wish.TheVariants as wishes
use Rattle.wish_sets.specs.Kept.{wanted_by, wishes_by, is_sound, step_wish, with_thrown, AreFixed, AreKept}
use Rattle.wish_sets.specs.Order.{has_wish, wish_cmp}
use Rattle.wish_sets.specs.Slots.{wishes_in, wanted_slot, wanted_slots}
use Rattle.wish_sets.specs.Wanted.{Wanted}
use Rattle.wish_sets.specs.Wished.{wished, thrown}
use Rattle.wish_sets.specs.Wishes.{rewished}
use Rattle.wish_sets.proofs.KeptLaws.{Early, tells_wished, each-both}
use Rattle.wish_sets.proofs.SlotLaws.{Tells, wishes_of}
use Rattle.wish_sets.proofs.WantedLaws.{rewanted, wanted_already, wanted-append, wishes_wanted, all_sound_wanted}
use Rattle.wish_sets.proofs.WantedLaws.{has_early, has_thrown, has_step}

pub each-front : {A : Type 0} (P : A → Type 0) (xs ys : List A) → AllByRecursion P (xs ++ ys) → AllByRecursion P xs
each-front P [] ys all = tt
each-front P (x ∷ xs) ys all = (all.0, each-front P xs ys all.1)

pub each-rest : {A : Type 0} (P : A → Type 0) (xs ys : List A) → AllByRecursion P (xs ++ ys) → AllByRecursion P ys
each-rest P [] ys all = all
each-rest P (x ∷ xs) ys all = each-rest P xs ys all.1

pub uncaught_alone : (c u : Bool) → has_wish (thrown c u) (wishes.Thrown false true) ≡ (not c && u)
uncaught_alone true true = refl
uncaught_alone true false = refl
uncaught_alone false true = refl
uncaught_alone false false = refl

pub caught_alone : (c u : Bool) → has_wish (thrown c u) (wishes.Thrown true false) ≡ (c && not u)
caught_alone true true = refl
caught_alone true false = refl
caught_alone false true = refl
caught_alone false false = refl

pub both_thrown : (c u : Bool) → has_wish (thrown c u) (wishes.Thrown true true) ≡ (c && u)
both_thrown true true = refl
both_thrown true false = refl
both_thrown false true = refl
both_thrown false false = refl

-- the slots of exceptions that are wished
thrown_wished : (c u : Bool) (p q r : Slot) → p.wish ≡ wishes.Thrown false true → q.wish ≡ wishes.Thrown true false
    → r.wish ≡ wishes.Thrown true true
    → wishes_in (wanted_slot (not c && u) p ∷ wanted_slot (c && not u) q ∷ wanted_slot (c && u) r ∷ []) ≡ thrown c u
thrown_wished true true p q r at_p at_q at_r = ap (λ w. w ∷ []) at_r
thrown_wished true false p q r at_p at_q at_r = ap (λ w. w ∷ []) at_q
thrown_wished false true p q r at_p at_q at_r = ap (λ w. w ∷ []) at_p
thrown_wished false false p q r at_p at_q at_r = refl

module _ (wants : Wants) (slots fixed : List Slot) (kept : AreKept (wanted_by wants) slots fixed) (c u : Bool) where
  abbrev after : Wants
  after = record wants { caught = c; uncaught = u }

  abbrev wanted_after : Wanted
  wanted_after = wanted_by after

  abbrev test : Wish → Bool
  test = has_wish (wished wanted_after)

  tells : AllByRecursion (Tells (has_wish (wished (wanted_by wants)))) (slots ++ fixed)
  tells = tells_wished wants slots fixed kept

  slots_stay : wanted_slots test slots ≡ slots
  slots_stay =
      wanted_already test slots
      (each-both (λ (slot : Slot). Early slot.wish) (Tells (has_wish (wished (wanted_by wants))))
      (λ slot. test slot.wish ≡ slot.wished)
      (λ slot early told. has_early wanted_after slot.wish early
      ∙ (sym (has_early (wanted_by wants) slot.wish early) ∙ told)) slots kept.early
      (each-front (Tells (has_wish (wished (wanted_by wants)))) slots fixed tells))
      (each-front (λ slot. is_sound slot ≡ true) slots fixed kept.sound)

  abbrev ends : AreFixed (wanted_by wants) fixed
  ends = kept.ends

  fixed_tells : AllByRecursion (Tells (has_wish (wished (wanted_by wants))))
      (ends.p ∷ ends.q ∷ ends.r ∷ ends.a ∷ ends.b ∷ [])
  fixed_tells =
      subst (AllByRecursion (Tells (has_wish (wished (wanted_by wants))))) ends.these
      (each-rest (Tells (has_wish (wished (wanted_by wants)))) slots fixed tells)

  fixed_sound : AllByRecursion (λ slot. is_sound slot ≡ true) (ends.p ∷ ends.q ∷ ends.r ∷ ends.a ∷ ends.b ∷ [])
  fixed_sound =
      subst (AllByRecursion (λ slot. is_sound slot ≡ true)) ends.these
      (each-rest (λ slot. is_sound slot ≡ true) slots fixed kept.sound)

  step_stays : (slot : Slot) → (step : StepWish) → slot.wish ≡ step_wish step
      → has_wish (wished (wanted_by wants)) slot.wish ≡ slot.wished → test slot.wish ≡ slot.wished
  step_stays slot step is told =
      ap test is ∙ (has_step wanted_after step ∙ (sym (has_step (wanted_by wants) step)
      ∙ (ap (has_wish (wished (wanted_by wants))) (sym is) ∙ told)))

  steps_stay : wanted_slots test (ends.a ∷ ends.b ∷ []) ≡ ends.a ∷ ends.b ∷ []
  steps_stay =
      wanted_already test (ends.a ∷ ends.b ∷ []) (
        step_stays ends.a ends.steps.first ends.steps.first_is fixed_tells.1.1.1.0,
        (step_stays ends.b ends.steps.second ends.steps.second_is fixed_tells.1.1.1.1.0, tt),
      )
      fixed_sound.1.1.1

  flag : (slot : Slot) (a b on : Bool) → slot.wish ≡ wishes.Thrown a b → has_wish (thrown c u) (wishes.Thrown a b) ≡ on
      → wanted_slot on slot ≡ wanted_slot (test slot.wish) slot
  flag slot a b on is e =
      ap (λ w. wanted_slot w slot) (sym (ap test is ∙ (has_thrown wanted_after a b ∙ e)))

  thrown_are : with_thrown c u (ends.p ∷ ends.q ∷ ends.r ∷ ends.a ∷ ends.b ∷ [])
      ≡ wanted_slots test (ends.p ∷ ends.q ∷ ends.r ∷ ends.a ∷ ends.b ∷ [])
  thrown_are =
      rw (
        flag ends.p false true (not c && u) ends.exceptions.uncaught (uncaught_alone c u),
        flag ends.q true false (c && not u) ends.exceptions.caught (caught_alone c u),
        flag ends.r true true (c && u) ends.exceptions.both (both_thrown c u),
      )
      (ap (λ xs. wanted_slot (test ends.p.wish) ends.p ∷ wanted_slot (test ends.q.wish) ends.q
      ∷ wanted_slot (test ends.r.wish) ends.r ∷ xs) (sym steps_stay))

  pub all_are : slots ++ with_thrown c u fixed ≡ wanted_slots test (slots ++ fixed)
  all_are =
      ap (λ xs. xs ++ with_thrown c u fixed) (sym slots_stay)
      ∙ (ap (λ xs. wanted_slots test slots ++ xs)
      (ap (with_thrown c u) ends.these ∙ (thrown_are ∙ ap (wanted_slots test) (sym ends.these)))
      ∙ sym (wanted-append test slots fixed))

  pub thrown_is : wishes_by after (slots ++ with_thrown c u fixed) ≡ rewished wanted_after (wishes_by wants (slots
      ++ fixed))
  thrown_is = ap (wishes_by after) all_are ∙ rewanted wants after (slots ++ fixed)

  pub thrown_kept : AreKept wanted_after slots (with_thrown c u fixed)
  thrown_kept = record {
    sorted = subst (IsStrictlySortedBy wish_cmp)
        (sym (ap wishes_of all_are ∙ wishes_wanted test (slots ++ fixed))) kept.sorted;
    early = kept.early;
    wishes = kept.wishes;
    ends = record {
      p = wanted_slot (not c && u) ends.p;
      q = wanted_slot (c && not u) ends.q;
      r = wanted_slot (c && u) ends.r;
      a = ends.a;
      b = ends.b;
      these = ap (with_thrown c u) ends.these;
      exceptions = record {
        uncaught = ends.exceptions.uncaught;
        caught = ends.exceptions.caught;
        both = ends.exceptions.both;
        wishes = thrown_wished c u ends.p ends.q ends.r ends.exceptions.uncaught ends.exceptions.caught
            ends.exceptions.both;
      };
      steps = record {
        first = ends.steps.first;
        second = ends.steps.second;
        first_is = ends.steps.first_is;
        second_is = ends.steps.second_is;
        wishes = ends.steps.wishes;
        once = ends.steps.once;
      };
    };
    sound = subst (AllByRecursion (λ slot. is_sound slot ≡ true)) (sym all_are)
        (all_sound_wanted test (slots ++ fixed) kept.sound);
    counted = kept.counted;
  }
