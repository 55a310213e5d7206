-- What is kept fits what is wanted once it is formed afresh.
use Rattle.std.proofs.Common.{◌≡◌, ℕ, suc, ◌+◌, ◌<◌, ◌≤◌, ◌^◌, Bool, true, false, not, List, [], ◌∷◌, ◌++◌, refl, ap}
use Rattle.std.proofs.Common.{sym, ◌∙◌}
use Rattle.std.proofs.Common.{subst, length, Option, Some, None, arith, length-append}
use Rattle.std.specs.Prelude.{filter}
use Rattle.std.specs.List.{AllByRecursion}
use Rattle.std.specs.List.Sorted.{IsStrictlySortedBy}
use Rattle.std.specs.Ordering.{ordering_reverse}
use Rattle.std.specs.declared.cmp.Ordering.TheVariants.{Less}
use Rattle.wish_sets.specs.declared.slot.Slot.{Slot}
use Rattle.wish_sets.specs.declared.wants.Wants.{Wants}
use Rattle.wish_sets.specs.declared.wish.StepWish.{StepWish}
use Rattle.wish_sets.specs.declared.wish.Wish.{Wish}
use Rattle.wish_sets.specs.declared.wish.Wish.TheVariants as wishes
use Rattle.wish_sets.specs.Forming.{AreInOrder, AreFormed, IsWider, wished_or_installed}
use Rattle.wish_sets.specs.Kept.{wanted_by, wishes_by, listed_wishes, is_sound, step_wish, AreFixed, AreKept}
use Rattle.wish_sets.specs.Order.{has_wish, in_order, is_wish, wish_cmp, wish_total}
use Rattle.wish_sets.specs.Slots.{wishes_in, requests_in, refusals_in, wanted_slots}
use Rattle.wish_sets.specs.Wanted.{Wanted}
use Rattle.wish_sets.specs.Wished.{wished, thrown, stepping}
use Rattle.wish_sets.specs.Wishes.{Wishes, EventRequest, rewished}
use Rattle.wish_sets.proofs.OrderLaws.{any-fold}
use Rattle.wish_sets.proofs.WishLaws.{alike, filter-same}
use Rattle.wish_sets.proofs.KeptLaws.{Early, kept_wishes, tells_wished, thrown-behind, each-append}
use Rattle.wish_sets.proofs.SlotLaws.{Tells, wishes_of}
use Rattle.wish_sets.proofs.StepKept.{requests-append, refusals-append, filter-append, early_before, wishes_of-append}
use Rattle.wish_sets.proofs.ThrownLaws.{each-front, each-rest}
use Rattle.wish_sets.proofs.WantedLaws.{rewanted, wanted_already, refusals_wanted, has_early, has_thrown, has_step}

-- Lists in order, one behind the other --------------------------------------------------------------------------------

sorted-append : (xs ys : List Wish) → IsStrictlySortedBy wish_cmp xs → IsStrictlySortedBy wish_cmp ys
    → AllByRecursion (λ y. AllByRecursion (λ x. wish_cmp x y ≡ Less) xs) ys → IsStrictlySortedBy wish_cmp (xs ++ ys)
unfolding IsStrictlySortedBy
sorted-append [] ys left right before = right
sorted-append (x ∷ xs) ys left right before = (
  each-append (λ w. wish_cmp x w ≡ Less) xs ys left.0 (firsts ys before),
  sorted-append xs ys left.1 right (rests ys before),
)
  where
    firsts : (zs : List Wish) → AllByRecursion (λ y. AllByRecursion (λ w. wish_cmp w y ≡ Less) (x ∷ xs)) zs
        → AllByRecursion (λ w. wish_cmp x w ≡ Less) zs
    firsts [] all = tt
    firsts (z ∷ zs) all = (all.0.0, firsts zs all.1)

    rests : (zs : List Wish) → AllByRecursion (λ y. AllByRecursion (λ w. wish_cmp w y ≡ Less) (x ∷ xs)) zs
        → AllByRecursion (λ y. AllByRecursion (λ w. wish_cmp w y ≡ Less) xs) zs
    rests [] all = tt
    rests (z ∷ zs) all = (all.0.1, rests zs all.1)

pub sorted-rest : (xs ys : List Wish) → IsStrictlySortedBy wish_cmp (xs ++ ys) → IsStrictlySortedBy wish_cmp ys
unfolding IsStrictlySortedBy
sorted-rest [] ys sorted = sorted
sorted-rest (x ∷ xs) ys sorted = sorted-rest xs ys sorted.1

pub sorted-front : (xs ys : List Wish) → IsStrictlySortedBy wish_cmp (xs ++ ys) → IsStrictlySortedBy wish_cmp xs
unfolding IsStrictlySortedBy
sorted-front [] ys sorted = tt
sorted-front (x ∷ xs) ys sorted =
    (each-front (λ w. wish_cmp x w ≡ Less) xs ys sorted.0, sorted-front xs ys sorted.1)

early_before_thrown : (a b : Bool) (slots : List Slot) → AllByRecursion (λ (slot : Slot). Early slot.wish) slots
    → AllByRecursion (λ w. wish_cmp w (wishes.Thrown a b) ≡ Less) (wishes_of slots)
early_before_thrown a b [] all = tt
early_before_thrown a b (slot ∷ slots) all = (
  wish_total.antisymm slot.wish (wishes.Thrown a b) ∙ ap ordering_reverse (thrown-behind a b slot.wish all.0),
  early_before_thrown a b slots all.1,
)

-- the fixed slots stand behind all others
before_fixed : (wanted : Wanted) (slots fixed : List Slot) → AreFixed wanted fixed
    → AllByRecursion (λ (slot : Slot). Early slot.wish) slots
    → AllByRecursion (λ y. AllByRecursion (λ w. wish_cmp w y ≡ Less) (wishes_of slots)) (wishes_of fixed)
before_fixed wanted slots fixed ends early =
    subst (λ xs. AllByRecursion (λ y. AllByRecursion (λ w. wish_cmp w y ≡ Less) (wishes_of slots)) (wishes_of xs))
    (sym ends.these) (
      thrown_at ends.p.wish false true ends.exceptions.uncaught,
      (
        thrown_at ends.q.wish true false ends.exceptions.caught,
        (
          thrown_at ends.r.wish true true ends.exceptions.both,
          (
            step_at ends.a.wish ends.steps.first ends.steps.first_is,
            (step_at ends.b.wish ends.steps.second ends.steps.second_is, tt),
          ),
        ),
      ),
    )
  where
    thrown_at : (wish : Wish) (a b : Bool) → wish ≡ wishes.Thrown a b
        → AllByRecursion (λ w. wish_cmp w wish ≡ Less) (wishes_of slots)
    thrown_at wish a b is =
        subst (λ y. AllByRecursion (λ w. wish_cmp w y ≡ Less) (wishes_of slots)) (sym is)
        (early_before_thrown a b slots early)

    step_at : (wish : Wish) (step : StepWish) → wish ≡ step_wish step
        → AllByRecursion (λ w. wish_cmp w wish ≡ Less) (wishes_of slots)
    step_at wish step is =
        subst (λ y. AllByRecursion (λ w. wish_cmp w y ≡ Less) (wishes_of slots)) (sym is)
        (early_before step slots early)

-- refusals of slots are of their wishes
refusals_early : (slots : List Slot) → AllByRecursion (λ (slot : Slot). Early slot.wish) slots
    → AllByRecursion Early (refusals_in slots)
refusals_early [] all = tt
refusals_early (slot ∷ slots) all = by slot.refused (refusals_early slots all.1)
  where
    by : (b : Bool) → AllByRecursion Early (refusals_in slots)
        → AllByRecursion Early (refusals_in (record slot { refused = b } ∷ slots))
    by true rest = (all.0, rest)
    by false rest = rest

module _ (before after : Wants) (caught : after.caught ≡ before.caught) (uncaught : after.uncaught ≡ before.uncaught)
    (step : after.step ≡ before.step) (slots fixed : List Slot) (kept : AreKept (wanted_by before) slots fixed) where
  abbrev pub in_order_now : AreInOrder slots
  in_order_now = record {
    sorted = sorted-front (wishes_of slots) (wishes_of fixed)
        (subst (IsStrictlySortedBy wish_cmp) (wishes_of-append slots fixed) kept.sorted);
    early = kept.early;
    sound = each-front (λ slot. is_sound slot ≡ true) slots fixed kept.sound;
    counted = kept.counted;
  }

  abbrev ends : AreFixed (wanted_by before) fixed
  ends = kept.ends

  abbrev ends_after : AreFixed (wanted_by after) fixed
  ends_after = record {
    p = ends.p;
    q = ends.q;
    r = ends.r;
    a = ends.a;
    b = ends.b;
    these = ends.these;
    exceptions = record {
      uncaught = ends.exceptions.uncaught;
      caught = ends.exceptions.caught;
      both = ends.exceptions.both;
      wishes = ends.exceptions.wishes ∙ rw (caught, uncaught) refl;
    };
    steps = record {
      first = ends.steps.first;
      second = ends.steps.second;
      first_is = ends.steps.first_is;
      second_is = ends.steps.second_is;
      wishes = ends.steps.wishes ∙ ap stepping (sym step);
      once = ends.steps.once;
    };
  }

  -- whatever slots come in place of these
  with_others : (wanted : Wanted) (others : List Slot) → AreInOrder others
      → wishes_in others ≡ in_order (listed_wishes wanted) → AreFixed wanted fixed → AreKept wanted others fixed
  with_others wanted others are wishes fixed_fit = record {
    sorted = subst (IsStrictlySortedBy wish_cmp) (sym (wishes_of-append others fixed))
        (sorted-append (wishes_of others) (wishes_of fixed) are.sorted
        (sorted-rest (wishes_of slots) (wishes_of fixed)
        (subst (IsStrictlySortedBy wish_cmp) (wishes_of-append slots fixed) kept.sorted))
        (before_fixed (wanted_by before) others fixed ends are.early));
    early = are.early;
    wishes = wishes;
    ends = fixed_fit;
    sound = each-append (λ slot. is_sound slot ≡ true) others fixed are.sound
        (each-rest (λ slot. is_sound slot ≡ true) slots fixed kept.sound);
    counted = are.counted;
  }

  abbrev with_both : Wanted → List EventRequest → List Wish → Wishes
  with_both wanted rs ws = record { wanted = wanted; installed = rs; refused = ws }

  -- Slots were added

  pub wider_kept : (wide : List Slot) → IsWider slots wide → AreKept (wanted_by before) wide fixed
  wider_kept wide is = with_others (wanted_by before) wide is.in_order (is.wishes ∙ kept.wishes) ends

  pub wider_is : (wide : List Slot) → IsWider slots wide → wishes_by before (wide ++ fixed)
      ≡ wishes_by before (slots ++ fixed)
  wider_is wide is =
      ap (λ rs. with_both (wanted_by before) rs (refusals_in (wide ++ fixed)))
      (requests-append wide fixed ∙ (ap (λ rs. rs ++ requests_in fixed) is.requests
      ∙ sym (requests-append slots fixed)))
      ∙ ap (with_both (wanted_by before) (requests_in (slots ++ fixed)))
      (refusals-append wide fixed ∙ (ap (λ ws. ws ++ refusals_in fixed) is.refusals
      ∙ sym (refusals-append slots fixed)))

  -- Slots were formed afresh

  abbrev test : Wish → Bool
  test = has_wish (wished (wanted_by after))

  abbrev was : Slot → Type 0
  was = Tells (has_wish (wished (wanted_by before)))

  told : AllByRecursion was (ends.p ∷ ends.q ∷ ends.r ∷ ends.a ∷ ends.b ∷ [])
  told = subst (AllByRecursion was) ends.these (each-rest was slots fixed (tells_wished before slots fixed kept))

  thrown_stays : (slot : Slot) (a b : Bool) → slot.wish ≡ wishes.Thrown a b → was slot → test slot.wish ≡ slot.wished
  thrown_stays slot a b is e =
      ap test is ∙ (has_thrown (wanted_by after) a b
      ∙ (ap (λ those. has_wish those (wishes.Thrown a b)) same_flags
      ∙ (sym (has_thrown (wanted_by before) a b) ∙ (ap (has_wish (wished (wanted_by before))) (sym is) ∙ e))))
    where
      same_flags : thrown after.caught after.uncaught ≡ thrown before.caught before.uncaught
      same_flags = rw (caught, uncaught) refl

  step_stays : (slot : Slot) (one : StepWish) → slot.wish ≡ step_wish one → was slot → test slot.wish ≡ slot.wished
  step_stays slot one is e =
      ap test is ∙ (has_step (wanted_by after) one
      ∙ (ap (λ o. has_wish (stepping o) (step_wish one)) step
      ∙ (sym (has_step (wanted_by before) one) ∙ (ap (has_wish (wished (wanted_by before))) (sym is) ∙ e))))

  fixed_stays : wanted_slots test fixed ≡ fixed
  fixed_stays =
      wanted_already test fixed
      (subst (AllByRecursion (λ slot. test slot.wish ≡ slot.wished)) (sym ends.these) (
        thrown_stays ends.p false true ends.exceptions.uncaught told.0,
        (
          thrown_stays ends.q true false ends.exceptions.caught told.1.0,
          (
            thrown_stays ends.r true true ends.exceptions.both told.1.1.0,
            (
              step_stays ends.a ends.steps.first ends.steps.first_is told.1.1.1.0,
              (step_stays ends.b ends.steps.second ends.steps.second_is told.1.1.1.1.0, tt),
            ),
          ),
        ),
      ))
      (each-rest (λ slot. is_sound slot ≡ true) slots fixed kept.sound)

  listed_tested : (those : List Wish) → AllByRecursion Early those
      → AllByRecursion (λ w. has_wish (listed_wishes (wanted_by after)) w ≡ test w) those
  listed_tested [] all = tt
  listed_tested (w ∷ those) all = (
    sym (has_early (wanted_by after) w all.0
        ∙ any-fold wish_cmp (is_wish w) (alike w) [] (listed_wishes (wanted_by after))),
    listed_tested those all.1,
  )

  pub formed_kept : (new : List Slot) → AreFormed (listed_wishes (wanted_by after)) slots new
      → AreKept (wanted_by after) new fixed
  formed_kept new are = with_others (wanted_by after) new are.in_order are.wishes ends_after

  pub formed_is : (new : List Slot) → AreFormed (listed_wishes (wanted_by after)) slots new
      → wishes_by after (new ++ fixed) ≡ rewished (wanted_by after) (wishes_by before (slots ++ fixed))
  formed_is new are =
      ap (λ rs. with_both (wanted_by after) rs (refusals_in (new ++ fixed)))
      (requests-append new fixed ∙ (ap (λ rs. rs ++ requests_in fixed) are.requests
      ∙ sym (requests-append slots fixed)))
      ∙ ap (with_both (wanted_by after) (requests_in (slots ++ fixed)))
      (refusals-append new fixed
      ∙ (ap (λ ws. ws ++ refusals_in fixed) (are.refusals
      ∙ filter-same (has_wish (listed_wishes (wanted_by after))) test (refusals_in slots)
      (listed_tested (refusals_in slots) (refusals_early slots kept.early)))
      ∙ (ap (λ ws. filter test (refusals_in slots) ++ ws)
      (sym (ap refusals_in fixed_stays) ∙ refusals_wanted test fixed)
      ∙ (sym (filter-append test (refusals_in slots) (refusals_in fixed))
      ∙ ap (filter test) (sym (refusals-append slots fixed))))))

-- How many ------------------------------------------------------------------------------------------------------------

counted_slots : (is_in : Wish → Bool) (slots : List Slot) → AllByRecursion (Tells is_in) slots
    → length (wishes_in slots) + length (filter (λ (r : EventRequest). not (is_in r.wish)) (requests_in slots)) ≤
    length slots
counted_slots is_in [] all = omega arith
counted_slots is_in (slot ∷ slots) all = by slot.wished slot.request all.0 (counted_slots is_in slots all.1)
  where
    by : (b : Bool) (o : Option ℕ) → is_in slot.wish ≡ b
        → length (wishes_in slots) + length (filter (λ (r : EventRequest). not (is_in r.wish)) (requests_in slots)) ≤
        length slots
        → length (wishes_in (record slot { wished = b; request = o } ∷ slots))
        + length (filter (λ (r : EventRequest). not (is_in r.wish)) (requests_in (record slot {
          wished = b;
          request = o;
        } ∷ slots)))
        ≤ suc (length slots)
    by true None e less = omega (arith, less)
    by true (Some request) e less = rw e (omega (arith, less))
    by false None e less = omega (arith, less)
    by false (Some request) e less = rw e (omega (arith, less))

pub few_wishes : (wants : Wants) (slots fixed : List Slot) → AreKept (wanted_by wants) slots fixed
    → wished_or_installed (wishes_by wants (slots ++ fixed)) < 2 ^ 31
few_wishes wants slots fixed kept =
    let all = counted_slots (has_wish (wished (wanted_by wants))) (slots
    ++ fixed) (tells_wished wants slots fixed kept) in
    let five : length fixed ≡ 5 = ap length kept.ends.these in
    let same : length (wishes_in (slots ++ fixed)) ≡ length (wished (wanted_by wants)) =
    ap length (kept_wishes (wanted_by wants) slots fixed kept) in
    omega (arith, all, five, same, length-append slots fixed, kept.counted)

-- where nothing else is wanted, nothing changes
pub nothing_else : (wants : Wants) (slots fixed : List Slot) → AreKept (wanted_by wants) slots fixed
    → wishes_by wants (slots ++ fixed) ≡ rewished (wanted_by wants) (wishes_by wants (slots ++ fixed))
nothing_else wants slots fixed kept =
    ap (wishes_by wants) (sym (wanted_already (has_wish (wished (wanted_by wants))) (slots ++ fixed)
    (tells_wished wants slots fixed kept) kept.sound))
    ∙ rewanted wants wants (slots ++ fixed)
