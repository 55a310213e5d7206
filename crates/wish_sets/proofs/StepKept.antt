-- Another step is in flight, or none: what is kept fits what is wanted then.
use Rattle.std.proofs.Common.{◌≡◌, ℕ, Bool, true, false, List, [], ◌∷◌, ◌++◌, refl, ap, sym, subst, ◌∙◌, cond}
use Rattle.std.proofs.Common.{Option, Some, None, append_assoc}
use Rattle.std.specs.Prelude.{◌||◌, filter}
use Rattle.std.specs.List.{AllByRecursion}
use Rattle.std.specs.List.Sorted.{IsStrictlySortedBy}
use Rattle.std.specs.Ordering.{ordering_reverse}
use Rattle.std.specs.declared.cmp.Ordering.TheVariants.{Less}
use Rattle.wish_sets.specs.declared.slot.Slot.{Slot}
use Rattle.wish_sets.specs.declared.wants.Wants.{Wants}
use Rattle.wish_sets.specs.declared.wish.StepWish.{StepWish}
use Rattle.wish_sets.specs.declared.wish.Wish.{Wish}
use Rattle.wish_sets.specs.declared.wish.Wish.TheVariants as wishes
use Rattle.wish_sets.specs.Kept.{wanted_by, wishes_by, is_sound, step_wish, is_of_step, wanted_steps}
use Rattle.wish_sets.specs.Kept.{at_steps, placed_step, with_step_wanted, AreFixed, AreKept}
use Rattle.wish_sets.specs.Order.{has_wish, is_wish, wish_cmp, wish_total}
use Rattle.wish_sets.specs.Slots.{wishes_in, requests_in, refusals_in, wanted_slot, wanted_slots}
use Rattle.wish_sets.specs.Wanted.{Wanted}
use Rattle.wish_sets.specs.Wished.{wished, stepping}
use Rattle.wish_sets.specs.Wishes.{Wishes, EventRequest, rewished}
use Rattle.wish_sets.proofs.WishLaws.{equal_is}
use Rattle.wish_sets.proofs.KeptLaws.{Early, tells_wished, step-behind, each-append, each-both}
use Rattle.wish_sets.proofs.SlotLaws.{Tells, wishes_of}
use Rattle.wish_sets.proofs.StepLaws.{HasSlot, ArePlaced, pair_of, placed}
use Rattle.wish_sets.proofs.ThrownLaws.{each-front, each-rest}
use Rattle.wish_sets.proofs.WantedLaws.{rewanted, wanted_already, wanted-append, wishes_wanted, all_sound_wanted}
use Rattle.wish_sets.proofs.WantedLaws.{has_early, has_thrown, has_step}

-- Lists ---------------------------------------------------------------------------------------------------------------

pub requests-append : (xs ys : List Slot) → requests_in (xs ++ ys) ≡ requests_in xs ++ requests_in ys
requests-append [] ys = refl
requests-append (slot ∷ xs) ys = by slot.request (requests-append xs ys)
  where
    by : (o : Option ℕ) → requests_in (xs ++ ys) ≡ requests_in xs ++ requests_in ys
        → requests_in (record slot { request = o } ∷ (xs ++ ys))
        ≡ requests_in (record slot { request = o } ∷ xs) ++ requests_in ys
    by None e = e
    by (Some request) e = ap (λ rs. record { wish = slot.wish; request = request } ∷ rs) e

pub refusals-append : (xs ys : List Slot) → refusals_in (xs ++ ys) ≡ refusals_in xs ++ refusals_in ys
refusals-append [] ys = refl
refusals-append (slot ∷ xs) ys = by slot.refused (refusals-append xs ys)
  where
    by : (b : Bool) → refusals_in (xs ++ ys) ≡ refusals_in xs ++ refusals_in ys
        → refusals_in (record slot { refused = b } ∷ (xs ++ ys))
        ≡ refusals_in (record slot { refused = b } ∷ xs) ++ refusals_in ys
    by false e = e
    by true e = ap (λ ws. slot.wish ∷ ws) e

pub filter-append : {A : Type 0} (test : A → Bool) (xs ys : List A)
    → filter test (xs ++ ys) ≡ filter test xs ++ filter test ys
filter-append test [] ys = refl
filter-append test (x ∷ xs) ys = by (test x) (filter-append test xs ys)
  where
    by : (b : Bool) → filter test (xs ++ ys) ≡ filter test xs ++ filter test ys
        → cond b (x ∷ filter test (xs ++ ys)) (filter test (xs ++ ys))
        ≡ cond b (x ∷ filter test xs) (filter test xs) ++ filter test ys
    by true e = ap (λ zs. x ∷ zs) e
    by false e = e

-- what stands behind all others may be replaced by what does
last_replaced : (xs : List Wish) (a b x y : Wish) → IsStrictlySortedBy wish_cmp (xs ++ a ∷ b ∷ [])
    → AllByRecursion (λ w. wish_cmp w x ≡ Less) xs → AllByRecursion (λ w. wish_cmp w y ≡ Less) xs
    → wish_cmp x y ≡ Less → IsStrictlySortedBy wish_cmp (xs ++ x ∷ y ∷ [])
unfolding IsStrictlySortedBy
last_replaced [] a b x y sorted before_x before_y rises = ((rises, tt), (tt, tt))
last_replaced (w ∷ xs) a b x y sorted before_x before_y rises = (
  each-append (λ v. wish_cmp w v ≡ Less) xs (x ∷ y ∷ [])
      (each-front (λ v. wish_cmp w v ≡ Less) xs (a ∷ b ∷ []) sorted.0) (before_x.0, (before_y.0, tt)),
  last_replaced xs a b x y sorted.1 before_x.1 before_y.1 rises,
)

last_rises : (xs : List Wish) (a b : Wish) → IsStrictlySortedBy wish_cmp (xs ++ a ∷ b ∷ []) → wish_cmp a b ≡ Less
unfolding IsStrictlySortedBy
last_rises [] a b sorted = sorted.0.0
last_rises (x ∷ xs) a b sorted = last_rises xs a b sorted.1

pub wishes_of-append : (xs ys : List Slot) → wishes_of (xs ++ ys) ≡ wishes_of xs ++ wishes_of ys
wishes_of-append [] ys = refl
wishes_of-append (x ∷ xs) ys = ap (λ ws. x.wish ∷ ws) (wishes_of-append xs ys)

pub early_before : (step : StepWish) (slots : List Slot) → AllByRecursion (λ (slot : Slot). Early slot.wish) slots
    → AllByRecursion (λ w. wish_cmp w (step_wish step) ≡ Less) (wishes_of slots)
early_before step [] all = tt
early_before step (slot ∷ slots) all = (
  wish_total.antisymm slot.wish (step_wish step) ∙ ap ordering_reverse (step-behind step slot.wish all.0),
  early_before step slots all.1,
)

-- The step is wished --------------------------------------------------------------------------------------------------

tells_step : (step : Option StepWish) (slot : Slot) (one : StepWish) → slot.wish ≡ step_wish one
    → has_wish (stepping step) (step_wish one) ≡ is_of_step step slot
tells_step None slot one is = refl
tells_step (Some step) slot one is =
    or-nothing (is_wish (step_wish one) (step_wish step)) ∙ ap (λ w. is_wish w (step_wish step)) (sym is)
  where
    or-nothing : (b : Bool) → (b || false) ≡ b
    or-nothing true = refl
    or-nothing false = refl

-- of two slots in order the one of the step is wished
steps_wished : (step : Option StepWish) (x y : Slot) → wish_cmp x.wish y.wish ≡ Less → HasSlot step x y
    → wishes_in (wanted_steps step x y) ≡ stepping step
steps_wished None x y rises has = refl
steps_wished (Some step) x y rises has =
    by (is_of_step (Some step) x) refl (is_of_step (Some step) y) refl has
  where
    same : is_wish x.wish (step_wish step) ≡ true → is_wish y.wish (step_wish step) ≡ true → true ≡ false
    same e f =
        let one : x.wish ≡ y.wish = equal_is x.wish (step_wish step) e ∙ sym (equal_is y.wish (step_wish step) f) in
        let less : wish_cmp y.wish y.wish ≡ Less = subst (λ w. wish_cmp w y.wish ≡ Less) one rises in
        let equal = Rattle.std.proofs.lemmas.Cmp.tied_itself wish_total y.wish in absurd (cc)

    by : (c : Bool) → is_of_step (Some step) x ≡ c → (d : Bool) → is_of_step (Some step) y ≡ d → (c || d) ≡ true
        → wishes_in (wanted_slot c x ∷ wanted_slot d y ∷ []) ≡ step_wish step ∷ []
    by true e true f has = absurd (let h = same e f in cc)
    by true e false f has = ap (λ w. w ∷ []) (equal_is x.wish (step_wish step) e)
    by false e true f has = ap (λ w. w ∷ []) (equal_is y.wish (step_wish step) f)
    by false e false f has = absurd (cc)

module _ (wants : Wants) (slots fixed : List Slot) (kept : AreKept (wanted_by wants) slots fixed)
    (step : Option StepWish) where
  abbrev after : Wants
  after = record wants { step = step }

  abbrev wanted_after : Wanted
  wanted_after = wanted_by after

  abbrev test : Wish → Bool
  test = has_wish (wished wanted_after)

  abbrev was : Slot → Type 0
  was = Tells (has_wish (wished (wanted_by wants)))

  abbrev sound : Slot → Type 0
  sound slot = is_sound slot ≡ true

  abbrev ends : AreFixed (wanted_by wants) fixed
  ends = kept.ends

  abbrev front : List Slot
  front = ends.p ∷ ends.q ∷ ends.r ∷ []

  split : slots ++ fixed ≡ (slots ++ front) ++ (ends.a ∷ ends.b ∷ [])
  split = ap (λ xs. slots ++ xs) ends.these ∙ sym (append_assoc slots front (ends.a ∷ ends.b ∷ []))

  sorted_split : IsStrictlySortedBy wish_cmp (wishes_of (slots ++ front) ++ ends.a.wish ∷ ends.b.wish ∷ [])
  sorted_split =
      subst (IsStrictlySortedBy wish_cmp)
      (ap wishes_of split ∙ wishes_of-append (slots ++ front) (ends.a ∷ ends.b ∷ [])) kept.sorted

  tells : AllByRecursion was ((slots ++ front) ++ (ends.a ∷ ends.b ∷ []))
  tells = subst (AllByRecursion was) split (tells_wished wants slots fixed kept)

  all_sound : AllByRecursion sound ((slots ++ front) ++ (ends.a ∷ ends.b ∷ []))
  all_sound = subst (AllByRecursion sound) split kept.sound

  tested : (slot : Slot) (one : StepWish) → slot.wish ≡ step_wish one → test slot.wish ≡ is_of_step step slot
  tested slot one is = ap test is ∙ (has_step wanted_after one ∙ tells_step step slot one is)

  pair : ArePlaced step test ends.a ends.b (pair_of step ends.a ends.b)
  pair =
      placed (wanted_by wants) ends.a ends.b ends.steps
      (last_rises (wishes_of (slots ++ front)) ends.a.wish ends.b.wish sorted_split)
      (each-rest sound (slots ++ front) (ends.a ∷ ends.b ∷ []) all_sound).0
      (each-rest sound (slots ++ front) (ends.a ∷ ends.b ∷ []) all_sound).1.0 test step tested

  abbrev with_pair : List Slot
  with_pair = (slots ++ front) ++ (pair.x ∷ pair.y ∷ [])

  -- those in front of steps stay
  thrown_stays : (slot : Slot) (a b : Bool) → slot.wish ≡ wishes.Thrown a b → was slot → test slot.wish ≡ slot.wished
  thrown_stays slot a b is told =
      ap test is ∙ (has_thrown wanted_after a b ∙ (sym (has_thrown (wanted_by wants) a b)
      ∙ (ap (has_wish (wished (wanted_by wants))) (sym is) ∙ told)))

  front_told : AllByRecursion was (slots ++ front)
  front_told = each-front was (slots ++ front) (ends.a ∷ ends.b ∷ []) tells

  front_stays : wanted_slots test (slots ++ front) ≡ slots ++ front
  front_stays =
      wanted_already test (slots ++ front)
      (each-append (λ slot. test slot.wish ≡ slot.wished) slots front
      (each-both (λ (slot : Slot). Early slot.wish) was (λ slot. test slot.wish ≡ slot.wished)
      (λ slot early told. has_early wanted_after slot.wish early
      ∙ (sym (has_early (wanted_by wants) slot.wish early) ∙ told)) slots kept.early
      (each-front was slots front front_told))
      (let told = each-rest was slots front front_told in (
        thrown_stays ends.p false true ends.exceptions.uncaught told.0,
        (
          thrown_stays ends.q true false ends.exceptions.caught told.1.0,
          (thrown_stays ends.r true true ends.exceptions.both told.1.1.0, tt),
        ),
      )))
      (each-front sound (slots ++ front) (ends.a ∷ ends.b ∷ []) all_sound)

  -- the slots of steps say which step is wished
  wanted_fixed : with_step_wanted step fixed ≡ front ++ wanted_steps step pair.x pair.y
  wanted_fixed = ap (with_step_wanted step) ends.these ∙ by step pair.these
    where
      by : (o : Option StepWish) → pair_of o ends.a ends.b ≡ pair.x ∷ pair.y ∷ []
          → at_steps (wanted_steps step) (placed_step o (ends.p ∷ ends.q ∷ ends.r ∷ ends.a ∷ ends.b ∷ []))
          ≡ front ++ wanted_steps step pair.x pair.y
      by None e = ap (λ xs. at_steps (wanted_steps step) (ends.p ∷ ends.q ∷ ends.r ∷ xs)) e
      by (Some one) e = ap (λ xs. at_steps (wanted_steps step) (ends.p ∷ ends.q ∷ ends.r ∷ xs)) e

  pair_wanted : wanted_steps step pair.x pair.y ≡ wanted_slots test (pair.x ∷ pair.y ∷ [])
  pair_wanted =
      rw (tested pair.x pair.first pair.first_is, tested pair.y pair.second pair.second_is) refl

  all_are : slots ++ with_step_wanted step fixed ≡ wanted_slots test with_pair
  all_are =
      ap (λ xs. slots ++ xs) wanted_fixed
      ∙ (sym (append_assoc slots front (wanted_steps step pair.x pair.y))
      ∙ (ap (λ xs. xs ++ wanted_steps step pair.x pair.y) (sym front_stays)
      ∙ (ap (λ xs. wanted_slots test (slots ++ front) ++ xs) pair_wanted
      ∙ sym (wanted-append test (slots ++ front) (pair.x ∷ pair.y ∷ [])))))

  requests_are : requests_in with_pair ≡ requests_in (slots ++ fixed)
  requests_are =
      requests-append (slots ++ front) (pair.x ∷ pair.y ∷ [])
      ∙ (ap (λ rs. requests_in (slots ++ front) ++ rs) pair.requests
      ∙ (sym (requests-append (slots ++ front) (ends.a ∷ ends.b ∷ [])) ∙ ap requests_in (sym split)))

  refusals_are : filter test (refusals_in with_pair) ≡ filter test (refusals_in (slots ++ fixed))
  refusals_are =
      ap (filter test) (refusals-append (slots ++ front) (pair.x ∷ pair.y ∷ []))
      ∙ (filter-append test (refusals_in (slots ++ front)) (refusals_in (pair.x ∷ pair.y ∷ []))
      ∙ (ap (λ ws. filter test (refusals_in (slots ++ front)) ++ ws) pair.refusals
      ∙ (sym (filter-append test (refusals_in (slots ++ front)) (refusals_in (ends.a ∷ ends.b ∷ [])))
      ∙ (ap (filter test) (sym (refusals-append (slots ++ front) (ends.a ∷ ends.b ∷ [])))
      ∙ ap (λ xs. filter test (refusals_in xs)) (sym split)))))

  abbrev with_both : List EventRequest → List Wish → Wishes
  with_both rs ws = record { wanted = wanted_after; installed = rs; refused = ws }

  pub step_is : wishes_by after (slots ++ with_step_wanted step fixed)
      ≡ rewished wanted_after (wishes_by wants (slots ++ fixed))
  step_is =
      ap (wishes_by after) all_are
      ∙ (rewanted wants after with_pair
      ∙ (ap (λ rs. with_both rs (filter test (refusals_in with_pair))) requests_are
      ∙ ap (with_both (requests_in (slots ++ fixed))) refusals_are))

  ends_after : AreFixed wanted_after (with_step_wanted step fixed)
  ends_after = record {
    p = ends.p;
    q = ends.q;
    r = ends.r;
    a = wanted_slot (is_of_step step pair.x) pair.x;
    b = wanted_slot (is_of_step step pair.y) pair.y;
    these = wanted_fixed;
    exceptions = record {
      uncaught = ends.exceptions.uncaught;
      caught = ends.exceptions.caught;
      both = ends.exceptions.both;
      wishes = ends.exceptions.wishes;
    };
    steps = record {
      first = pair.first;
      second = pair.second;
      first_is = pair.first_is;
      second_is = pair.second_is;
      wishes = steps_wished step pair.x pair.y pair.rises pair.has;
      once = pair.once;
    };
  }

  early_front : (one : StepWish) → AllByRecursion (λ w. wish_cmp w (step_wish one) ≡ Less) (wishes_of (slots ++ front))
  early_front one =
      subst (AllByRecursion (λ w. wish_cmp w (step_wish one) ≡ Less)) (sym (wishes_of-append slots front))
      (each-append (λ w. wish_cmp w (step_wish one) ≡ Less) (wishes_of slots) (wishes_of front)
      (early_before one slots kept.early) (
        thrown_before ends.p false true ends.exceptions.uncaught,
        (
          thrown_before ends.q true false ends.exceptions.caught,
          (thrown_before ends.r true true ends.exceptions.both, tt),
        ),
      ))
    where
      thrown_before : (slot : Slot) (a b : Bool) → slot.wish ≡ wishes.Thrown a b
          → wish_cmp slot.wish (step_wish one) ≡ Less
      thrown_before slot a b is = ap (λ w. wish_cmp w (step_wish one)) is

  sorted_pair : IsStrictlySortedBy wish_cmp (wishes_of with_pair)
  sorted_pair =
      subst (IsStrictlySortedBy wish_cmp) (sym (wishes_of-append (slots ++ front) (pair.x ∷ pair.y ∷ [])))
      (last_replaced (wishes_of (slots ++ front)) ends.a.wish ends.b.wish pair.x.wish pair.y.wish sorted_split
      (subst (λ v. AllByRecursion (λ w. wish_cmp w v ≡ Less) (wishes_of (slots ++ front))) (sym pair.first_is)
      (early_front pair.first))
      (subst (λ v. AllByRecursion (λ w. wish_cmp w v ≡ Less) (wishes_of (slots ++ front))) (sym pair.second_is)
      (early_front pair.second)) pair.rises)

  pub step_kept : AreKept wanted_after slots (with_step_wanted step fixed)
  step_kept = record {
    sorted = subst (IsStrictlySortedBy wish_cmp) (sym (ap wishes_of all_are
        ∙ wishes_wanted test with_pair)) sorted_pair;
    early = kept.early;
    wishes = kept.wishes;
    ends = ends_after;
    sound = subst (AllByRecursion sound) (sym all_are)
        (all_sound_wanted test with_pair (each-append sound (slots ++ front) (pair.x ∷ pair.y ∷ [])
        (each-front sound (slots ++ front) (ends.a ∷ ends.b ∷ []) all_sound)
        (pair.first_sound, (pair.second_sound, tt))));
    counted = kept.counted;
  }
