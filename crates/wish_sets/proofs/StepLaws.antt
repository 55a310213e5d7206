-- Another step is in flight, or none: it has a slot, which is wished, and nothing that is installed changes.
use Rattle.std.proofs.Common.{◌≡◌, ℕ, Bool, true, false, not, List, [], ◌∷◌, refl, subst, ◌∙◌, cond, inl, inr}
use Rattle.std.proofs.Common.{Option, Some, None}
use Rattle.std.specs.Prelude.{◌||◌, ◌&&◌, ◌⊎◌, filter, is_some}
use Rattle.std.specs.Ordering.{is_eq, is_lt, ordering_reverse}
use Rattle.std.specs.declared.cmp.Ordering.{Ordering}
use Rattle.std.specs.declared.cmp.Ordering.TheVariants.{Less, Equal, Greater}
use Rattle.wish_sets.specs.declared.slot.Slot.{Slot}
use Rattle.wish_sets.specs.declared.wish.StepWish.{StepWish}
use Rattle.wish_sets.specs.declared.wish.Wish.{Wish}
use Rattle.wish_sets.specs.Kept.{is_sound, step_wish, is_of_step, ordered, two_slots}
use Rattle.wish_sets.specs.Kept.{with_step_slot, AreSteps}
use Rattle.wish_sets.specs.Order.{is_wish, wish_cmp, wish_total}
use Rattle.wish_sets.specs.Slots.{requests_in, refusals_in, new_slot}
use Rattle.wish_sets.specs.Wanted.{Wanted}
use Rattle.wish_sets.proofs.WishLaws.{equal_is, is_itself}

-- Two slots -----------------------------------------------------------------------------------------------------------

rising : (a b : Wish) → is_wish b a ≡ false → is_lt (wish_cmp b a) ≡ false → wish_cmp a b ≡ Less
rising a b e f = by (wish_cmp b a) (wish_total.antisymm a b) e f
  where
    by : (o : Ordering) → wish_cmp a b ≡ ordering_reverse o → is_eq o ≡ false → is_lt o ≡ false → wish_cmp a b ≡ Less
    by Less g e f = absurd (cc)
    by Equal g e f = absurd (cc)
    by Greater g e f = g

falling : (a b : Wish) → is_lt (wish_cmp b a) ≡ true → wish_cmp b a ≡ Less
falling a b e = by (wish_cmp b a) e
  where
    by : (o : Ordering) → is_lt o ≡ true → o ≡ Less
    by Less e = refl
    by Equal e = absurd (cc)
    by Greater e = absurd (cc)

differs_back : (a b : Wish) → is_wish a b ≡ false → is_wish b a ≡ false
differs_back a b e = by (is_wish b a) refl
  where
    by : (c : Bool) → is_wish b a ≡ c → c ≡ false
    by false f = refl
    by true f =
        absurd (let g : is_wish a a ≡ false = subst (λ w. is_wish a w ≡ false) (equal_is b a f) e in
        let h = is_itself a in cc)

-- a slot of another step, and one that is kept, in either order
abbrev IsPair : Slot → Slot → List Slot → Type 0
IsPair one kept slots =
    ((slots ≡ one ∷ kept ∷ []) × (wish_cmp one.wish kept.wish ≡ Less))
    ⊎ ((slots ≡ kept ∷ one ∷ []) × (wish_cmp kept.wish one.wish ≡ Less))

-- in the order in which they come
pair_first : (one kept : Slot) → is_wish kept.wish one.wish ≡ false → IsPair one kept (two_slots one kept)
pair_first one kept e = by (is_lt (wish_cmp kept.wish one.wish)) refl
  where
    by : (b : Bool) → is_lt (wish_cmp kept.wish one.wish) ≡ b
        → IsPair one kept (cond b (kept ∷ one ∷ []) (one ∷ kept ∷ []))
    by true f = inr (refl, falling one.wish kept.wish f)
    by false f = inl (refl, rising one.wish kept.wish e f)

pair_last : (one kept : Slot) → is_wish kept.wish one.wish ≡ false → IsPair one kept (two_slots kept one)
pair_last one kept e = by (is_lt (wish_cmp one.wish kept.wish)) refl
  where
    by : (b : Bool) → is_lt (wish_cmp one.wish kept.wish) ≡ b
        → IsPair one kept (cond b (one ∷ kept ∷ []) (kept ∷ one ∷ []))
    by true f = inl (refl, falling kept.wish one.wish f)
    by false f = inr (refl, rising kept.wish one.wish (differs_back kept.wish one.wish e) f)

-- A step has a slot ---------------------------------------------------------------------------------------------------

-- one of two slots is that of the step
abbrev pub HasSlot : Option StepWish → Slot → Slot → Type 0
HasSlot None x y = Unit {0}
HasSlot (Some step) x y = (is_of_step (Some step) x || is_of_step (Some step) y) ≡ true

-- two slots of steps in place of two others: what is installed stays, and of what was refused what passes a test
pub record ArePlaced (step : Option StepWish) (test : Wish → Bool) (a b : Slot) (slots : List Slot) : Type 0 where
  pub x : Slot
  pub y : Slot
  pub these : slots ≡ x ∷ y ∷ []
  pub first : StepWish
  pub second : StepWish
  pub first_is : x.wish ≡ step_wish first
  pub second_is : y.wish ≡ step_wish second
  pub rises : wish_cmp x.wish y.wish ≡ Less
  pub first_sound : is_sound x ≡ true
  pub second_sound : is_sound y ≡ true
  pub once : (is_some x.request && is_some y.request) ≡ false
  pub has : HasSlot step x y
  pub requests : requests_in (x ∷ y ∷ []) ≡ requests_in (a ∷ b ∷ [])
  pub refusals : filter test (refusals_in (x ∷ y ∷ [])) ≡ filter test (refusals_in (a ∷ b ∷ []))

or-true : (b : Bool) → (b || true) ≡ true
or-true true = refl
or-true false = refl

or-first : (b : Bool) → (true || b) ≡ true
or-first b = refl

and-false : (b : Bool) → (b && false) ≡ false
and-false true = refl
and-false false = refl

abbrev pub pair_of : Option StepWish → Slot → Slot → List Slot
pair_of None a b = a ∷ b ∷ []
pair_of (Some step) a b = with_step_slot step a b

module _ (wanted : Wanted) (a b : Slot) (steps : AreSteps wanted a b) (rises : wish_cmp a.wish b.wish ≡ Less)
    (first_sound : is_sound a ≡ true) (second_sound : is_sound b ≡ true) (test : Wish → Bool) where
  as_they_are : (step : Option StepWish) → HasSlot step a b → ArePlaced step test a b (a ∷ b ∷ [])
  as_they_are step has = record {
    x = a;
    y = b;
    these = refl;
    first = steps.first;
    second = steps.second;
    first_is = steps.first_is;
    second_is = steps.second_is;
    rises = rises;
    first_sound = first_sound;
    second_sound = second_sound;
    once = steps.once;
    has = has;
    requests = refl;
    refusals = refl;
  }

  with_new : (step : StepWish) (kept : Slot) (one : StepWish) → kept.wish ≡ step_wish one → is_sound kept ≡ true
      → requests_in (kept ∷ []) ≡ requests_in (a ∷ b ∷ [])
      → filter test (refusals_in (kept ∷ [])) ≡ filter test (refusals_in (a ∷ b ∷ []))
      → (slots : List Slot) → IsPair (new_slot (step_wish step) false) kept slots
      → ArePlaced (Some step) test a b slots
  with_new step kept one is sound requests refusals slots (inl pair) = record {
    x = new_slot (step_wish step) false;
    y = kept;
    these = pair.0;
    first = step;
    second = one;
    first_is = refl;
    second_is = is;
    rises = pair.1;
    first_sound = refl;
    second_sound = sound;
    once = refl;
    has = rw (is_itself (step_wish step)) refl;
    requests = requests;
    refusals = refusals;
  }
  with_new step kept one is sound requests refusals slots (inr pair) = record {
    x = kept;
    y = new_slot (step_wish step) false;
    these = pair.0;
    first = one;
    second = step;
    first_is = is;
    second_is = refl;
    rises = pair.1;
    first_sound = sound;
    second_sound = refl;
    once = and-false (is_some kept.request);
    has = rw (is_itself (step_wish step)) (or-true (is_wish kept.wish (step_wish step)));
    requests = requests;
    refusals = refusals;
  }

  second_alone : is_some b.request ≡ true → requests_in (b ∷ []) ≡ requests_in (a ∷ b ∷ [])
  second_alone e = by a.request (subst (λ s. (is_some a.request && s) ≡ false) e steps.once)
    where
      by : (o : Option ℕ) → (is_some o && true) ≡ false
          → requests_in (b ∷ []) ≡ requests_in (record a { request = o } ∷ b ∷ [])
      by None e = refl
      by (Some request) e = absurd (cc)

  first_alone : is_some b.request ≡ false → requests_in (a ∷ []) ≡ requests_in (a ∷ b ∷ [])
  first_alone e = by b.request e
    where
      by : (o : Option ℕ) → is_some o ≡ false → requests_in (a ∷ []) ≡ requests_in (a ∷ record b { request = o } ∷ [])
      by None e = refl
      by (Some request) e = absurd (cc)

  second_refused : test a.wish ≡ false → filter test (refusals_in (b ∷ [])) ≡ filter test (refusals_in (a ∷ b ∷ []))
  second_refused e = by a.refused
    where
      by : (c : Bool)
          → filter test (refusals_in (b ∷ [])) ≡ filter test (refusals_in (record a { refused = c } ∷ b ∷ []))
      by false = refl
      by true = rw e refl

  first_refused : test b.wish ≡ false → filter test (refusals_in (a ∷ [])) ≡ filter test (refusals_in (a ∷ b ∷ []))
  first_refused e = by a.refused b.refused
    where
      by : (c d : Bool) → filter test (refusals_in (record a { refused = c } ∷ []))
          ≡ filter test (refusals_in (record a { refused = c } ∷ record b { refused = d } ∷ []))
      by false false = refl
      by true false = refl
      by false true = rw e refl
      by true true = rw e refl

  pub placed : (step : Option StepWish)
      → ((slot : Slot) (one : StepWish) → slot.wish ≡ step_wish one → test slot.wish ≡ is_of_step step slot)
      → ArePlaced step test a b (pair_of step a b)
  placed None tells = as_they_are None tt
  placed (Some step) tells =
      by (is_of_step (Some step) a) refl (is_of_step (Some step) b) refl (is_some b.request) refl
    where
      one : Slot
      one = new_slot (step_wish step) false

      by : (c : Bool) → is_of_step (Some step) a ≡ c → (d : Bool) → is_of_step (Some step) b ≡ d
          → (s : Bool) → is_some b.request ≡ s
          → ArePlaced (Some step) test a b
          (cond (not c && not d) (ordered (cond s (new_slot (step_wish step) false ∷ b ∷ []) (a ∷ new_slot (step_wish
          step) false ∷ [])))
          (a ∷ b ∷ []))
      by true e d f s g = as_they_are (Some step) (rw e refl)
      by false e true f s g = as_they_are (Some step) (rw (e, f) refl)
      by false e false f true g =
          with_new step b steps.second steps.second_is second_sound (second_alone g)
          (second_refused (tells a steps.first steps.first_is ∙ e)) _
          (pair_first (new_slot (step_wish step) false) b f)
      by false e false f false g =
          with_new step a steps.first steps.first_is first_sound (first_alone g)
          (first_refused (tells b steps.second steps.second_is ∙ f)) _
          (pair_last (new_slot (step_wish step) false) a e)
