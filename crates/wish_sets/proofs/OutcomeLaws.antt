-- What comes of a change: one slot is marked, and what stands is what the outcome leads to.
use Rattle.std.proofs.Common.{◌≡◌, ℕ, Bool, true, false, not, List, [], ◌∷◌, refl, ap, sym, subst, ◌∙◌, cond}
use Rattle.std.proofs.Common.{Option, Some, None}
use Rattle.std.specs.Prelude.{◌||◌, ◌&&◌, filter, find, filter_map, is_some}
use Rattle.std.specs.BTreeSet.{insert_key}
use Rattle.std.specs.List.{AllByRecursion, cons_option}
use Rattle.std.specs.List.Sorted.{IsStrictlySortedBy}
use Rattle.std.specs.Ordering.{is_eq, ordering_reverse}
use Rattle.std.specs.declared.cmp.Ordering.{Ordering}
use Rattle.std.specs.declared.cmp.Ordering.TheVariants.{Less, Greater}
use Rattle.wish_sets.specs.declared.change.Settled.TheVariants as outcomes
use Rattle.wish_sets.specs.declared.slot.Slot.{Slot}
use Rattle.wish_sets.specs.declared.wish.Wish.{Wish}
use Rattle.wish_sets.specs.Order.{is_wish, wish_cmp, wish_total}
use Rattle.wish_sets.specs.Slots.{wishes_in, requests_in, is_late, is_unset, marked}
use Rattle.wish_sets.specs.Slots.{with_first}
use Rattle.wish_sets.specs.Wishes.{EventRequest}
use Rattle.wish_sets.proofs.WishLaws.{is_itself}
use Rattle.wish_sets.proofs.SlotLaws.{Tells, TellsUnset, wishes_of}

-- what stands behind a wish is another one
abbrev Behind : Wish → Wish → Type 0
Behind wish other = wish_cmp wish other ≡ Less

differs : (a b : Wish) → Behind a b → is_wish a b ≡ false
differs a b e = ap is_eq e

back : (a b : Wish) → Behind a b → wish_cmp b a ≡ Greater
back a b e = wish_total.antisymm b a ∙ ap ordering_reverse e

differs_back : (a b : Wish) → Behind a b → is_wish b a ≡ false
differs_back a b e = ap is_eq (back a b e)

-- requests of slots behind a wish are behind it
requests_behind : (wish : Wish) (slots : List Slot) → AllByRecursion (Behind wish) (wishes_of slots)
    → AllByRecursion (λ r. Behind wish r.wish) (requests_in slots)
requests_behind wish [] all = tt
requests_behind wish (slot ∷ slots) all = by slot.request (requests_behind wish slots all.1)
  where
    by : (o : Option ℕ) → AllByRecursion (λ r. Behind wish r.wish) (requests_in slots)
        → AllByRecursion (λ r. Behind wish r.wish) (requests_in (record slot { request = o } ∷ slots))
    by None rest = rest
    by (Some request) rest = (all.0, rest)

-- what is found has what all have
found-has : {A : Type 0} (P : A → Type 0) (test : A → Bool) (xs : List A) (x : A) → AllByRecursion P xs
    → find test xs ≡ Some x → P x
found-has P test [] x all e = absurd (cc)
found-has P test (y ∷ ys) x all e = by (test y) e (found-has P test ys x all.1)
  where
    by : (b : Bool) → cond b (Some y) (find test ys) ≡ Some x → (find test ys ≡ Some x → P x) → P x
    by true e again = let same : y ≡ x = cc in subst P same all.0
    by false e again = again e

-- Cleared -------------------------------------------------------------------------------------------------------------

none_left_out : (wish : Wish) (rs : List EventRequest) → AllByRecursion (λ r. Behind wish r.wish) rs
    → filter (λ r. not (is_wish wish r.wish)) rs ≡ rs
none_left_out wish [] all = refl
none_left_out wish (r ∷ rs) all = rw (differs wish r.wish all.0) (ap (λ ts. r ∷ ts) (none_left_out wish rs all.1))

module _ (is_in : Wish → Bool) where
  abbrev surplus : EventRequest → Bool
  surplus r = not (is_in r.wish)

  pub cleared_first : (slots : List Slot) (r : EventRequest) → IsStrictlySortedBy wish_cmp (wishes_of slots)
      → AllByRecursion (Tells is_in) slots → find surplus (requests_in slots) ≡ Some r
      → filter (λ other. not (is_wish r.wish other.wish)) (requests_in slots)
      ≡ requests_in (with_first is_late (marked outcomes.Cleared) slots)
  unfolding IsStrictlySortedBy
  cleared_first [] r sorted all e = refl
  cleared_first (slot ∷ slots) r sorted all e =
      by slot.request slot.wished all.0 e (cleared_first slots r sorted.1 all.1)
    where
      behind : AllByRecursion (λ other. Behind slot.wish other.wish) (requests_in slots)
      behind = requests_behind slot.wish slots sorted.0

      by : (o : Option ℕ) (b : Bool) → is_in slot.wish ≡ b
          → find surplus (requests_in (record slot { request = o } ∷ slots)) ≡ Some r
          → (find surplus (requests_in slots) ≡ Some r
          → filter (λ other. not (is_wish r.wish other.wish)) (requests_in slots)
          ≡ requests_in (with_first is_late (marked outcomes.Cleared) slots))
          → filter (λ other. not (is_wish r.wish other.wish)) (requests_in (record slot { request = o } ∷ slots))
          ≡ requests_in (with_first is_late (marked outcomes.Cleared) (record slot { request = o; wished = b } ∷ slots))
      by None b f e again = again e
      by (Some request) true f e again =
          let found : find surplus (requests_in slots) ≡ Some r = rw f at e in
          let other : Behind slot.wish r.wish = found-has (λ other. Behind slot.wish other.wish) surplus
          (requests_in slots) r behind found in
          rw (differs_back slot.wish r.wish other)
          (ap (λ rs. record { wish = slot.wish; request = request } ∷ rs) (again found))
      by (Some request) false f e again =
          let first : Some (record { wish = slot.wish; request = request }) ≡ Some r = rw f at e in
          let same : record { wish = slot.wish; request = request } ≡ r = cc in
          subst (λ (one : EventRequest). filter (λ other. not (is_wish one.wish other.wish))
          (record { wish = slot.wish; request = request } ∷ requests_in slots) ≡ requests_in slots) same
          (rw (is_itself slot.wish) (none_left_out slot.wish (requests_in slots) behind))

-- Installed and refused -----------------------------------------------------------------------------------------------

-- what is listed of slots under their wishes
module _ {K : Type 0} (wish_in : K → Wish) (pick : Slot → Option K) (change : Slot → Slot) (one : K)
    (is_out : Wish → Bool)
    (own : (slot : Slot) (k : K) → pick slot ≡ Some k → wish_in k ≡ slot.wish)
    (unpicked : (slot : Slot) → is_unset slot ≡ true → pick slot ≡ None)
    (picked : (slot : Slot) → slot.wish ≡ wish_in one → pick (change slot) ≡ Some one) where
  abbrev in_wish_order : K → K → Ordering
  in_wish_order a b = wish_cmp (wish_in a) (wish_in b)

  picks_behind : (wish : Wish) (slots : List Slot) → AllByRecursion (Behind wish) (wishes_of slots)
      → AllByRecursion (λ k. Behind wish (wish_in k)) (filter_map pick slots)
  picks_behind wish [] all = tt
  picks_behind wish (slot ∷ slots) all = by (pick slot) refl (picks_behind wish slots all.1)
    where
      by : (o : Option K) → pick slot ≡ o → AllByRecursion (λ k. Behind wish (wish_in k)) (filter_map pick slots)
          → AllByRecursion (λ k. Behind wish (wish_in k)) (cons_option o (filter_map pick slots))
      by None e rest = rest
      by (Some k) e rest = (subst (Behind wish) (sym (own slot k e)) all.0, rest)

  inserted_first : (ks : List K) → AllByRecursion (λ k. Behind (wish_in one) (wish_in k)) ks
      → insert_key in_wish_order ks one ≡ one ∷ ks
  inserted_first [] all = refl
  inserted_first (k ∷ ks) all = rw all.0 refl

  wishes_behind : (wish : Wish) (slots : List Slot) → AllByRecursion (Behind wish) (wishes_of slots)
      → AllByRecursion (Behind wish) (wishes_in slots)
  wishes_behind wish [] all = tt
  wishes_behind wish (slot ∷ slots) all = by slot.wished (wishes_behind wish slots all.1)
    where
      by : (b : Bool) → AllByRecursion (Behind wish) (wishes_in slots)
          → AllByRecursion (Behind wish) (wishes_in (record slot { wished = b } ∷ slots))
      by true rest = (all.0, rest)
      by false rest = rest

  set-by : (a b : Bool) → (not a && not b) ≡ not (a || b)
  set-by true b = refl
  set-by false b = refl

  pub set_first : (slots : List Slot) → IsStrictlySortedBy wish_cmp (wishes_of slots)
      → AllByRecursion (TellsUnset is_out) slots → find is_out (wishes_in slots) ≡ Some (wish_in one)
      → insert_key in_wish_order (filter_map pick slots) one ≡ filter_map pick (with_first is_unset change slots)
  unfolding IsStrictlySortedBy
  set_first [] sorted all e = absurd (cc)
  set_first (slot ∷ slots) sorted all e =
      by (is_unset slot) refl slot.wished refl (is_out slot.wish) refl e (set_first slots sorted.1 all.1)
    where
      tells : (b : Bool) → is_out slot.wish ≡ b → (not (is_some slot.request) && not slot.refused) ≡ b
      tells b f = set-by (is_some slot.request) slot.refused ∙ (sym all.0 ∙ f)

      later : (b c : Bool) → slot.wished ≡ b → is_out slot.wish ≡ c → (b && c) ≡ false
          → cond b (cond c (Some slot.wish) (find is_out (wishes_in slots))) (find is_out (wishes_in slots))
          ≡ Some (wish_in one) → find is_out (wishes_in slots) ≡ Some (wish_in one)
      later true true f g h e = absurd (cc)
      later true false f g h e = e
      later false c f g h e = e

      insert : (o : Option K) → pick slot ≡ o → Behind slot.wish (wish_in one)
          → insert_key in_wish_order (filter_map pick slots) one ≡ filter_map pick (with_first is_unset change slots)
          → insert_key in_wish_order (cons_option o (filter_map pick slots)) one
          ≡ cons_option o (filter_map pick (with_first is_unset change slots))
      insert None f other again = again
      insert (Some k) f other again =
          rw (own slot k f, back slot.wish (wish_in one) other) (ap (λ ks. k ∷ ks) again)

      here : slot.wish ≡ wish_in one → pick slot ≡ None
          → insert_key in_wish_order (cons_option (pick slot) (filter_map pick slots)) one
          ≡ cons_option (pick (change slot)) (filter_map pick slots)
      here same none =
          rw (none, picked slot same) (inserted_first (filter_map pick slots)
          (subst (λ w. AllByRecursion (λ k. Behind w (wish_in k)) (filter_map pick slots)) same
          (picks_behind slot.wish slots sorted.0)))

      by : (t : Bool) → is_unset slot ≡ t → (b : Bool) → slot.wished ≡ b → (c : Bool) → is_out slot.wish ≡ c
          → find is_out (wishes_in (slot ∷ slots)) ≡ Some (wish_in one)
          → (find is_out (wishes_in slots) ≡ Some (wish_in one)
          → insert_key in_wish_order (filter_map pick slots) one ≡ filter_map pick (with_first is_unset change slots))
          → insert_key in_wish_order (filter_map pick (slot ∷ slots)) one
          ≡ filter_map pick (cond t (change slot ∷ slots) (slot ∷ with_first is_unset change slots))
      by true h true f true g e again =
          let first : Some slot.wish ≡ Some (wish_in one) = rw (f, g) at e in
          let same : slot.wish ≡ wish_in one = cc in
          here same (unpicked slot h)
      by true h true f false g e again =
          let k = tells false g in absurd (let m : (true && false) ≡ true = rw (f, k) at h in cc)
      by true h false f c g e again = absurd (let m : (false && (not (is_some slot.request) && not slot.refused))
          ≡ true = rw f at h in cc)
      by false h true f true g e again =
          let k = tells true g in absurd (let m : (true && true) ≡ false = rw (f, k) at h in cc)
      by false h true f false g e again =
          let found : find is_out (wishes_in slots) ≡ Some (wish_in one) = rw (f, g) at e in
          insert (pick slot) refl (found-has (Behind slot.wish) is_out (wishes_in slots) (wish_in one)
          (wishes_behind slot.wish slots sorted.0) found) (again found)
      by false h false f c g e again =
          let found : find is_out (wishes_in slots) ≡ Some (wish_in one) = rw f at e in
          insert (pick slot) refl (found-has (Behind slot.wish) is_out (wishes_in slots) (wish_in one)
          (wishes_behind slot.wish slots sorted.0) found) (again found)
