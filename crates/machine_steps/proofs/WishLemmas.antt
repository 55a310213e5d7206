-- Event requests as lists: what a reply to the change that is due makes of them.
use Rattle.std.proofs.Common.{◌≡◌, ℕ, Bool, true, false, cond, not, List, [], ◌∷◌, Option, Some, None, refl, sym, ap}
use Rattle.std.proofs.Common.{◌∙◌, option_map, subst, arith}
use Rattle.std.specs.Prelude.{◌||◌, ◌&&◌, ◌==◌, filter, find}
use Rattle.std.specs.BTreeSet.{insert_key}
use Rattle.std.specs.List.{list_any, AllByRecursion}
use Rattle.std.specs.List.Sorted.{IsStrictlySortedBy}
use Rattle.std.specs.Ordering.{is_eq, match_ordering, on, ordering_reverse}
use Rattle.std.specs.declared.cmp.Ordering.{Ordering}
use Rattle.std.specs.declared.cmp.Ordering.TheVariants.{Less, Equal, Greater}
use Rattle.machine_model.specs.EventRequests.{is_request}
use Rattle.machine_model.specs.Requests.{Wishes, effect_due, effect_of}
use Rattle.machine_steps.specs.Names.{Clear, Set}
use Rattle.wish_sets.proofs.NextLaws.{new_set}
use Rattle.wish_sets.proofs.WishLaws.{filter-same, is_itself}
use Rattle.wish_sets.specs.Order.{is_wish, wish_cmp, wish_total}
use Rattle.wish_sets.specs.Tidy.{IsNewSet}
use Rattle.wish_sets.specs.Wishes.{EventRequest, WishChange, clears, is_installed, next_change, sets, with_request}
use Rattle.wish_sets.specs.declared.wish.Wish.{Wish}

-- The effect that is due ----------------------------------------------------------------------------------------------

pub due_set : (w : Wishes) (wish : Wish) → effect_due w ≡ Some (Set wish) → next_change w ≡ Some (sets wish)
due_set w wish is = by_change (next_change w) is
  where
    by_change : (change : Option WishChange) → option_map effect_of change ≡ Some (Set wish) → change ≡ Some (sets wish)
    by_change change is = grind (arith, is)

pub due_clear : (w : Wishes) (wish : Wish) (request : ℕ) → effect_due w ≡ Some (Clear wish request)
    → next_change w ≡ Some (clears (record { wish = wish; request = request }))
due_clear w wish request is = by_change (next_change w) is
  where
    by_change : (change : Option WishChange) → option_map effect_of change ≡ Some (Clear wish request)
        → change ≡ Some (clears (record { wish = wish; request = request }))
    by_change (Some (clears one)) is =
        let a : one.wish ≡ wish = cc in let b : one.request ≡ request = cc in
        ap (λ (wish : Wish). Some (clears (record { wish = wish; request = one.request }))) a
        ∙ ap (λ (request : ℕ). Some (clears (record { wish = wish; request = request }))) b
    by_change _ is = cc

pub new_set_due : (w : Wishes) (wish : Wish) → effect_due w ≡ Some (Set wish) → IsNewSet w wish
new_set_due w wish is = new_set w wish (due_set w wish is)

-- Lists ---------------------------------------------------------------------------------------------------------------

module _ {A : Type 0} (test : A → Bool) where
  -- what passes among those that are kept
  pub any_kept : (keep : A → Bool) (xs : List A)
      → list_any test (filter keep xs) ≡ list_any (λ x. keep x && test x) xs
  any_kept keep [] = refl
  any_kept keep (x ∷ xs) = by_test (keep x) (any_kept keep xs)
    where
      by_test : (b : Bool) → list_any test (filter keep xs) ≡ list_any (λ x. keep x && test x) xs
          → list_any test (cond b (x ∷ filter keep xs) (filter keep xs))
          ≡ ((b && test x) || list_any (λ x. keep x && test x) xs)
      by_test true again = ap (λ (b : Bool). test x || b) again
      by_test false again = again

  -- where none passes none is left
  pub none_left : (xs : List A) → list_any test xs ≡ false → filter test xs ≡ []
  none_left [] none = refl
  none_left (x ∷ xs) none = by_test (test x) none (none_left xs)
    where
      by_test : (b : Bool) → (b || list_any test xs) ≡ false → (list_any test xs ≡ false → filter test xs ≡ [])
          → cond b (x ∷ filter test xs) (filter test xs) ≡ []
      by_test true none again = cc
      by_test false none again = again none

  -- each that passes is kept
  pub left_same : (keep : A → Bool) → ((x : A) → test x ≡ true → keep x ≡ true) → (xs : List A)
      → filter test (filter keep xs) ≡ filter test xs
  left_same keep kept [] = refl
  left_same keep kept (x ∷ xs) = by_test (keep x) refl (test x) refl (left_same keep kept xs)
    where
      by_test : (k : Bool) → keep x ≡ k → (t : Bool) → test x ≡ t
          → filter test (filter keep xs) ≡ filter test xs
          → filter test (cond k (x ∷ filter keep xs) (filter keep xs)) ≡ cond t (x ∷ filter test xs) (filter test xs)
      by_test true e true f again = rw f (ap (λ (l : List A). x ∷ l) again)
      by_test true e false f again = rw f again
      by_test false e true f again = absurd (let h = kept x f in cc)
      by_test false e false f again = again

  -- what is inserted among those that don't pass is the one that does
  pub left_inserted : (cmp : A → A → Ordering) → ((a b : A) → cmp a b ≡ Equal → test a ≡ test b) → (k : A) (xs : List A)
      → test k ≡ true → filter test xs ≡ [] → filter test (insert_key cmp xs k) ≡ k ∷ []
  left_inserted cmp alike k [] is none = rw is refl
  left_inserted cmp alike k (x ∷ xs) is none = by_test (test x) refl none (left_inserted cmp alike k xs is)
    where
      by_order : (o : Ordering) → cmp k x ≡ o → test x ≡ false → filter test xs ≡ []
          → filter test (insert_key cmp xs k) ≡ k ∷ []
          → filter test (match_ordering o (k ∷ x ∷ xs) (x ∷ xs) (x ∷ insert_key cmp xs k)) ≡ k ∷ []
      by_order Less e f none again = rw (is, f) (ap (λ (l : List A). k ∷ l) none)
      by_order Equal e f none again = absurd (let h = alike k x e in cc)
      by_order Greater e f none again = rw f again

      by_test : (b : Bool) → test x ≡ b → cond b (x ∷ filter test xs) (filter test xs) ≡ []
          → (filter test xs ≡ [] → filter test (insert_key cmp xs k) ≡ k ∷ [])
          → filter test (insert_key cmp (x ∷ xs) k) ≡ k ∷ []
      by_test true e none again = cc
      by_test false e none again = by_order (cmp k x) refl e none (again none)

-- one more is installed: what passes
pub any_with : (test : EventRequest → Bool) (r : EventRequest) (installed : List EventRequest)
    → is_installed installed r.wish ≡ false → list_any test (with_request r installed)
    ≡ (test r || list_any test installed)
any_with test r [] none = refl
any_with test r (x ∷ xs) none = by_order (wish_cmp r.wish x.wish) refl none (any_with test r xs)
  where
    swap : (a b c d : Bool) → d ≡ (a || c) → (b || d) ≡ (a || (b || c))
    swap true true c d e = refl
    swap true false c d e = e
    swap false b c d e = ap (λ v. b || v) e

    behind : (a b : Bool) → (a || b) ≡ false → b ≡ false
    behind true b e = absurd (cc)
    behind false b e = e

    by_order : (o : Ordering) → wish_cmp r.wish x.wish ≡ o
        → (is_wish r.wish x.wish || is_installed xs r.wish) ≡ false
        → (is_installed xs r.wish ≡ false → list_any test (with_request r xs) ≡ (test r || list_any test xs))
        → list_any test (match_ordering o (r ∷ x ∷ xs) (x ∷ xs) (x ∷ with_request r xs))
        ≡ (test r || (test x || list_any test xs))
    by_order Less e none again = refl
    by_order Equal e none again = absurd (let h = ap is_eq e in cc)
    by_order Greater e none again =
        swap (test r) (test x) (list_any test xs) (list_any test (with_request r xs))
        (again (behind (is_wish r.wish x.wish) (is_installed xs r.wish) none))

-- Cleared -------------------------------------------------------------------------------------------------------------

-- what all pass the one that is found passes
all_found : (P : EventRequest → Type 0) (p : EventRequest → Bool) (r : EventRequest) (xs : List EventRequest)
    → AllByRecursion P xs → find p xs ≡ Some r → P r
all_found P p r [] all is = absurd (cc)
all_found P p r (x ∷ xs) all is = by_test (p x) is (all_found P p r xs all.1)
  where
    by_test : (b : Bool) → cond b (Some x) (find p xs) ≡ Some r → (find p xs ≡ Some r → P r) → P r
    by_test true is again = let same : x ≡ r = cc in subst P same all.0
    by_test false is again = again is

-- those behind a request are of other wishes
others : (r : EventRequest) (ys : List EventRequest) → AllByRecursion (λ y. wish_cmp r.wish y.wish ≡ Less) ys
    → AllByRecursion (λ y. not (is_request r.wish r.request y) ≡ not (is_wish r.wish y.wish)) ys
others r [] all = tt
others r (y ∷ ys) all = (
  ap (λ (o : Ordering). not (is_eq o && (y.request == r.request))) all.0
      ∙ sym (ap (λ (o : Ordering). not (is_eq o)) all.0),
  others r ys all.1,
)

-- a wish has one request: to clear it by its id is to clear the wish
pub cleared_once : (p : EventRequest → Bool) (r : EventRequest) (installed : List EventRequest)
    → IsStrictlySortedBy (on (λ other. other.wish) wish_cmp) installed → find p installed ≡ Some r
    → filter (λ one. not (is_request r.wish r.request one)) installed
    ≡ filter (λ one. not (is_wish r.wish one.wish)) installed
unfolding IsStrictlySortedBy
cleared_once p r [] sorted is = refl
cleared_once p r (x ∷ xs) sorted is = by_test (p x) is (cleared_once p r xs sorted.1)
  where
    step : (a b : Bool) (l k : List EventRequest) → a ≡ b → l ≡ k → cond a (x ∷ l) l ≡ cond b (x ∷ k) k
    step a b l k e f = ap (λ (a : Bool). cond a (x ∷ l) l) e ∙ ap (λ (l : List EventRequest). cond b (x ∷ l) l) f

    by_test : (b : Bool) → cond b (Some x) (find p xs) ≡ Some r
        → (find p xs ≡ Some r → filter (λ one. not (is_request r.wish r.request one)) xs
        ≡ filter (λ one. not (is_wish r.wish one.wish)) xs)
        → filter (λ one. not (is_request r.wish r.request one)) (x ∷ xs)
        ≡ filter (λ one. not (is_wish r.wish one.wish)) (x ∷ xs)
    by_test true is again =
        let same : x ≡ r = cc in
        step (not (is_request r.wish r.request x)) (not (is_wish r.wish x.wish)) _ _
        (subst (λ (x : EventRequest). not (is_request r.wish r.request x) ≡ not (is_wish r.wish x.wish)) (sym same)
        (rw (is_itself r.wish) (grind arith)))
        (filter-same (λ one. not (is_request r.wish r.request one)) (λ one. not (is_wish r.wish one.wish)) xs
        (others r xs (subst (λ (x : EventRequest). AllByRecursion (λ y. wish_cmp x.wish y.wish
        ≡ Less) xs) same sorted.0)))
    by_test false is again =
        let less : wish_cmp x.wish r.wish ≡ Less =
        all_found (λ y. wish_cmp x.wish y.wish ≡ Less) p r xs sorted.0 is in
        let more : is_wish r.wish x.wish ≡ false =
        ap is_eq (wish_total.antisymm r.wish x.wish ∙ ap ordering_reverse less) in
        step (not (is_request r.wish r.request x)) (not (is_wish r.wish x.wish)) _ _ (rw more refl) (again is)

-- where no effect is due no change is left
pub none_due_change : (w : Wishes) → effect_due w ≡ None → next_change w ≡ None
none_due_change w is = by_change (next_change w) is
  where
    by_change : (change : Option WishChange) → option_map effect_of change ≡ None → change ≡ None
    by_change change is = grind (arith, is)
