-- What is wished and what stands: each wish once, what a change of what is wanted leaves, and the next change.
use Rattle.std.proofs.Common.{◌≡◌, suc, Bool, true, false, not, List, [], ◌∷◌, refl, ap, sym, ◌∙◌, cond}
use Rattle.std.proofs.Common.{Some, None, length}
use Rattle.std.specs.Prelude.{◌||◌, ◌&&◌, filter, find}
use Rattle.std.specs.BTreeSet.{insert_key}
use Rattle.std.specs.Cmp.{IsTotalOrder}
use Rattle.std.specs.List.{list_any, AllByRecursion}
use Rattle.std.specs.List.Sorted.{IsStrictlySortedBy}
use Rattle.std.specs.Ordering.{is_eq, on, match_ordering, ordering_reverse}
use Rattle.std.specs.declared.cmp.Ordering.{Ordering}
use Rattle.std.specs.declared.cmp.Ordering.TheVariants.{Less, Equal, Greater}
use Rattle.std.proofs.lemmas.Cmp.{on_total, tied_itself}
use Rattle.wish_sets.specs.declared.wish.Wish.{Wish}
use Rattle.wish_sets.specs.Order.{has_wish, is_wish, wish_cmp, wish_total}
use Rattle.wish_sets.specs.Wanted.{Wanted}
use Rattle.wish_sets.specs.Wished.{wished, all_wished}
use Rattle.wish_sets.specs.Wishes.{EventRequest}
use Rattle.wish_sets.proofs.OrderLaws.{one_wish, any-fold, sorted-fold}

-- Wishes that are one -------------------------------------------------------------------------------------------------

pub equal_is : (a b : Wish) → is_wish a b ≡ true → a ≡ b
equal_is a b e = one_wish a b (by (wish_cmp a b) e)
  where
    by : (o : Ordering) → is_eq o ≡ true → o ≡ Equal
    by Less e = absurd (cc)
    by Equal e = refl
    by Greater e = absurd (cc)

pub is_itself : (a : Wish) → is_wish a a ≡ true
is_itself a = ap is_eq (tied_itself wish_total a)

pub alike : (wish a b : Wish) → wish_cmp a b ≡ Equal → is_wish wish a ≡ is_wish wish b
alike wish a b e = ap (is_wish wish) (one_wish a b e)

pub alike_requests : (wish : Wish) (a b : EventRequest) → on (λ (r : EventRequest). r.wish) wish_cmp a b ≡ Equal
    → is_wish wish a.wish ≡ is_wish wish b.wish
alike_requests wish a b e = ap (is_wish wish) (one_wish a.wish b.wish e)

pub request_total : IsTotalOrder (on (λ (r : EventRequest). r.wish) wish_cmp)
request_total = on_total (λ (r : EventRequest). r.wish) wish_total

-- What is wished ------------------------------------------------------------------------------------------------------

-- in wish order, each once
pub wished_in_order : (wanted : Wanted) → IsStrictlySortedBy wish_cmp (wished wanted)
unfolding wished IsStrictlySortedBy
wished_in_order wanted = sorted-fold wish_total [] (all_wished wanted) tt

-- a wish is among the wished where it is among all that is wished
pub wished_has : (wanted : Wanted) (wish : Wish) → has_wish (wished wanted) wish ≡ has_wish (all_wished wanted) wish
unfolding wished
wished_has wanted wish = any-fold wish_cmp (is_wish wish) (alike wish) [] (all_wished wanted)

-- Lists of wishes -----------------------------------------------------------------------------------------------------

-- those that pass a test: what is among them
pub has-filter : (test : Wish → Bool) (wish : Wish) (those : List Wish)
    → has_wish (filter test those) wish ≡ (test wish && has_wish those wish)
has-filter test wish [] = by (test wish)
  where
    by : (b : Bool) → false ≡ (b && false)
    by true = refl
    by false = refl
has-filter test wish (x ∷ those) = by (test x) refl (is_wish wish x) refl (test wish) refl (has-filter test wish those)
  where
    by : (b : Bool) → test x ≡ b → (c : Bool) → is_wish wish x ≡ c → (d : Bool) → test wish ≡ d
        → has_wish (filter test those) wish ≡ (test wish && has_wish those wish)
        → has_wish (cond b (x ∷ filter test those) (filter test those)) wish ≡ (test wish && (c || has_wish those wish))
    by true e true f true g again = rw f (rw g refl)
    by true e true f false g again = absurd (let h = ap test (equal_is wish x f) in cc)
    by true e false f d g again = rw f again
    by false e true f true g again = absurd (let h = ap test (equal_is wish x f) in cc)
    by false e true f false g again = rw g (again ∙ rw g refl)
    by false e false f d g again = again

-- Searches ------------------------------------------------------------------------------------------------------------

module _ {A : Type 0} (p : A → Bool) where
  -- what is found passes
  pub found-passes : (xs : List A) (x : A) → find p xs ≡ Some x → p x ≡ true
  found-passes [] x e = absurd (cc)
  found-passes (y ∷ ys) x e = by (p y) refl e (found-passes ys x)
    where
      by : (b : Bool) → p y ≡ b → cond b (Some y) (find p ys) ≡ Some x → (find p ys ≡ Some x → p x ≡ true)
          → p x ≡ true
      by true h e again = let same : y ≡ x = cc in sym (ap p same) ∙ h
      by false h e again = again e

  -- what is found is there
  pub found-any : (test : A → Bool) (xs : List A) (x : A) → find p xs ≡ Some x → test x ≡ true → list_any test xs ≡ true
  found-any test [] x e h = absurd (cc)
  found-any test (y ∷ ys) x e h = by (p y) e (λ f. found-any test ys x f h)
    where
      last : (b : Bool) → (b || true) ≡ true
      last true = refl
      last false = refl

      by : (b : Bool) → cond b (Some y) (find p ys) ≡ Some x → (find p ys ≡ Some x → list_any test ys ≡ true)
          → (test y || list_any test ys) ≡ true
      by true e again = let same : y ≡ x = cc in rw same (rw h refl)
      by false e again = ap (λ v. test y || v) (again e) ∙ last (test y)

  -- where nothing is found, none passes
  pub none-any : (xs : List A) → find p xs ≡ None → list_any p xs ≡ false
  none-any [] e = refl
  none-any (y ∷ ys) e = by (p y) e (none-any ys)
    where
      by : (b : Bool) → cond b (Some y) (find p ys) ≡ None → (find p ys ≡ None → list_any p ys ≡ false)
          → (b || list_any p ys) ≡ false
      by true e again = absurd (cc)
      by false e again = again e

  pub any-none : (xs : List A) → list_any p xs ≡ false → find p xs ≡ None
  any-none [] e = refl
  any-none (y ∷ ys) e = by (p y) e (any-none ys)
    where
      by : (b : Bool) → (b || list_any p ys) ≡ false → (list_any p ys ≡ false → find p ys ≡ None)
          → cond b (Some y) (find p ys) ≡ None
      by true e again = absurd (cc)
      by false e again = again e

  -- one that passes another test, where none passes this one
  pub witness : (q : A → Bool) (xs : List A) → list_any p xs ≡ false → list_any q xs ≡ true
      → (x : A) × ((q x ≡ true) × (p x ≡ false))
  witness q [] none some = absurd (cc)
  witness q (y ∷ ys) none some = by (p y) refl (q y) refl none some (witness q ys)
    where
      by : (b : Bool) → p y ≡ b → (c : Bool) → q y ≡ c → (b || list_any p ys) ≡ false → (c || list_any q ys) ≡ true
          → (list_any p ys ≡ false → list_any q ys ≡ true → (x : A) × ((q x ≡ true) × (p x ≡ false)))
          → (x : A) × ((q x ≡ true) × (p x ≡ false))
      by true e c f none some again = absurd (cc)
      by false e true f none some again = (y, (f, e))
      by false e false f none some again = again none some

  -- what is left out is not found
  pub any-filter : (test : A → Bool) (xs : List A) → list_any test xs ≡ false → list_any test (filter p xs) ≡ false
  any-filter test [] e = refl
  any-filter test (y ∷ ys) e = by (p y) (test y) refl e (any-filter test ys)
    where
      by : (b c : Bool) → test y ≡ c → (c || list_any test ys) ≡ false
          → (list_any test ys ≡ false → list_any test (filter p ys) ≡ false)
          → list_any test (cond b (y ∷ filter p ys) (filter p ys)) ≡ false
      by b true h e again = absurd (cc)
      by true false h e again = rw h (again e)
      by false false h e again = again e

  -- one that does not pass, inserted, changes nothing of those that do
  pub filter-insert : (cmp : A → A → Ordering) (k : A) (xs : List A) → p k ≡ false
      → filter p (insert_key cmp xs k) ≡ filter p xs
  filter-insert cmp k [] e = rw e refl
  filter-insert cmp k (x ∷ xs) e = by (cmp k x) (filter-insert cmp k xs e)
    where
      by : (o : Ordering) → filter p (insert_key cmp xs k) ≡ filter p xs
          → filter p (match_ordering o (k ∷ x ∷ xs) (x ∷ xs) (x ∷ insert_key cmp xs k)) ≡ filter p (x ∷ xs)
      by Less again = rw e refl
      by Equal again = refl
      by Greater again = ap (λ (l : List A). cond (p x) (x ∷ l) l) again

-- tests that agree on each leave the same
pub filter-same : {A : Type 0} (p q : A → Bool) (xs : List A) → AllByRecursion (λ x. p x ≡ q x) xs
    → filter p xs ≡ filter q xs
filter-same p q [] all = refl
filter-same {A} p q (x ∷ xs) all =
    ap (λ b. cond b (x ∷ filter p xs) (filter p xs)) all.0
    ∙ ap (λ (l : List A). cond (q x) (x ∷ l) l) (filter-same p q xs all.1)

-- The next change -----------------------------------------------------------------------------------------------------

-- the first that passes is found, and it is alone among those it is like: without it one less passes
pub one-less : (wish : Wish) (p q : Wish → Bool) → ((v : Wish) → q v ≡ (p v && not (is_wish v wish)))
    → (those : List Wish)
    → IsStrictlySortedBy wish_cmp those → find p those ≡ Some wish
    → length (filter p those) ≡ suc (length (filter q those))
unfolding IsStrictlySortedBy
one-less wish p q without [] sorted e = absurd (cc)
one-less wish p q without (x ∷ xs) sorted e = by (p x) refl e (one-less wish p q without xs sorted.1)
  where
    not-first : (y : Wish) → wish_cmp x y ≡ Less → is_wish y x ≡ false
    not-first y less = ap is_eq (wish_total.antisymm y x ∙ ap ordering_reverse less)

    plain : (b : Bool) → (b && not false) ≡ b
    plain true = refl
    plain false = refl

    others : x ≡ wish → (ys : List Wish) → AllByRecursion (λ y. wish_cmp x y ≡ Less) ys
        → AllByRecursion (λ y. p y ≡ q y) ys
    others same [] all = tt
    others same (y ∷ ys) all = (
      sym (without y ∙ (ap (λ v. p y && not (is_wish y v)) (sym same)
          ∙ (ap (λ b. p y && not b) (not-first y all.0) ∙ plain (p y)))),
      others same ys all.1,
    )

    by : (b : Bool) → p x ≡ b → cond b (Some x) (find p xs) ≡ Some wish
        → (find p xs ≡ Some wish → length (filter p xs) ≡ suc (length (filter q xs)))
        → length (filter p (x ∷ xs)) ≡ suc (length (filter q (x ∷ xs)))
    by true h e again =
        let same : x ≡ wish = cc in
        let gone : q x ≡ false =
        without x ∙ (ap (λ v. p x && not (is_wish x v)) (sym same)
        ∙ ap (λ b. p x && not b) (is_itself x) ∙ rw h refl) in
        rw h (rw gone (ap (λ (l : List Wish). suc (length l)) (filter-same p q xs (others same xs sorted.0))))
    by false h e again =
        let gone : q x ≡ false = without x ∙ rw h refl in
        rw h (rw gone (again e))
