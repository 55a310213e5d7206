-- Each outcome of the next change leaves one change less, and none is left where all that is wished stands.
use Rattle.std.proofs.Common.{◌≡◌, ℕ, suc, Bool, true, false, not, List, [], ◌∷◌, refl, ap, sym, ◌∙◌, cond}
use Rattle.std.proofs.Common.{Option, Some, None, length, arith}
use Rattle.std.specs.Prelude.{◌||◌, ◌&&◌, filter, find, if◌then◌else◌}
use Rattle.std.specs.List.{list_any, AllByRecursion}
use Rattle.std.specs.List.Sorted.{IsStrictlySortedBy}
use Rattle.std.specs.Ordering.{is_eq, on}
use Rattle.std.specs.declared.cmp.Ordering.TheVariants.{Less}
use Rattle.wish_sets.specs.declared.change.Settled.{Settled}
use Rattle.wish_sets.specs.declared.change.Settled.TheVariants as outcomes
use Rattle.wish_sets.specs.declared.wish.Wish.{Wish}
use Rattle.wish_sets.specs.Order.{has_wish, is_wish, wish_cmp}
use Rattle.wish_sets.specs.Wished.{wished}
use Rattle.wish_sets.specs.Wishes.{Wishes, EventRequest, WishChange, clears, sets, next_change, is_surplus, is_missing}
use Rattle.wish_sets.specs.Wishes.{is_installed, with_request, cleared, installed_as, refused_now}
use Rattle.wish_sets.specs.Wishes.{settled, settled_by, set_by, is_outcome, is_cleared}
use Rattle.wish_sets.specs.Tidy.{IsTidy, changes_left}
use Rattle.wish_sets.proofs.OrderLaws.{any-insert}
use Rattle.wish_sets.proofs.WishLaws.{equal_is, is_itself, alike, wished_in_order}
use Rattle.wish_sets.proofs.WishLaws.{none-any, any-none, witness}
use Rattle.wish_sets.proofs.WishLaws.{filter-insert, filter-same, one-less}
use Rattle.wish_sets.proofs.NextLaws.{clears-is, sets-is, none-is, is-none, new_set, surplus_clear}
use Rattle.wish_sets.proofs.TidyLaws.{installed-with}

-- One change less -----------------------------------------------------------------------------------------------------

-- each of a list is among it
pub each-has : (all those : List Wish) → ((v : Wish) → has_wish those v ≡ true → has_wish all v ≡ true)
    → AllByRecursion (λ v. has_wish all v ≡ true) those
each-has all [] sub = tt
each-has all (x ∷ xs) sub =
    (sub x (rw (is_itself x) refl), each-has all xs (λ v e. sub v (rw e (last (is_wish v x)))))
  where
    last : (b : Bool) → (b || true) ≡ true
    last true = refl
    last false = refl

-- what is missing once one is set, or refused
missing-less : (a b c : Bool) → not ((c || a) || b) ≡ (not (a || b) && not c)
missing-less true true true = refl
missing-less true true false = refl
missing-less true false true = refl
missing-less true false false = refl
missing-less false true true = refl
missing-less false true false = refl
missing-less false false true = refl
missing-less false false false = refl

missing-less-refused : (a b c : Bool) → not (a || (c || b)) ≡ (not (a || b) && not c)
missing-less-refused true true true = refl
missing-less-refused true true false = refl
missing-less-refused true false true = refl
missing-less-refused true false false = refl
missing-less-refused false true true = refl
missing-less-refused false true false = refl
missing-less-refused false false true = refl
missing-less-refused false false false = refl

pub installed_leaves_less : (request : ℕ) (wish : Wish) (w : Wishes) → next_change w ≡ Some (sets wish)
    → changes_left w ≡ suc (changes_left (installed_as request wish w))
installed_leaves_less request wish w e =
    let r : EventRequest = record { wish = wish; request = request } in
    let new = new_set w wish e in
    let same = filter-insert (is_surplus (wished w.wanted)) (on (λ (other : EventRequest). other.wish) wish_cmp) r
    w.installed (rw new.is_wished refl) in
    let less = one-less wish (is_missing w.installed w.refused) (is_missing (with_request r w.installed) w.refused)
    (λ v. ap (λ b. not (b || has_wish w.refused v)) (installed-with r w.installed v)
    ∙ missing-less (is_installed w.installed v) (has_wish w.refused v) (is_wish v wish))
    (wished w.wanted) (wished_in_order w.wanted) (sets-is w wish e).1 in
    rw same (rw less (omega arith))

pub refused_leaves_less : (wish : Wish) (w : Wishes) → next_change w ≡ Some (sets wish)
    → changes_left w ≡ suc (changes_left (refused_now wish w))
refused_leaves_less wish w e =
    let less = one-less wish (is_missing w.installed w.refused)
    (is_missing w.installed (refused_now wish w).refused)
    (λ v. ap (λ b. not (is_installed w.installed v || b))
    (any-insert wish_cmp (is_wish v) (alike v) wish w.refused)
    ∙ missing-less-refused (is_installed w.installed v) (has_wish w.refused v) (is_wish v wish))
    (wished w.wanted) (wished_in_order w.wanted) (sets-is w wish e).1 in
    rw less (omega arith)

module _ {A : Type 0} (keep : A → Bool) where
  -- where each is kept, nothing is left out
  pub filter-all : (xs : List A) → AllByRecursion (λ x. keep x ≡ true) xs → filter keep xs ≡ xs
  filter-all [] all = refl
  filter-all (x ∷ xs) all = rw all.0 (ap (λ (l : List A). x ∷ l) (filter-all xs all.1))

  -- what only those pass that are kept is passed as before
  pub any-kept : (test : A → Bool) → ((x : A) → test x ≡ true → keep x ≡ true) → (xs : List A)
      → list_any test (filter keep xs) ≡ list_any test xs
  any-kept test kept [] = refl
  any-kept test kept (x ∷ xs) = by (keep x) refl (test x) refl (any-kept test kept xs)
    where
      by : (b : Bool) → keep x ≡ b → (c : Bool) → test x ≡ c → list_any test (filter keep xs) ≡ list_any test xs
          → list_any test (cond b (x ∷ filter keep xs) (filter keep xs)) ≡ (c || list_any test xs)
      by true e c f again = rw f (ap (λ v. c || v) again)
      by false e true f again = absurd (let h = kept x f in cc)
      by false e false f again = again

-- the first request that passes is alone in its wish: once that is cleared one less passes
pub one-less-request : (r : EventRequest) (p : EventRequest → Bool) (installed : List EventRequest)
    → IsStrictlySortedBy (on (λ other. other.wish) wish_cmp) installed → find p installed ≡ Some r
    → length (filter p installed)
    ≡ suc (length (filter p (filter (λ other. not (is_wish r.wish other.wish)) installed)))
unfolding IsStrictlySortedBy
one-less-request r p [] sorted e = absurd (cc)
one-less-request r p (x ∷ xs) sorted e = by (p x) refl e (one-less-request r p xs sorted.1)
  where
    keep : EventRequest → Bool
    keep other = not (is_wish r.wish other.wish)

    others : x ≡ r → (ys : List EventRequest) → AllByRecursion (λ y. wish_cmp x.wish y.wish ≡ Less) ys
        → AllByRecursion (λ y. not (is_wish r.wish y.wish) ≡ true) ys
    others same [] all = tt
    others same (y ∷ ys) all = (
      ap (λ (z : EventRequest). not (is_wish z.wish y.wish)) (sym same)
          ∙ ap (λ o. not (is_eq o)) all.0,
      others same ys all.1,
    )

    skipped : (b : Bool) (l : List EventRequest) → p x ≡ false → filter p (cond b (x ∷ l) l) ≡ filter p l
    skipped true l h = rw h refl
    skipped false l h = refl

    by : (b : Bool) → p x ≡ b → cond b (Some x) (find p xs) ≡ Some r
        → (find p xs ≡ Some r → length (filter p xs)
        ≡ suc (length (filter p (filter (λ other. not (is_wish r.wish other.wish)) xs))))
        → length (filter p (x ∷ xs))
        ≡ suc (length (filter p (filter (λ other. not (is_wish r.wish other.wish)) (x ∷ xs))))
    by true h e again =
        let same : x ≡ r = cc in
        let gone : not (is_wish r.wish x.wish) ≡ false =
        ap (λ (z : EventRequest). not (is_wish z.wish x.wish)) (sym same) ∙ ap not (is_itself x.wish) in
        let kept = filter-all (λ other. not (is_wish r.wish other.wish)) xs (others same xs sorted.0) in
        rw h (rw gone (rw kept refl))
    by false h e again =
        let rest = skipped (not (is_wish r.wish x.wish)) (filter (λ other. not (is_wish r.wish other.wish)) xs) h in
        rw rest (rw h (again e))

pub cleared_leaves_less : (r : EventRequest) (w : Wishes) → IsTidy w → next_change w ≡ Some (clears r)
    → changes_left w ≡ suc (changes_left (cleared r.wish w))
cleared_leaves_less r w tidy e =
    let less = one-less-request r (is_surplus (wished w.wanted)) w.installed tidy.installed_in_order
    (clears-is w r e) in
    let same = filter-same (is_missing w.installed w.refused) (is_missing (cleared r.wish w).installed w.refused)
    (wished w.wanted) (each (wished w.wanted)
    (each-has (wished w.wanted) (wished w.wanted) (λ v h. h))) in
    rw less (rw same (omega arith))
  where
    not-true : (b : Bool) → (b ≡ true → false ≡ true) → not b ≡ true
    not-true true h = absurd (let g = h refl in cc)
    not-true false h = refl

    stays : (v : Wish) → has_wish (wished w.wanted) v ≡ true → (x : EventRequest) → is_wish v x.wish ≡ true
        → not (is_wish r.wish x.wish) ≡ true
    stays v wishes_it x h = not-true (is_wish r.wish x.wish) (λ g.
        let a = equal_is v x.wish h in let b = equal_is r.wish x.wish g in
        let c = ap (has_wish (wished w.wanted)) (a ∙ sym b) in
        sym (surplus_clear w r e) ∙ (sym c ∙ wishes_it))

    each : (those : List Wish) → AllByRecursion (λ v. has_wish (wished w.wanted) v ≡ true) those
        → AllByRecursion (λ v. is_missing w.installed w.refused v ≡ is_missing (cleared r.wish w).installed w.refused v)
        those
    each [] all = tt
    each (v ∷ vs) all = (
      ap (λ b. not (b || has_wish w.refused v)) (sym (any-kept (λ x. not (is_wish r.wish x.wish))
          (λ x. is_wish v x.wish) (stays v all.0) w.installed)),
      each vs all.1,
    )

-- each outcome of the next change leaves one change less
pub settled_leaves_less : (outcome : Settled) (w : Wishes) → IsTidy w → is_outcome (next_change w) outcome ≡ true
    → changes_left w ≡ suc (changes_left (settled outcome w))
settled_leaves_less outcome w tidy = by (next_change w) refl
  where
    if-cleared : (r : EventRequest) (b : Bool) → next_change w ≡ Some (clears r) → b ≡ true
        → changes_left w ≡ suc (changes_left (if b then cleared r.wish w else w))
    if-cleared r true e h = cleared_leaves_less r w tidy e
    if-cleared r false e h = absurd (cc)

    set : (wish : Wish) (o : Settled) → next_change w ≡ Some (sets wish) → not (is_cleared o) ≡ true
        → changes_left w ≡ suc (changes_left (set_by wish o w))
    set wish outcomes.Cleared e h = absurd (cc)
    set wish (outcomes.Installed request) e h = installed_leaves_less request wish w e
    set wish (outcomes.Refused code) e h = refused_leaves_less wish w e

    by : (change : Option WishChange) → next_change w ≡ change → is_outcome change outcome ≡ true
        → changes_left w ≡ suc (changes_left (settled_by change outcome w))
    by None e h = absurd (cc)
    by (Some (clears r)) e h = if-cleared r (is_cleared outcome) e h
    by (Some (sets wish)) e h = set wish outcome e h

-- Where no change is left ---------------------------------------------------------------------------------------------

pub at_rest : (w : Wishes) → IsTidy w → next_change w ≡ None → (wish : Wish)
    → is_installed w.installed wish ≡ (has_wish (wished w.wanted) wish && not (has_wish w.refused wish))
at_rest w tidy e wish =
    by (is_installed w.installed wish) refl (has_wish (wished w.wanted) wish) refl (has_wish w.refused wish) refl
  where
    no_surplus : list_any (is_surplus (wished w.wanted)) w.installed ≡ false
    no_surplus = none-any (is_surplus (wished w.wanted)) w.installed (none-is w e).0

    none_missing : list_any (is_missing w.installed w.refused) (wished w.wanted) ≡ false
    none_missing = none-any (is_missing w.installed w.refused) (wished w.wanted) (none-is w e).1

    not-false : (b : Bool) → not b ≡ false → b ≡ true
    not-false true h = refl
    not-false false h = absurd (cc)

    wished-if : is_installed w.installed wish ≡ true → has_wish (wished w.wanted) wish ≡ true
    wished-if h =
        let found = witness (is_surplus (wished w.wanted)) (λ r. is_wish wish r.wish) w.installed no_surplus h in
        ap (has_wish (wished w.wanted)) (equal_is wish found.0.wish found.1.0)
        ∙ not-false (has_wish (wished w.wanted) found.0.wish) found.1.1

    or-if : (a b : Bool) → not (a || b) ≡ false → b ≡ false → a ≡ true
    or-if true b h g = refl
    or-if false true h g = absurd (cc)
    or-if false false h g = absurd (cc)

    installed-if : has_wish (wished w.wanted) wish ≡ true → has_wish w.refused wish ≡ false
        → is_installed w.installed wish ≡ true
    installed-if h g =
        let found = witness (is_missing w.installed w.refused) (is_wish wish) (wished w.wanted) none_missing h in
        let same = equal_is wish found.0 found.1.0 in
        or-if (is_installed w.installed wish) (has_wish w.refused wish)
        (ap (is_missing w.installed w.refused) same ∙ found.1.1) g

    by : (a : Bool) → is_installed w.installed wish ≡ a → (b : Bool) → has_wish (wished w.wanted) wish ≡ b
        → (c : Bool) → has_wish w.refused wish ≡ c → a ≡ (b && not c)
    by true e true f false g = refl
    by true e b f true g = absurd (let h = tidy.refused_is_not_installed wish g in cc)
    by true e false f false g = absurd (let h = wished-if e in cc)
    by false e true f false g = absurd (let h = installed-if f g in cc)
    by false e true f true g = refl
    by false e false f c g = refl

pub rests : (w : Wishes)
    → ((wish : Wish) → is_installed w.installed wish
    ≡ (has_wish (wished w.wanted) wish && not (has_wish w.refused wish)))
    → next_change w ≡ None
rests w each =
    is-none w (any-none (is_surplus (wished w.wanted)) w.installed (no-surplus w.installed (λ wish h. h)))
    (any-none (is_missing w.installed w.refused) (wished w.wanted)
    (none-missing (wished w.wanted) (each-has (wished w.wanted) (wished w.wanted) (λ v h. h))))
  where
    last : (b : Bool) → (b || true) ≡ true
    last true = refl
    last false = refl

    first-of : (a b : Bool) → (a && b) ≡ true → not a ≡ false
    first-of true b e = refl
    first-of false b e = absurd (cc)

    no-surplus : (rs : List EventRequest)
        → ((wish : Wish) → is_installed rs wish ≡ true → is_installed w.installed wish ≡ true)
        → list_any (is_surplus (wished w.wanted)) rs ≡ false
    no-surplus [] sub = refl
    no-surplus (r ∷ rs) sub =
        let here : is_installed w.installed r.wish ≡ true = sub r.wish (rw (is_itself r.wish) refl) in
        let fine : is_surplus (wished w.wanted) r ≡ false =
        first-of (has_wish (wished w.wanted) r.wish) (not (has_wish w.refused r.wish)) (sym (each r.wish) ∙ here) in
        rw fine (no-surplus rs (λ wish h. sub wish (rw h (last (is_wish wish r.wish)))))

    settled-one : (a b c : Bool) → a ≡ (b && not c) → b ≡ true → not (a || c) ≡ false
    settled-one true b true e f = refl
    settled-one true b false e f = refl
    settled-one false b true e f = refl
    settled-one false true false e f = absurd (cc)
    settled-one false false false e f = absurd (cc)

    none-missing : (those : List Wish) → AllByRecursion (λ v. has_wish (wished w.wanted) v ≡ true) those
        → list_any (is_missing w.installed w.refused) those ≡ false
    none-missing [] all = refl
    none-missing (v ∷ vs) all =
        rw (settled-one (is_installed w.installed v) (has_wish (wished w.wanted) v) (has_wish w.refused v) (each v)
        all.0)
        (none-missing vs all.1)
