-- Slots say what is wished: two lists in order that have the same wishes are one.
use Rattle.std.proofs.Common.{◌≡◌, Bool, true, false, List, [], ◌∷◌, refl, ap, sym, ◌∙◌}
use Rattle.std.proofs.Common.{subst}
use Rattle.std.specs.Prelude.{◌||◌}
use Rattle.std.specs.List.{AllByRecursion}
use Rattle.std.specs.List.Sorted.{IsStrictlySortedBy}
use Rattle.std.specs.Ordering.{is_eq, ordering_reverse}
use Rattle.std.specs.declared.cmp.Ordering.{Ordering}
use Rattle.std.specs.declared.cmp.Ordering.TheVariants.{Less, Equal, Greater}
use Rattle.wish_sets.specs.declared.slot.Slot.{Slot}
use Rattle.wish_sets.specs.declared.wish.Wish.{Wish}
use Rattle.wish_sets.specs.Order.{has_wish, in_order, is_wish, wish_cmp, wish_total}
use Rattle.wish_sets.specs.Slots.{wishes_in}
use Rattle.wish_sets.proofs.OrderLaws.{sorted-fold}
use Rattle.wish_sets.proofs.WishLaws.{equal_is, is_itself}
use Rattle.wish_sets.proofs.SlotLaws.{wishes_of}

-- Lists in order ------------------------------------------------------------------------------------------------------

none-below : (wish : Wish) (those : List Wish) → AllByRecursion (λ other. wish_cmp wish other ≡ Less) those
    → has_wish those wish ≡ false
none-below wish [] all = refl
none-below wish (other ∷ those) all = rw (ap is_eq all.0) (none-below wish those all.1)

below-all : (a b : Wish) (those : List Wish) → wish_cmp a b ≡ Less
    → AllByRecursion (λ other. wish_cmp b other ≡ Less) those → AllByRecursion (λ other. wish_cmp a other ≡ Less) those
below-all a b [] e all = tt
below-all a b (x ∷ those) e all = (wish_total.trans a b x e all.0, below-all a b those e all.1)

pub same_in_order : (xs ys : List Wish) → IsStrictlySortedBy wish_cmp xs → IsStrictlySortedBy wish_cmp ys
    → ((wish : Wish) → has_wish xs wish ≡ has_wish ys wish) → xs ≡ ys
unfolding IsStrictlySortedBy
same_in_order [] [] left right same = refl
same_in_order [] (y ∷ ys) left right same =
    absurd (let h : false ≡ (is_wish y y || has_wish ys y) = same y in let k = is_itself y in
    let m : false ≡ (true || has_wish ys y) = rw k at h in cc)
same_in_order (x ∷ xs) [] left right same =
    absurd (let h : (is_wish x x || has_wish xs x) ≡ false = same x in let k = is_itself x in
    let m : (true || has_wish xs x) ≡ false = rw k at h in cc)
same_in_order (x ∷ xs) (y ∷ ys) left right same =
    by (wish_cmp x y) refl (same_in_order xs ys left.1 right.1)
  where
    first : (is_wish x x || has_wish xs x) ≡ true
    first = rw (is_itself x) refl

    other_first : (is_wish y y || has_wish ys y) ≡ true
    other_first = rw (is_itself y) refl

    rest : x ≡ y → (wish : Wish) → has_wish xs wish ≡ has_wish ys wish
    rest e wish = one (is_wish wish x) refl
      where
        both : (is_wish wish x || has_wish xs wish) ≡ (is_wish wish x || has_wish ys wish)
        both = same wish ∙ ap (λ w. is_wish wish w || has_wish ys wish) (sym e)

        one : (b : Bool) → is_wish wish x ≡ b → has_wish xs wish ≡ has_wish ys wish
        one true f =
            let it : wish ≡ x = equal_is wish x f in
            subst (λ w. has_wish xs w ≡ has_wish ys w) (sym it)
            (none-below x xs left.0 ∙ sym (subst (λ w. has_wish ys w ≡ false) (sym e) (none-below y ys right.0)))
        one false f = let h : (false || has_wish xs wish) ≡ (false || has_wish ys wish) = rw f at both in h

    by : (o : Ordering) → wish_cmp x y ≡ o
        → (((wish : Wish) → has_wish xs wish ≡ has_wish ys wish) → xs ≡ ys) → x ∷ xs ≡ y ∷ ys
    by Less e again =
        absurd (let none : has_wish (y ∷ ys) x ≡ false = none-below x (y ∷ ys) (e, below-all x y ys e right.0) in
        let h = same x in let k = first in cc)
    by Equal e again =
        let it : x ≡ y = equal_is x y (ap is_eq e) in ap (λ w. w ∷ xs) it ∙ ap (λ ws. y ∷ ws) (again (rest it))
    by Greater e again =
        let less : wish_cmp y x ≡ Less = wish_total.antisymm y x ∙ ap ordering_reverse e in
        absurd (let none : has_wish (x ∷ xs) y ≡ false = none-below y (x ∷ xs) (less, below-all y x xs less left.0) in
        let h = same y in let k = other_first in cc)

-- What is wished ------------------------------------------------------------------------------------------------------

pub in_order_is : (those : List Wish) → IsStrictlySortedBy wish_cmp (in_order those)
unfolding IsStrictlySortedBy
in_order_is those = sorted-fold wish_total [] those tt

behind : (wish : Wish) (xs : List Slot) → AllByRecursion (λ other. wish_cmp wish other ≡ Less) (wishes_of xs)
    → AllByRecursion (λ other. wish_cmp wish other ≡ Less) (wishes_in xs)
behind wish [] all = tt
behind wish (x ∷ xs) all = one x.wished (behind wish xs all.1)
  where
    one : (b : Bool) → AllByRecursion (λ other. wish_cmp wish other ≡ Less) (wishes_in xs)
        → AllByRecursion (λ other. wish_cmp wish other ≡ Less) (wishes_in (record x { wished = b } ∷ xs))
    one true rest = (all.0, rest)
    one false rest = rest

pub kept_in_order : (xs : List Slot) → IsStrictlySortedBy wish_cmp (wishes_of xs)
    → IsStrictlySortedBy wish_cmp (wishes_in xs)
unfolding IsStrictlySortedBy
kept_in_order [] sorted = tt
kept_in_order (x ∷ xs) sorted = one x.wished (kept_in_order xs sorted.1)
  where
    one : (b : Bool) → IsStrictlySortedBy wish_cmp (wishes_in xs)
        → IsStrictlySortedBy wish_cmp (wishes_in (record x { wished = b } ∷ xs))
    one true rest = (behind x.wish xs sorted.0, rest)
    one false rest = rest
