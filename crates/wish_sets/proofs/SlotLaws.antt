-- Slots in wish order: each wish is found by its slot alone, and the first that has to be changed gives the next
-- change.
use Rattle.std.proofs.Common.{◌≡◌, ℕ, ◌+◌, Bool, true, false, not, List, [], ◌∷◌, ◌++◌, refl, ap, sym, ◌∙◌, cond}
use Rattle.std.proofs.Common.{Option, Some, None, Result, Ok, Err}
use Rattle.std.specs.Prelude.{◌||◌, ◌&&◌, filter, find, map, is_some, option_map}
use Rattle.std.specs.List.{list_any, AllByRecursion, position_from}
use Rattle.std.specs.List.Sorted.{IsStrictlySortedBy}
use Rattle.std.specs.Ordering.{is_eq, ordering_reverse}
use Rattle.std.specs.declared.cmp.Ordering.TheVariants.{Less}
use Rattle.wish_sets.specs.declared.slot.Slot.{Slot}
use Rattle.wish_sets.specs.declared.wish.Wish.{Wish}
use Rattle.wish_sets.specs.Order.{has_wish, is_wish, wish_cmp, wish_total}
use Rattle.wish_sets.specs.Slots.{wishes_in, requests_in, is_unset, late_by, late_from}
use Rattle.wish_sets.specs.Slots.{unset_from, owner_in}
use Rattle.std.specs.Option.{option_or}
use Rattle.jdwp_events.specs.declared.kind.EventKind.{EventKind}
use Rattle.wish_sets.specs.Wishes.{EventRequest, WishChange, clears, sets, is_installed, is_request}
use Rattle.wish_sets.proofs.WishLaws.{is_itself}

-- Membership ----------------------------------------------------------------------------------------------------------

-- a wish has a slot that passes a test
abbrev pub has_slot : (Slot → Bool) → List Slot → Wish → Bool
has_slot test slots wish = list_any (λ slot. test slot && is_wish wish slot.wish) slots

pub has-kept : (test : Slot → Bool) (slots : List Slot) (wish : Wish)
    → has_wish (map (λ (slot : Slot). slot.wish) (filter test slots)) wish ≡ has_slot test slots wish
has-kept test [] wish = refl
has-kept test (slot ∷ slots) wish = by (test slot) (has-kept test slots wish)
  where
    by : (b : Bool) → has_wish (map (λ (slot : Slot). slot.wish) (filter test slots)) wish ≡ has_slot test slots wish
        → has_wish (map (λ (slot : Slot). slot.wish) (cond b (slot ∷ filter test slots) (filter test slots))) wish
        ≡ ((b && is_wish wish slot.wish) || has_slot test slots wish)
    by true e = ap (λ c. is_wish wish slot.wish || c) e
    by false e = e

-- a slot is one of an installed wish
abbrev pub stands : Slot → Bool
stands slot = is_some slot.request

pub has-installed : (slots : List Slot) (wish : Wish)
    → is_installed (requests_in slots) wish ≡ has_slot stands slots wish
has-installed [] wish = refl
has-installed (slot ∷ slots) wish = by slot.request (has-installed slots wish)
  where
    by : (o : Option ℕ) → is_installed (requests_in slots) wish ≡ has_slot stands slots wish
        → is_installed (requests_in (record slot { request = o } ∷ slots)) wish
        ≡ ((is_some o && is_wish wish slot.wish) || has_slot stands slots wish)
    by None e = e
    by (Some request) e = ap (λ c. is_wish wish slot.wish || c) e

-- Each wish once ------------------------------------------------------------------------------------------------------

-- the wishes of slots
abbrev pub wishes_of : List Slot → List Wish
wishes_of slots = map (λ (slot : Slot). slot.wish) slots

less-differs : (a b : Wish) → wish_cmp a b ≡ Less → is_wish a b ≡ false
less-differs a b e = ap is_eq e

less-differs-back : (a b : Wish) → wish_cmp a b ≡ Less → is_wish b a ≡ false
less-differs-back a b e = ap is_eq (wish_total.antisymm b a ∙ ap ordering_reverse e)

and-false : (b : Bool) → (b && false) ≡ false
and-false true = refl
and-false false = refl

and-true : (b : Bool) → (b && true) ≡ b
and-true true = refl
and-true false = refl

or-false : (b : Bool) → (b || false) ≡ b
or-false true = refl
or-false false = refl

-- what is before all has no slot among them
pub none_behind : (test : Slot → Bool) (wish : Wish) (slots : List Slot)
    → AllByRecursion (λ other. wish_cmp wish other ≡ Less) (wishes_of slots) → has_slot test slots wish ≡ false
none_behind test wish [] all = refl
none_behind test wish (slot ∷ slots) all =
    rw (less-differs wish slot.wish all.0, and-false (test slot)) (none_behind test wish slots all.1)

-- a slot is the only one of its wish
pub own_slot : (test : Slot → Bool) (slots : List Slot) → IsStrictlySortedBy wish_cmp (wishes_of slots)
    → AllByRecursion (λ slot. has_slot test slots slot.wish ≡ test slot) slots
unfolding IsStrictlySortedBy
own_slot test [] sorted = tt
own_slot test (x ∷ xs) sorted = (
  rw (is_itself x.wish, none_behind test x.wish xs sorted.0, and-true (test x)) (or-false (test x)),
  rest xs sorted.0 (own_slot test xs sorted.1),
)
  where
    rest : (ys : List Slot) → AllByRecursion (λ other. wish_cmp x.wish other ≡ Less) (wishes_of ys)
        → AllByRecursion (λ slot. has_slot test xs slot.wish ≡ test slot) ys
        → AllByRecursion (λ slot. has_slot test (x ∷ xs) slot.wish ≡ test slot) ys
    rest [] less all = tt
    rest (y ∷ ys) less all = (
      rw (less-differs-back x.wish y.wish less.0, and-false (test x)) all.0,
      rest ys less.1 all.1,
    )

-- The first that has to be changed ------------------------------------------------------------------------------------

abbrev pub change_of : Result ℕ (ℕ × WishChange) → Option WishChange
change_of (Ok place) = None
change_of (Err found) = Some found.1

abbrev pub place_of : Result ℕ (ℕ × WishChange) → Option ℕ
place_of (Ok place) = None
place_of (Err found) = Some found.0

module _ (is_in : Wish → Bool) where
  abbrev pub Tells : Slot → Type 0
  Tells slot = is_in slot.wish ≡ slot.wished

  abbrev surplus : EventRequest → Bool
  surplus r = not (is_in r.wish)

  pub late_change : (n : ℕ) (slots : List Slot) → AllByRecursion Tells slots
      → change_of (late_from n slots) ≡ option_map clears (find surplus (requests_in slots))
  late_change n [] all = refl
  late_change n (slot ∷ slots) all =
      by slot.request slot.wished all.0 (late_change n slots all.1) (late_change (n + 1) slots all.1)
    where
      by : (o : Option ℕ) (b : Bool) → is_in slot.wish ≡ b
          → change_of (late_from n slots) ≡ option_map clears (find surplus (requests_in slots))
          → change_of (late_from (n + 1) slots) ≡ option_map clears (find surplus (requests_in slots))
          → change_of (late_by (record slot { wished = b }) o n (late_from n slots) (late_from (n + 1) slots))
          ≡ option_map clears (find surplus (requests_in (record slot { request = o } ∷ slots)))
      by None b e same next = same
      by (Some request) true e same next = rw e next
      by (Some request) false e same next = rw e refl

  pub late_place : (n : ℕ) (slots : List Slot) → AllByRecursion Tells slots
      → place_of (late_from n slots) ≡ position_from surplus n (requests_in slots)
  late_place n [] all = refl
  late_place n (slot ∷ slots) all =
      by slot.request slot.wished all.0 (late_place n slots all.1) (late_place (n + 1) slots all.1)
    where
      by : (o : Option ℕ) (b : Bool) → is_in slot.wish ≡ b
          → place_of (late_from n slots) ≡ position_from surplus n (requests_in slots)
          → place_of (late_from (n + 1) slots) ≡ position_from surplus (n + 1) (requests_in slots)
          → place_of (late_by (record slot { wished = b }) o n (late_from n slots) (late_from (n + 1) slots))
          ≡ position_from surplus n (requests_in (record slot { request = o } ∷ slots))
      by None b e same next = same
      by (Some request) true e same next = rw e next
      by (Some request) false e same next = rw e refl

module _ (is_out : Wish → Bool) where
  -- of those that are wished it tells which ones have to be set
  abbrev pub TellsUnset : Slot → Type 0
  TellsUnset slot = is_out slot.wish ≡ not (is_some slot.request || slot.refused)

  set-by : (a b : Bool) → (not a && not b) ≡ not (a || b)
  set-by true b = refl
  set-by false b = refl

  pub unset_change : (n : ℕ) (slots : List Slot) → AllByRecursion TellsUnset slots
      → change_of (unset_from n slots) ≡ option_map sets (find is_out (wishes_in slots))
  unset_change n [] all = refl
  unset_change n (slot ∷ slots) all =
      by slot.wished (is_out slot.wish) refl (set-by (is_some slot.request) slot.refused ∙ sym all.0)
      (unset_change n slots all.1) (unset_change (n + 1) slots all.1)
    where
      by : (b c : Bool) → is_out slot.wish ≡ c → (not (is_some slot.request) && not slot.refused) ≡ is_out slot.wish
          → change_of (unset_from n slots) ≡ option_map sets (find is_out (wishes_in slots))
          → change_of (unset_from (n + 1) slots) ≡ option_map sets (find is_out (wishes_in slots))
          → change_of (unset_from n (record slot { wished = b } ∷ slots))
          ≡ option_map sets (find is_out (wishes_in (record slot { wished = b } ∷ slots)))
      by false c e f same next = same
      by true true e f same next = rw (f, e) refl
      by true false e f same next = rw (f, e) next

  pub unset_place : (n : ℕ) (slots : List Slot) → AllByRecursion TellsUnset slots
      → place_of (unset_from n slots) ≡ position_from is_out n (wishes_in slots)
  unset_place n [] all = refl
  unset_place n (slot ∷ slots) all =
      by slot.wished (is_out slot.wish) refl (set-by (is_some slot.request) slot.refused ∙ sym all.0)
      (unset_place n slots all.1) (unset_place (n + 1) slots all.1)
    where
      by : (b c : Bool) → is_out slot.wish ≡ c → (not (is_some slot.request) && not slot.refused) ≡ is_out slot.wish
          → place_of (unset_from n slots) ≡ position_from is_out n (wishes_in slots)
          → place_of (unset_from (n + 1) slots) ≡ position_from is_out (n + 1) (wishes_in slots)
          → place_of (unset_from n (record slot { wished = b } ∷ slots))
          ≡ position_from is_out n (wishes_in (record slot { wished = b } ∷ slots))
      by false c e f same next = same
      by true true e f same next = rw (f, e) refl
      by true false e f same next = rw (f, e) next

-- Two lists -----------------------------------------------------------------------------------------------------------

-- what comes of the second list, where nothing came of the first
abbrev pub go_on : Result ℕ (ℕ × WishChange) → (ℕ → Result ℕ (ℕ × WishChange)) → Result ℕ (ℕ × WishChange)
go_on (Ok place) next = next place
go_on (Err found) next = Err found

pub late_append : (n : ℕ) (xs ys : List Slot) → late_from n (xs ++ ys) ≡ go_on (late_from n xs) (λ m. late_from m ys)
late_append n [] ys = refl
late_append n (slot ∷ xs) ys = by slot.request slot.wished (late_append n xs ys) (late_append (n + 1) xs ys)
  where
    by : (o : Option ℕ) (b : Bool) → late_from n (xs ++ ys) ≡ go_on (late_from n xs) (λ m. late_from m ys)
        → late_from (n + 1) (xs ++ ys) ≡ go_on (late_from (n + 1) xs) (λ m. late_from m ys)
        → late_by (record slot { wished = b }) o n (late_from n (xs ++ ys)) (late_from (n + 1) (xs ++ ys))
        ≡ go_on (late_by (record slot { wished = b }) o n (late_from n xs) (late_from (n + 1) xs))
        (λ m. late_from m ys)
    by None b same next = same
    by (Some request) true same next = next
    by (Some request) false same next = refl

pub unset_append : (n : ℕ) (xs ys : List Slot)
    → unset_from n (xs ++ ys) ≡ go_on (unset_from n xs) (λ m. unset_from m ys)
unset_append n [] ys = refl
unset_append n (slot ∷ xs) ys =
    by (is_unset slot) slot.wished (unset_append n xs ys) (unset_append (n + 1) xs ys)
  where
    by : (b c : Bool) → unset_from n (xs ++ ys) ≡ go_on (unset_from n xs) (λ m. unset_from m ys)
        → unset_from (n + 1) (xs ++ ys) ≡ go_on (unset_from (n + 1) xs) (λ m. unset_from m ys)
        → cond b (Err (n, sets slot.wish)) (unset_from (cond c (n + 1) n) (xs ++ ys))
        ≡ go_on (cond b (Err (n, sets slot.wish)) (unset_from (cond c (n + 1) n) xs)) (λ m. unset_from m ys)
    by true c same next = refl
    by false true same next = next
    by false false same next = same

pub owner_append : (xs ys : List Slot) (kind : EventKind) (request : ℕ)
    → owner_in (xs ++ ys) kind request ≡ option_or (owner_in xs kind request) (owner_in ys kind request)
owner_append [] ys kind request = refl
owner_append (slot ∷ xs) ys kind request = by slot.request (owner_append xs ys kind request)
  where
    found : (b : Bool) (request' : ℕ)
        → owner_in (xs ++ ys) kind request ≡ option_or (owner_in xs kind request) (owner_in ys kind request)
        → option_map (λ (r : EventRequest). r.wish) (cond b (Some (record { wish = slot.wish; request = request' }))
        (find (is_request kind request) (requests_in (xs ++ ys))))
        ≡ option_or (option_map (λ (r : EventRequest). r.wish) (cond b (Some (record {
          wish = slot.wish;
          request =
              request';
        }))
        (find (is_request kind request) (requests_in xs)))) (owner_in ys kind request)
    found true request' e = refl
    found false request' e = e

    by : (o : Option ℕ)
        → owner_in (xs ++ ys) kind request ≡ option_or (owner_in xs kind request) (owner_in ys kind request)
        → owner_in (record slot { request = o } ∷ (xs ++ ys)) kind request
        ≡ option_or (owner_in (record slot { request = o } ∷ xs) kind request) (owner_in ys kind request)
    by None e = e
    by (Some id) e = found (is_request kind request (record { wish = slot.wish; request = id })) id e
