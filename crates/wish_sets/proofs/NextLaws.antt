-- Which change is next, and that it is new.
use Rattle.std.proofs.Common.{◌≡◌, Bool, true, false, not, refl}
use Rattle.std.proofs.Common.{Option, Some, None}
use Rattle.std.specs.Prelude.{◌||◌, find, option_map}
use Rattle.std.specs.Option.{option_or}
use Rattle.std.specs.List.{list_any}
use Rattle.wish_sets.specs.declared.wish.Wish.{Wish}
use Rattle.wish_sets.specs.Order.{has_wish, is_wish}
use Rattle.wish_sets.specs.Wished.{wished}
use Rattle.wish_sets.specs.Wishes.{Wishes, EventRequest, clears, sets, next_change, is_surplus, is_missing}
use Rattle.wish_sets.specs.Wishes.{is_installed}
use Rattle.wish_sets.specs.Tidy.{IsNewSet}
use Rattle.wish_sets.proofs.WishLaws.{is_itself}
use Rattle.wish_sets.proofs.WishLaws.{found-passes, found-any}

-- Which change is next ------------------------------------------------------------------------------------------------

-- which of the two searches found it
pub clears-is : (w : Wishes) (r : EventRequest) → next_change w ≡ Some (clears r)
    → find (is_surplus (wished w.wanted)) w.installed ≡ Some r
unfolding next_change
clears-is w r e =
    by (find (is_surplus (wished w.wanted)) w.installed) (find (is_missing w.installed w.refused) (wished w.wanted)) e
  where
    by : (a : Option EventRequest) (b : Option Wish)
        → option_or (option_map clears a) (option_map sets b) ≡ Some (clears r) → a ≡ Some r
    by (Some other) b e = cc
    by None (Some wish) e = absurd (cc)
    by None None e = absurd (cc)

pub sets-is : (w : Wishes) (wish : Wish) → next_change w ≡ Some (sets wish)
    → (find (is_surplus (wished w.wanted)) w.installed ≡ None)
    × (find (is_missing w.installed w.refused) (wished w.wanted) ≡ Some wish)
unfolding next_change
sets-is w wish e =
    by (find (is_surplus (wished w.wanted)) w.installed) (find (is_missing w.installed w.refused) (wished w.wanted)) e
  where
    by : (a : Option EventRequest) (b : Option Wish)
        → option_or (option_map clears a) (option_map sets b) ≡ Some (sets wish) → (a ≡ None) × (b ≡ Some wish)
    by (Some other) b e = absurd (cc)
    by None (Some one) e = (refl, cc)
    by None None e = absurd (cc)

pub none-is : (w : Wishes) → next_change w ≡ None
    → (find (is_surplus (wished w.wanted)) w.installed ≡ None)
    × (find (is_missing w.installed w.refused) (wished w.wanted) ≡ None)
unfolding next_change
none-is w e =
    by (find (is_surplus (wished w.wanted)) w.installed) (find (is_missing w.installed w.refused) (wished w.wanted)) e
  where
    by : (a : Option EventRequest) (b : Option Wish)
        → option_or (option_map clears a) (option_map sets b) ≡ None → (a ≡ None) × (b ≡ None)
    by (Some other) b e = absurd (cc)
    by None (Some one) e = absurd (cc)
    by None None e = (refl, refl)

pub is-none : (w : Wishes) → find (is_surplus (wished w.wanted)) w.installed ≡ None
    → find (is_missing w.installed w.refused) (wished w.wanted) ≡ None → next_change w ≡ None
unfolding next_change
is-none w no_surplus none_missing = rw no_surplus (rw none_missing refl)

pub new_set : (w : Wishes) (wish : Wish) → next_change w ≡ Some (sets wish) → IsNewSet w wish
new_set w wish e =
    let is = (sets-is w wish e).1 in
    let missing = found-passes (is_missing w.installed w.refused) (wished w.wanted) wish is in
    record {
      is_wished = found-any (is_missing w.installed w.refused) (is_wish wish) (wished w.wanted) wish is
          (is_itself wish);
      not_installed = (neither (is_installed w.installed wish) (has_wish w.refused wish) missing).0;
      not_refused = (neither (is_installed w.installed wish) (has_wish w.refused wish) missing).1;
    }
  where
    neither : (a b : Bool) → not (a || b) ≡ true → (a ≡ false) × (b ≡ false)
    neither true b e = absurd (cc)
    neither false true e = absurd (cc)
    neither false false e = (refl, refl)

-- A Clear is of an installed request that isn't wished.
pub surplus_clear : (w : Wishes) (r : EventRequest) → next_change w ≡ Some (clears r)
    → has_wish (wished w.wanted) r.wish ≡ false
surplus_clear w r e =
    by (has_wish (wished w.wanted) r.wish)
    (found-passes (is_surplus (wished w.wanted)) w.installed r (clears-is w r e))
  where
    by : (b : Bool) → not b ≡ true → b ≡ false
    by true e = absurd (cc)
    by false e = refl

pub installed_clear : (w : Wishes) (r : EventRequest) → next_change w ≡ Some (clears r)
    → (test : EventRequest → Bool) → test r ≡ true → list_any test w.installed ≡ true
installed_clear w r e test passes =
    found-any (is_surplus (wished w.wanted)) test w.installed r (clears-is w r e) passes
