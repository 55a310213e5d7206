-- What stays true of what stands, and how many changes are left.
use Rattle.std.specs.Prelude.{◌≡◌, ℕ, ◌+◌, true, false, length, filter}
use Rattle.std.specs.List.Sorted.{IsStrictlySortedBy}
use Rattle.std.specs.Ordering.{on}
use Rattle.wish_sets.specs.declared.wish.Wish.{Wish}
use Rattle.wish_sets.specs.Order.{has_wish, wish_cmp}
use Rattle.wish_sets.specs.Wished.{wished}
use Rattle.wish_sets.specs.Wishes.{Wishes, is_installed, is_surplus, is_missing}

-- What is installed stands in wish order, each wish once, and so does what was refused; what was refused is wished, and
-- isn't installed.
pub record IsTidy (w : Wishes) : Type 0 where
  pub installed_in_order : IsStrictlySortedBy (on (λ r. r.wish) wish_cmp) w.installed
  pub refused_in_order : IsStrictlySortedBy wish_cmp w.refused
  pub refused_is_wished : (wish : Wish) → has_wish w.refused wish ≡ true → has_wish (wished w.wanted) wish ≡ true
  pub refused_is_not_installed : (wish : Wish) → has_wish w.refused wish ≡ true
      → is_installed w.installed wish ≡ false

-- A Set is new: its wish is wished, and neither installed nor refused.
pub record IsNewSet (w : Wishes) (wish : Wish) : Type 0 where
  pub is_wished : has_wish (wished w.wanted) wish ≡ true
  pub not_installed : is_installed w.installed wish ≡ false
  pub not_refused : has_wish w.refused wish ≡ false

-- how many changes are left: the requests that are no longer wished, and the wishes that are neither installed nor
-- refused
abbrev pub changes_left : Wishes → ℕ
changes_left w =
    length (filter (is_surplus (wished w.wanted)) w.installed)
    + length (filter (is_missing w.installed w.refused) (wished w.wanted))
