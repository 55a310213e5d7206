-- What stands stays tidy, whatever is wanted and whatever comes of a change.
use Rattle.std.proofs.Common.{◌≡◌, ℕ, Bool, true, false, not, List, [], refl, ap, sym, ◌∙◌}
use Rattle.std.proofs.Common.{Option, Some, None}
use Rattle.std.specs.Prelude.{◌||◌, ◌&&◌, if◌then◌else◌}
use Rattle.std.specs.List.Sorted.{IsStrictlySortedBy}
use Rattle.std.specs.Ordering.{on}
use Rattle.std.proofs.lemmas.List.Kept.{IsStrictlySortedBy-filter}
use Rattle.wish_sets.specs.declared.change.Settled.{Settled}
use Rattle.wish_sets.specs.declared.change.Settled.TheVariants as outcomes
use Rattle.wish_sets.specs.declared.wish.Wish.{Wish}
use Rattle.wish_sets.specs.Order.{has_wish, is_wish, wish_cmp, wish_total}
use Rattle.wish_sets.specs.Wanted.{Wanted}
use Rattle.wish_sets.specs.Wished.{wished}
use Rattle.wish_sets.specs.Wishes.{Wishes, EventRequest, WishChange, clears, sets, next_change}
use Rattle.wish_sets.specs.Wishes.{is_installed, with_request, rewished, cleared, installed_as, refused_now, new_wishes}
use Rattle.wish_sets.specs.Wishes.{settled, settled_by, set_by, is_cleared}
use Rattle.wish_sets.specs.Tidy.{IsTidy, IsNewSet}
use Rattle.wish_sets.proofs.OrderLaws.{any-insert, sorted-insert}
use Rattle.wish_sets.proofs.WishLaws.{equal_is, alike, alike_requests, request_total}
use Rattle.wish_sets.proofs.WishLaws.{has-filter, any-filter}
use Rattle.wish_sets.proofs.NextLaws.{new_set}

-- What stands stays tidy ----------------------------------------------------------------------------------------------

pub new_is_tidy : IsTidy new_wishes
unfolding IsStrictlySortedBy
new_is_tidy = record {
  installed_in_order = tt;
  refused_in_order = tt;
  refused_is_wished = λ wish e. absurd (let h : false ≡ true = e in cc);
  refused_is_not_installed = λ wish e. refl;
}

-- what a change of what is wanted keeps of what was refused
pub kept_refusals : (wanted : Wanted) (w : Wishes) (wish : Wish)
    → has_wish (rewished wanted w).refused wish ≡ (has_wish (wished wanted) wish && has_wish w.refused wish)
kept_refusals wanted w wish = has-filter (has_wish (wished wanted)) wish w.refused

both-first : (a b : Bool) → (a && b) ≡ true → a ≡ true
both-first true b e = refl
both-first false b e = absurd (cc)

both-second : (a b : Bool) → (a && b) ≡ true → b ≡ true
both-second true b e = e
both-second false b e = absurd (cc)

pub rewished_is_tidy : (wanted : Wanted) (w : Wishes) → IsTidy w → IsTidy (rewished wanted w)
rewished_is_tidy wanted w tidy = record {
  installed_in_order = tidy.installed_in_order;
  refused_in_order = IsStrictlySortedBy-filter wish_cmp (has_wish (wished wanted)) w.refused tidy.refused_in_order;
  refused_is_wished = λ wish e.
      both-first (has_wish (wished wanted) wish) (has_wish w.refused wish) (sym (kept_refusals wanted w wish) ∙ e);
  refused_is_not_installed = λ wish e. tidy.refused_is_not_installed wish
      (both-second (has_wish (wished wanted) wish) (has_wish w.refused wish) (sym (kept_refusals wanted w wish) ∙ e));
}

-- what is installed once one more is
pub installed-with : (r : EventRequest) (installed : List EventRequest) (wish : Wish)
    → is_installed (with_request r installed) wish ≡ (is_wish wish r.wish || is_installed installed wish)
installed-with r installed wish =
    any-insert (on (λ (other : EventRequest). other.wish) wish_cmp) (λ other. is_wish wish other.wish)
    (alike_requests wish) r installed

-- what was refused once one more was
pub refused-with : (one : Wish) (refused : List Wish) (wish : Wish)
    → has_wish (refused_now one (record { wanted = new_wishes.wanted; installed = []; refused = refused })).refused wish
    ≡ (is_wish wish one || has_wish refused wish)
refused-with one refused wish = any-insert wish_cmp (is_wish wish) (alike wish) one refused

or-true : (a b : Bool) → (a || b) ≡ true → (a ≡ false → b ≡ true)
or-true true b e h = absurd (cc)
or-true false b e h = e

pub installed_is_tidy : (request : ℕ) (wish : Wish) (w : Wishes) → IsTidy w → IsNewSet w wish
    → IsTidy (installed_as request wish w)
installed_is_tidy request wish w tidy new = record {
  installed_in_order = sorted-insert request_total (record { wish = wish; request = request }) w.installed
      tidy.installed_in_order;
  refused_in_order = tidy.refused_in_order;
  refused_is_wished = tidy.refused_is_wished;
  refused_is_not_installed = λ other e.
      installed-with (record { wish = wish; request = request }) w.installed other
      ∙ by other (is_wish other wish) refl e (tidy.refused_is_not_installed other e);
}
  where
    by : (other : Wish) (b : Bool) → is_wish other wish ≡ b → has_wish w.refused other ≡ true
        → is_installed w.installed other ≡ false → (is_wish other wish || is_installed w.installed other) ≡ false
    by other true h e f =
        absurd (let g = ap (has_wish w.refused) (equal_is other wish h) in let n = new.not_refused in cc)
    by other false h e f = rw h f

pub refused_is_tidy : (wish : Wish) (w : Wishes) → IsTidy w → IsNewSet w wish → IsTidy (refused_now wish w)
refused_is_tidy wish w tidy new = record {
  installed_in_order = tidy.installed_in_order;
  refused_in_order = sorted-insert wish_total wish w.refused tidy.refused_in_order;
  refused_is_wished = λ other e.
      by other (is_wish other wish) refl (sym (any-insert wish_cmp (is_wish other) (alike other) wish w.refused) ∙ e);
  refused_is_not_installed = λ other e.
      too other (is_wish other wish) refl (sym (any-insert wish_cmp (is_wish other) (alike other) wish w.refused) ∙ e);
}
  where
    by : (other : Wish) (b : Bool) → is_wish other wish ≡ b → (is_wish other wish || has_wish w.refused other) ≡ true
        → has_wish (wished w.wanted) other ≡ true
    by other true h e = ap (has_wish (wished w.wanted)) (equal_is other wish h) ∙ new.is_wished
    by other false h e =
        tidy.refused_is_wished other (or-true (is_wish other wish) (has_wish w.refused other) e h)

    too : (other : Wish) (b : Bool) → is_wish other wish ≡ b → (is_wish other wish || has_wish w.refused other) ≡ true
        → is_installed w.installed other ≡ false
    too other true h e = ap (is_installed w.installed) (equal_is other wish h) ∙ new.not_installed
    too other false h e =
        tidy.refused_is_not_installed other (or-true (is_wish other wish) (has_wish w.refused other) e h)

pub cleared_is_tidy : (wish : Wish) (w : Wishes) → IsTidy w → IsTidy (cleared wish w)
cleared_is_tidy wish w tidy = record {
  installed_in_order = IsStrictlySortedBy-filter (on (λ (r : EventRequest). r.wish) wish_cmp)
      (λ r. not (is_wish wish r.wish)) w.installed tidy.installed_in_order;
  refused_in_order = tidy.refused_in_order;
  refused_is_wished = tidy.refused_is_wished;
  refused_is_not_installed = λ other e. any-filter (λ r. not (is_wish wish r.wish)) (λ r. is_wish other r.wish)
      w.installed (tidy.refused_is_not_installed other e);
}

-- whatever comes of the next change
pub settled_is_tidy : (outcome : Settled) (w : Wishes) → IsTidy w → IsTidy (settled outcome w)
settled_is_tidy outcome w tidy = by (next_change w) refl
  where
    if-cleared : (r : EventRequest) (b : Bool) → IsTidy (if b then cleared r.wish w else w)
    if-cleared r true = cleared_is_tidy r.wish w tidy
    if-cleared r false = tidy

    set : (wish : Wish) (o : Settled) → IsNewSet w wish → IsTidy (set_by wish o w)
    set wish outcomes.Cleared new = tidy
    set wish (outcomes.Installed request) new = installed_is_tidy request wish w tidy new
    set wish (outcomes.Refused code) new = refused_is_tidy wish w tidy new

    by : (change : Option WishChange) → next_change w ≡ change → IsTidy (settled_by change outcome w)
    by None e = tidy
    by (Some (clears r)) e = if-cleared r (is_cleared outcome)
    by (Some (sets wish)) e = set wish outcome (new_set w wish e)
