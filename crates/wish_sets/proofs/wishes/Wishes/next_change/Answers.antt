-- The next change is the one that the slots give.
use Rattle.std.proofs.Common.{◌≡◌, ℕ, ap, ◌∙◌, refl, Result, Ok, Err}
use Rattle.std.specs.Prelude.{option_map}
use Rattle.std.specs.Result.{result_err, result_map_both}
use Rattle.wish_sets.specs.declared.change.Change.{Change}
use Rattle.wish_sets.specs.Slots.{change_shown, place_shown}
use Rattle.wish_sets.specs.Wishes.{WishChange}
use Rattle.wish_sets.proofs.SlotLaws.{change_of, place_of}
use Rattle.wish_sets.proofs.KeptLaws.{next_is, place_is}
use Rattle.wish_sets.proofs.wishes.Wishes.next_change.Goals as goal

-- what is found is shown
abbrev shown : Result ℕ Change → Result ℕ (ℕ × WishChange)
shown r = result_map_both (λ place. place) (λ change. (place_shown change, change_shown change)) r

shown_change : (r : Result ℕ Change) → option_map change_shown (result_err r) ≡ change_of (shown r)
shown_change (Ok place) = refl
shown_change (Err change) = refl

shown_place : (r : Result ℕ Change) → option_map place_shown (result_err r) ≡ place_of (shown r)
shown_place (Ok place) = refl
shown_place (Err change) = refl

pub returns-in-Ok-clause-change : goal.returns-in-Ok-clause-change
returns-in-Ok-clause-change c =
    let next = next_is c.self.inside.wants c.self.inside.slots.items c.self.inside.fixed c.self.invariant.0 in
    let none = rw (c.deref.ensures.value) at c.in-Ok.ensures in
    let found = rw (c.deref-in-Ok.ensures.value) at c.unset.ensures in
    rw (← c.self.view_is, next, ← none) (ap (option_map change_shown) c.err.ensures.value
    ∙ (shown_change c.unset.result ∙ ap change_of found))

pub returns-in-Ok-clause-place : goal.returns-in-Ok-clause-place
returns-in-Ok-clause-place c =
    let next = place_is c.self.inside.wants c.self.inside.slots.items c.self.inside.fixed c.self.invariant.0 in
    let none = rw (c.deref.ensures.value) at c.in-Ok.ensures in
    let found = rw (c.deref-in-Ok.ensures.value) at c.unset.ensures in
    rw (← c.self.view_is, next, ← none) (ap (option_map place_shown) c.err.ensures.value
    ∙ (shown_place c.unset.result ∙ ap place_of found))

pub returns-in-Err-clause-change : goal.returns-in-Err-clause-change
returns-in-Err-clause-change c =
    let next = next_is c.self.inside.wants c.self.inside.slots.items c.self.inside.fixed c.self.invariant.0 in
    let found = rw (c.deref.ensures.value) at c.in-Err.ensures in
    rw (← c.self.view_is, next, ← found) refl

pub returns-in-Err-clause-place : goal.returns-in-Err-clause-place
returns-in-Err-clause-place c =
    let next = place_is c.self.inside.wants c.self.inside.slots.items c.self.inside.fixed c.self.invariant.0 in
    let found = rw (c.deref.ensures.value) at c.in-Err.ensures in
    rw (← c.self.view_is, next, ← found) refl
