-- The slot at its place is changed.
use Rattle.std.proofs.Common.{◌≡◌, ◌+◌, ℕ, ◌∙◌, Bool, ap, arith, set, Some, sym}
use Rattle.wish_sets.specs.declared.slot.Slot.{Slot}
use Rattle.wish_sets.specs.declared.wish.Wish.{Wish}
use Rattle.wish_sets.specs.Order.{is_wish}
use Rattle.wish_sets.specs.Slots.{counted_slot}
use Rattle.wish_sets.proofs.FirstLaws.{changed_at, first_nowhere, unchanged}
use Rattle.wish_sets.proofs.CountLaws.{room_at}
use Rattle.wish_sets.proofs.counts.raise.Goals as goal

abbrev is_its : Wish → Slot → Bool
is_its wish slot = is_wish wish slot.wish

abbrev change : Slot → Slot
change slot = counted_slot (slot.count + 1) slot

at_front : (n : ℕ) → n ≡ 0 + n
at_front n = omega arith

pub raise-requires : goal.raise-requires
raise-requires c =
    room_at c.args.wish.now 0 c.args.slots.now c.in-Some.at c.index-slots-at.result c.requires.room
    (sym c.place_of.ensures.place ∙ (c.in-Some.is ∙ ap Some (at_front c.in-Some.at)))

pub returns-in_default : goal.returns-in_default
returns-in_default c =
    sym (unchanged (is_its c.args.wish.now) change c.args.slots.now
    (first_nowhere (is_its c.args.wish.now) 0 c.args.slots.now (let h = c.place_of.ensures.place in cc)))

pub returns : goal.returns
returns c =
    ap (set c.args.slots.now c.in-Some.at) c.raise.ensures
    ∙ changed_at (is_its c.args.wish.now) change 0 c.args.slots.now c.in-Some.at c.index-slots-at.result
    (sym c.place_of.ensures.place ∙ (c.in-Some.is ∙ ap Some (at_front c.in-Some.at)))
