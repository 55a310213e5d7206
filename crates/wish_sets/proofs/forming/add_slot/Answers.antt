-- The slot stands at its place.
use Rattle.std.proofs.Common.{◌≡◌, ◌+◌, ◌<◌, ◌^◌, length, sym, ap, ◌∙◌, Some, arith}
use Rattle.wish_sets.proofs.FormingLaws.{at_its_place, has_a_place, has_now, no_slot_yet, wider}
use Rattle.wish_sets.proofs.forming.add_slot.Goals as goal

pub returns-in_default-clause-ok : goal.returns-in_default-clause-ok
returns-in_default-clause-ok c =
    has_a_place c.args.wish.now 0 c.args.slots.now.items
    (sym (rw c.deref.ensures.value at c.in_default.ensures.place))

pub returns-clause-wider : goal.returns-clause-wider
returns-clause-wider c =
    let here : c.in-Some.at ≡ 0 + c.in-Some.at = omega arith in
    let place = rw c.deref.ensures.value at c.in-Some.ensures.place in
    let count : length c.deref.result.now ≡ length c.args.slots.now.items = ap length c.deref.ensures.value in
    let room : length c.args.slots.now.items + 6 < 2 ^ 31 = omega (
      arith,
      count,
      c.deref.ensures.len,
      c.len.ensures,
      c.if-len-ge-MOST.false,
    ) in
    rw c.in_ok-insert.ensures.items (rw c.new.ensures (rw c.in_ok-copy.ensures
    (rw (at_its_place c.args.wish.now 0 c.args.slots.now.items c.in-Some.at (sym place ∙ ap Some here))
    (wider c.args.wish.now c.args.slots.now.items c.requires.in_order c.requires.early room
    (no_slot_yet c.args.wish.now 0 c.args.slots.now.items c.in-Some.at c.requires.in_order.sorted (sym place))))))

pub returns-clause-ok : goal.returns-clause-ok
returns-clause-ok c =
    let here : c.in-Some.at ≡ 0 + c.in-Some.at = omega arith in
    let place = rw c.deref.ensures.value at c.in-Some.ensures.place in
    rw c.in_ok-insert.ensures.items (rw c.new.ensures (rw c.in_ok-copy.ensures
    (rw (at_its_place c.args.wish.now 0 c.args.slots.now.items c.in-Some.at (sym place ∙ ap Some here))
    (has_now c.args.wish.now c.args.slots.now.items))))
