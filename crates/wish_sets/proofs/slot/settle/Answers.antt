-- The cursor is as before, but for what was installed, and goes on from there.
use Rattle.std.proofs.Common.{arith}
use Rattle.wish_sets.specs.Cursors.{is_held}
use Rattle.wish_sets.specs.Slots.{is_late, awaits, marked}
use Rattle.wish_sets.proofs.FirstLaws.{length-changed}
use Rattle.wish_sets.proofs.CursorLaws.{none_awaits, none_within, counted_few, past_marked}
use Rattle.wish_sets.proofs.slot.settle.Goals as goal

pub settle_slots-found-requires : goal.settle_slots-found-requires
settle_slots-found-requires c =
    rw c.start_of.ensures (none_awaits c.args.cursor.now c.args.slots.now.items c.args.outcome c.requires.past)

pub after-requires : goal.after-requires
after-requires c =
    let few = counted_few is_held c.args.cursor.now.late c.args.slots.now.items in
    let within = none_within is_late c.args.cursor.now.late c.args.slots.now.items c.requires.past.late in
    omega (arith, few, within, c.requires.past.installed, c.requires.few)

pub onward-requires-clause-past : goal.onward-requires-clause-past
onward-requires-clause-past c =
    rw (c.after.ensures, c.deref.ensures.value, c.settle_slots-found.ensures.marked)
    (past_marked c.args.cursor.now c.args.slots.now.items c.args.outcome c.settle_slots-found.result c.requires.past
    c.settle_slots-found.ensures.place)

pub onward-requires-clause-few : goal.onward-requires-clause-few
onward-requires-clause-few c =
    rw (
      c.deref.ensures.value,
      c.settle_slots-found.ensures.marked,
      length-changed (awaits c.args.outcome) (marked c.args.outcome) c.args.slots.now.items,
    ) c.requires.few
