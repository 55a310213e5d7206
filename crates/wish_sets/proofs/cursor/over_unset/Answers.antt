-- A slot that has not to be changed is passed over, and counted.
use Rattle.std.proofs.Common.{◌∙◌, ap, arith}
use Rattle.wish_sets.specs.Cursors.{is_wanted}
use Rattle.wish_sets.specs.Slots.{is_unset}
use Rattle.wish_sets.proofs.CursorLaws.{none_within, counted_few, unset_over}
use Rattle.wish_sets.proofs.cursor.over_unset.Goals as goal

pub with_one-wished-requires : goal.with_one-wished-requires
with_one-wished-requires c =
    let few = counted_few is_wanted c.args.cursor.unset c.args.slots.now in
    let within = none_within is_unset c.args.cursor.unset c.args.slots.now c.requires.past.unset in
    omega (arith, few, within, c.requires.past.wished, c.requires.few)

pub returns-clause-past : goal.returns-clause-past
returns-clause-past c =
    unset_over c.args.cursor c.args.slots.now c.index-slots-cursor.result c.index-slots-cursor.result.wished
    c.with_one-wished.result c.requires.past (omega (arith, c.if-cursor-slots.false))
    (c.if-is_unset.ensures ∙ ap is_unset c.index-slots-cursor.is)
    (ap is_wanted c.index-slots-cursor.is)
    c.with_one-wished.ensures
