-- A slot that has not to be changed is passed over, and counted.
use Rattle.std.proofs.Common.{◌∙◌, ap, arith}
use Rattle.wish_sets.specs.Cursors.{is_held}
use Rattle.wish_sets.specs.Slots.{is_late}
use Rattle.wish_sets.proofs.CursorLaws.{none_within, counted_few, late_over}
use Rattle.wish_sets.proofs.cursor.over_late.Goals as goal

pub with_one-installed-requires : goal.with_one-installed-requires
with_one-installed-requires c =
    let few = counted_few is_held c.args.cursor.late c.args.slots.now in
    let within = none_within is_late c.args.cursor.late c.args.slots.now c.requires.past.late in
    omega (arith, few, within, c.requires.past.installed, c.requires.few)

pub returns-clause-past : goal.returns-clause-past
returns-clause-past c =
    late_over c.args.cursor c.args.slots.now c.index-slots-cursor.result c.is_some.result
    c.with_one-installed.result c.requires.past (omega (arith, c.if-cursor-slots.false))
    (c.if-is_late.ensures ∙ ap is_late c.index-slots-cursor.is)
    (c.is_some.ensures ∙ ap is_held c.index-slots-cursor.is)
    c.with_one-installed.ensures
