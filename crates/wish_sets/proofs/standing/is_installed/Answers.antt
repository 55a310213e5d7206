-- What stands in its slot.
use Rattle.std.proofs.Common.{◌∙◌, ap, sym}
use Rattle.wish_sets.proofs.SortedLaws.{holds, installed_slot}
use Rattle.wish_sets.proofs.standing.is_installed.Goals as goal

pub returns-in-Some : goal.returns-in-Some
returns-in-Some c =
    c.is_some.ensures ∙ (ap (holds c.args.wish.now) c.in-Some.ensures
    ∙ sym (installed_slot c.args.wish.now c.args.slots.now c.requires))

pub returns-in-None : goal.returns-in-None
returns-in-None c =
    ap (holds c.args.wish.now) c.in-None.ensures
    ∙ sym (installed_slot c.args.wish.now c.args.slots.now c.requires)
