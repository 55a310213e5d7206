-- What stands in its slot.
use Rattle.std.proofs.Common.{◌∙◌, ap, sym}
use Rattle.wish_sets.proofs.SortedLaws.{refuses, refused_slot}
use Rattle.wish_sets.proofs.standing.is_refused.Goals as goal

pub returns-in-Some : goal.returns-in-Some
returns-in-Some c =
    ap (refuses c.args.wish.now) c.in-Some.ensures
    ∙ sym (refused_slot c.args.wish.now c.args.slots.now c.requires)

pub returns-in-None : goal.returns-in-None
returns-in-None c =
    ap (refuses c.args.wish.now) c.in-None.ensures
    ∙ sym (refused_slot c.args.wish.now c.args.slots.now c.requires)
