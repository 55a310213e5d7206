-- An entry of this id stays.
use Rattle.std.proofs.Common.{sym}
use Rattle.wish_sets.proofs.StandingLaws.{no_id_place}
use Rattle.wish_sets.proofs.standing.add_entry.Goals as goal

pub returns-in_default : goal.returns-in_default
returns-in_default c =
    sym (no_id_place c.args.entry c.args.found.now.items (rw c.deref.ensures.value at c.in_default.ensures.place))
