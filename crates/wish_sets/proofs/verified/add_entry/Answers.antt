-- An entry of this id stays.
use Rattle.std.proofs.Common.{sym}
use Rattle.wish_sets.proofs.VerifiedLaws.{no_entry_place}
use Rattle.wish_sets.proofs.verified.add_entry.Goals as goal

pub returns-in_default : goal.returns-in_default
returns-in_default c =
    sym (no_entry_place c.args.entry c.args.found.now.items (rw c.deref.ensures.value at c.in_default.ensures.place))
