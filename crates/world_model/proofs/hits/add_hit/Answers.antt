-- A request of this number stays.
use Rattle.std.proofs.Common.{sym}
use Rattle.world_model.proofs.HitLaws.{no_hit_place}
use Rattle.world_model.proofs.hits.add_hit.Goals as goal

pub returns-in_default : goal.returns-in_default
returns-in_default c =
    sym (no_hit_place c.args.hit c.args.those.now.items (rw c.deref.ensures.value at c.in_default.ensures.place))
