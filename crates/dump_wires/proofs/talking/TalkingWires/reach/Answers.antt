use Rattle.std.proofs.Common.{None, refl}
use Rattle.dump_wires.proofs.FollowLaws.{opens_follows}
use Rattle.dump_wires.proofs.OverLaws.{fails_to_reach}
use Rattle.dump_wires.proofs.talking.TalkingWires.reach.Goals as goal

pub returns-clause-err : goal.returns-clause-err
returns-clause-err g c =
    fails_to_reach (g.W.Wires.outside c.args.self.now.inner.now) c.args.self.now.desk.now c.open_nothing.new.self
    c.args.target c.open_nothing.ensures

pub returns-clause-stays : goal.returns-clause-stays
returns-clause-stays g c = (
  refl,
  (
    refl,
    (
      g.met.W.Wires.stays_so c.args.self.now.inner.now,
      opens_follows (g.W.Wires.outside c.args.self.now.inner.now) c.args.self.now.desk.now c.open_nothing.new.self
          None c.args.target c.open_nothing.ensures,
    ),
  ),
)
