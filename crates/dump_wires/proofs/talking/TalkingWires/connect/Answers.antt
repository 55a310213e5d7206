use Rattle.std.proofs.Common.{Some, refl}
use Rattle.dump_wires.proofs.FollowLaws.{opens_follows}
use Rattle.dump_wires.proofs.OverLaws.{fails_to_connect}
use Rattle.dump_wires.proofs.talking.TalkingWires.connect.Goals as goal

pub returns-clause-err : goal.returns-clause-err
returns-clause-err g c =
    fails_to_connect (g.W.Wires.outside c.args.self.now.inner.now) c.args.self.now.desk.now c.open_nothing.new.self
    c.args.listen c.args.target c.open_nothing.ensures

pub returns-clause-stays : goal.returns-clause-stays
returns-clause-stays g c = (
  refl,
  (
    refl,
    (
      g.met.W.Wires.stays_so c.args.self.now.inner.now,
      opens_follows (g.W.Wires.outside c.args.self.now.inner.now) c.args.self.now.desk.now c.open_nothing.new.self
          (Some c.args.listen) c.args.target c.open_nothing.ensures,
    ),
  ),
)
