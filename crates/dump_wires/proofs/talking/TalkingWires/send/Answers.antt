use Rattle.std.proofs.Common.{ℕ, List, refl, subst}
use Rattle.dump_wires.proofs.FollowLaws.{fails_follows, passes_follows, sends_follows}
use Rattle.dump_wires.proofs.OverLaws.{same_fails, same_passes}
use Rattle.dump_wires.specs.Desks.{Passes}
use Rattle.dump_wires.proofs.talking.TalkingWires.send.Goals as goal

pub returns-in-Client-clause-stays : goal.returns-in-Client-clause-stays
returns-in-Client-clause-stays g c = (
  refl,
  (
    refl,
    (
      g.met.W.Wires.stays_so c.args.self.now.inner.now,
      sends_follows (g.W.Wires.outside c.args.self.now.inner.now) c.args.self.now.desk.now c.take.new.self
          c.args.bytes.now c.take.result c.take.ensures.takes c.take.ensures.refuses,
    ),
  ),
)

pub returns-in-Ok-send-clause-stays : goal.returns-in-Ok-send-clause-stays
returns-in-Ok-send-clause-stays g c = (
  refl,
  (
    refl,
    (
      c.send.ensures.stays,
      passes_follows (g.W.Wires.outside c.args.self.now.inner.now) (g.W.Wires.outside c.send.new.self)
          c.args.self.now.desk.now c.sent.new.self c.args.bytes.now c.in-Ok-send.ensures.ok
          (same_passes c.args.self.now.desk.now c.prepare.new.self c.sent.new.self c.args.bytes.now
          (record { outside = c.prepare.ensures.same; talk = c.prepare.ensures.talk; refused = c.prepare.ensures.refused })
          (subst (λ (copy : List ℕ). Passes copy c.prepare.new.self c.sent.new.self) c.in-Ok.ensures.copy
          c.sent.ensures.passes)),
    ),
  ),
)

pub returns-in-Err-send-clause-stays : goal.returns-in-Err-send-clause-stays
returns-in-Err-send-clause-stays g c = (
  refl,
  (
    refl,
    (
      c.send.ensures.stays,
      fails_follows (g.W.Wires.outside c.args.self.now.inner.now) (g.W.Wires.outside c.send.new.self)
          c.args.self.now.desk.now c.fail_target.new.self c.args.bytes.now c.in-Err-send.ensures.err
          (same_fails c.args.self.now.desk.now c.prepare.new.self c.fail_target.new.self
          (record { outside = c.prepare.ensures.same; talk = c.prepare.ensures.talk; refused = c.prepare.ensures.refused })
          c.fail_target.ensures.fails),
    ),
  ),
)
