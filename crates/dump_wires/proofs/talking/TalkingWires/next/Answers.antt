use Rattle.std.proofs.Common.{refl, subst}
use Rattle.dump_wires.proofs.FitLaws.{has_fits}
use Rattle.dump_wires.proofs.FollowLaws.{hears_follows, quiet_follows, turns_follows}
use Rattle.dump_wires.proofs.OverLaws.{given_over, heard_over}
use Rattle.dump_wires.specs.Desks.{HearsAs, outside_of}
use Rattle.dump_wires.specs.declared.desk.Desk.{Desk}
use Rattle.wire_core.specs.Outside.{Hears}
use Rattle.wire_core.specs.declared.outside.Happening.TheVariants.{Quiet}
use Rattle.dump_wires.proofs.talking.TalkingWires.next.Goals as goal

pub returns-in-Some-clause-hears : goal.returns-in-Some-clause-hears
returns-in-Some-clause-hears g c =
    given_over (g.W.Wires.outside c.args.self.now.inner.now) c.args.self.now.desk.now c.turn.new.self c.turn.new.buffer
    c.in-Some.happening c.requires.some_open c.in-Some.ensures.hears

pub returns-in-Some-clause-stays : goal.returns-in-Some-clause-stays
returns-in-Some-clause-stays g c = (
  refl,
  (
    refl,
    (
      g.met.W.Wires.stays_so c.args.self.now.inner.now,
      turns_follows (g.W.Wires.outside c.args.self.now.inner.now) c.args.self.now.desk.now c.turn.new.self
          c.turn.new.buffer c.in-Some.happening c.in-Some.ensures.turns,
    ),
  ),
)

-- where nothing was due, the desk is as it was
pub returns-then-not-target_open-clause-hears : goal.returns-then-not-target_open-clause-hears
returns-then-not-target_open-clause-hears g c =
    given_over (g.W.Wires.outside c.args.self.now.inner.now) c.args.self.now.desk.now c.hear-quiet.new.self
    c.turn.new.buffer c.hear-quiet.result c.requires.some_open
    (subst (λ (d : Desk). Hears (outside_of d) (outside_of c.hear-quiet.new.self) c.turn.new.buffer c.hear-quiet.result)
    c.in_default.ensures.turns c.hear-quiet.ensures.hears)

pub returns-then-not-target_open-clause-stays : goal.returns-then-not-target_open-clause-stays
returns-then-not-target_open-clause-stays g c = (
  refl,
  (
    refl,
    (
      g.met.W.Wires.stays_so c.args.self.now.inner.now,
      quiet_follows (g.W.Wires.outside c.args.self.now.inner.now) c.args.self.now.desk.now c.hear-quiet.new.self
          c.turn.new.buffer c.hear-quiet.result
          (subst (λ (d : Desk). HearsAs Quiet d c.hear-quiet.new.self c.turn.new.buffer c.hear-quiet.result)
          c.in_default.ensures.turns c.hear-quiet.ensures.answers),
    ),
  ),
)

pub returns-clause-hears : goal.returns-clause-hears
returns-clause-hears g c =
    heard_over (g.W.Wires.outside c.args.self.now.inner.now) (g.W.Wires.outside c.next-happening.new.self)
    c.args.self.now.desk.now c.hear-heard.new.self c.next-happening.new.buffer c.next-happening.result c.hear-heard.result
    c.requires.some_open c.next-happening.ensures.hears
    (subst (λ (d : Desk). HearsAs c.next-happening.result d c.hear-heard.new.self c.next-happening.new.buffer
    c.hear-heard.result) c.in_default.ensures.turns c.hear-heard.ensures.answers)
    (subst (λ (d : Desk). Hears (outside_of d) (outside_of c.hear-heard.new.self) c.next-happening.new.buffer
    c.hear-heard.result) c.in_default.ensures.turns c.hear-heard.ensures.hears)

pub returns-clause-stays : goal.returns-clause-stays
returns-clause-stays g c = (
  refl,
  (
    refl,
    (
      c.next-happening.ensures.stays,
      hears_follows (g.W.Wires.outside c.args.self.now.inner.now) (g.W.Wires.outside c.next-happening.new.self)
          c.args.self.now.desk.now c.hear-heard.new.self c.next-happening.new.buffer c.next-happening.result
          c.hear-heard.result
          (has_fits (g.W.Wires.outside c.args.self.now.inner.now) c.args.self.now.desk.now c.requires.some_open)
          c.next-happening.ensures.hears
          (subst (λ (d : Desk). HearsAs c.next-happening.result d c.hear-heard.new.self c.next-happening.new.buffer
          c.hear-heard.result) c.in_default.ensures.turns c.hear-heard.ensures.answers),
    ),
  ),
)
