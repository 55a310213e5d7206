use Rattle.std.proofs.Common.{refl}
use Rattle.session_recorder.proofs.SendLaws.{fails_over, loses_over, same_closes, same_fails, same_sends}
use Rattle.session_recorder.proofs.TieLaws.{tied_by_failing, tied_by_refusing, tied_by_sending}
use Rattle.session_recorder.specs.declared.side_state.SideState.TheVariants.{Lost}
use Rattle.session_recorder.proofs.recorder.RecorderWires.send.Goals as goal

pub returns-in-Ok-send-clause-stays : goal.returns-in-Ok-send-clause-stays
returns-in-Ok-send-clause-stays g c = (
  refl,
  (
    refl,
    (
      c.send.ensures.stays,
      tied_by_sending (g.W.Wires.outside c.args.self.now.inner.now) (g.W.Wires.outside c.send.new.self)
          c.args.self.now.book.now c.add.new.self c.args.side c.args.bytes.now c.in-Ok-send.ensures.ok
          (same_sends c.args.self.now.book.now c.prepare.new.self c.add.new.self c.in-Ok.entry c.args.side c.args.bytes.now
          c.in-Ok.ensures.entry c.in-Ok.ensures.same c.add.ensures),
    ),
  ),
)

pub returns-in-Err-send-clause-err : goal.returns-in-Err-send-clause-err
returns-in-Err-send-clause-err g c =
    fails_over (g.W.Wires.outside c.args.self.now.inner.now) (g.W.Wires.outside c.send.new.self)
    c.args.self.now.book.now c.fail.new.self c.args.side c.args.bytes.now c.in-Err-send.ensures.err
    (same_closes c.args.side c.args.self.now.book.now c.prepare.new.self c.fail.new.self c.in-Ok.ensures.same
    c.fail.ensures) c.requires.is_open c.requires.some_bytes

pub returns-in-Err-send-clause-stays : goal.returns-in-Err-send-clause-stays
returns-in-Err-send-clause-stays g c = (
  refl,
  (
    refl,
    (
      c.send.ensures.stays,
      tied_by_failing (g.W.Wires.outside c.args.self.now.inner.now) (g.W.Wires.outside c.send.new.self)
          c.args.self.now.book.now c.fail.new.self c.args.side c.args.bytes.now c.in-Err-send.ensures.err
          (same_closes c.args.side c.args.self.now.book.now c.prepare.new.self c.fail.new.self c.in-Ok.ensures.same
          c.fail.ensures),
    ),
  ),
)

pub returns-in-Err-clause-err : goal.returns-in-Err-clause-err
returns-in-Err-clause-err g c =
    loses_over (g.W.Wires.outside c.args.self.now.inner.now) c.args.self.now.book.now c.lose.new.self c.args.side
    c.args.bytes.now (same_fails c.args.side c.args.self.now.book.now c.prepare.new.self c.lose.new.self Lost
    c.in-Err.ensures.same c.lose.ensures) c.requires.is_open c.requires.some_bytes

pub returns-in-Err-clause-stays : goal.returns-in-Err-clause-stays
returns-in-Err-clause-stays g c = (
  refl,
  (
    refl,
    (
      g.met.W.Wires.stays_so c.args.self.now.inner.now,
      tied_by_refusing (g.W.Wires.outside c.args.self.now.inner.now) c.args.self.now.book.now c.lose.new.self c.args.side
          (same_fails c.args.side c.args.self.now.book.now c.prepare.new.self c.lose.new.self Lost c.in-Err.ensures.same
          c.lose.ensures),
    ),
  ),
)
