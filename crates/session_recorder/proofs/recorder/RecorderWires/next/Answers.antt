use Rattle.std.proofs.Common.{refl}
use Rattle.session_recorder.proofs.HeardLaws.{hears_over}
use Rattle.session_recorder.proofs.TieLaws.{tied_by_hearing}
use Rattle.session_recorder.proofs.recorder.RecorderWires.next.Goals as goal

pub returns-clause-hears : goal.returns-clause-hears
returns-clause-hears g c =
    hears_over (g.W.Wires.outside c.args.self.now.inner.now) (g.W.Wires.outside c.next-happening.new.self)
    c.args.self.now.book.now c.hear.new.self c.next-happening.new.buffer c.next-happening.result c.hear.result
    c.next-happening.ensures.hears c.hear.ensures c.requires.some_open

pub returns-clause-stays : goal.returns-clause-stays
returns-clause-stays g c = (
  refl,
  (
    refl,
    (
      c.next-happening.ensures.stays,
      tied_by_hearing (g.W.Wires.outside c.args.self.now.inner.now) (g.W.Wires.outside c.next-happening.new.self)
          c.args.self.now.book.now c.hear.new.self c.next-happening.new.buffer c.next-happening.result c.hear.result
          c.next-happening.ensures.hears c.hear.ensures,
    ),
  ),
)
