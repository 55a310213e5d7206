use Rattle.std.proofs.Common.{refl, arith}
use Rattle.ask_texts.proofs.CutLaws.{read_next, read_byte}
use Rattle.ask_texts.proofs.read.read_all.Goals.{then-bytes-end-eq10+in_ok-reading, else-bytes-end-eq10}
use Rattle.ask_texts.proofs.read.read_all.Goals as goal

pub loop-end-init : goal.loop-end-init
loop-end-init c = record { in_range = omega arith; goes_on = refl }

pub loop-end-preserved : goal.loop-end-preserved
loop-end-preserved c = elim c.if-bytes-end-eq10.branch [
  | then-bytes-end-eq10+in_ok-reading w ↦
      rw (w.reading-is, w.begin-is) (record {
        in_range = omega arith;
        goes_on = read_next _ _ _ _ c.loop-end.begin _ _ c.loop-end-test.true w.if-bytes-end-eq10.true
            w.in_ok-reading.ensures (omega arith) c.loop-end.invariant.goes_on;
      })
  | else-bytes-end-eq10 w ↦
      rw (w.reading-is, w.begin-is) (record {
        in_range = omega (arith, c.loop-end.invariant.in_range);
        goes_on = read_byte _ _ _ _ _ c.loop-end.invariant.in_range c.loop-end-test.true w.if-bytes-end-eq10.false
            c.loop-end.invariant.goes_on;
      })
]
