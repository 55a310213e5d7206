use Rattle.std.proofs.Common.{refl, arith}
use Rattle.script_files.proofs.CutLaws.{read_next, read_byte, stops_at, IsStopped-same}
use Rattle.script_files.proofs.read.read_all.Goals.{then-bytes-end-eq10+in_ok-take_line, else-bytes-end-eq10}
use Rattle.script_files.proofs.read.read_all.Goals as goal

pub loop-end-init : goal.loop-end-init
loop-end-init c = record { in_range = omega arith; goes_on = refl }

pub loop-end-preserved : goal.loop-end-preserved
loop-end-preserved c = elim c.if-bytes-end-eq10.branch [
  | then-bytes-end-eq10+in_ok-take_line w ↦
      rw (w.begin-is, w.reading-is) (record {
        in_range = omega arith;
        goes_on = read_next _ _ _ _ c.loop-end.begin _ _ c.loop-end-test.true w.if-bytes-end-eq10.true
            w.in_ok-take_line.ensures (omega arith) c.loop-end.invariant.goes_on;
      })
  | else-bytes-end-eq10 w ↦
      rw (w.begin-is, w.reading-is) (record {
        in_range = omega (arith, c.loop-end.invariant.in_range);
        goes_on = read_byte _ _ _ _ _ c.loop-end.invariant.in_range c.loop-end-test.true w.if-bytes-end-eq10.false
            c.loop-end.invariant.goes_on;
      })
]
