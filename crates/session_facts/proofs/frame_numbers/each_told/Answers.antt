-- One more frame is told.
use Rattle.machine_model.specs.Frames.{frame_told}
use Rattle.session_facts.proofs.EachLaws.{one_more}
use Rattle.session_facts.proofs.frame_numbers.each_told.Goals as goal

pub loop-shown-preserved : goal.loop-shown-preserved
loop-shown-preserved c =
    rw c.in_ok-push.ensures.ok
    (one_more (frame_told c.args.options c.args.stop.now) c.loop-shown.told c.args.frames.now c.loop-shown.shown-index
    c.shown-item.result c.in_ok-frame_told.field-0 c.loop-shown-test.true c.shown-item.is c.in_ok-frame_told.ensures
    c.loop-shown.invariant)
