-- the bytes that go on with the line lead on in it
use Rattle.std.proofs.Common.{arith}
use Rattle.dap_frames.specs.declared.usual.TheConstants.{USUAL_LINE}
use Rattle.dap_frames.proofs.UsualLines.{read-line}
use Rattle.dap_frames.proofs.usual.past_usual.Goals as goal

pub returns-in-Some-clause-said : goal.returns-in-Some-clause-said
returns-in-Some-clause-said c =
    read-line USUAL_LINE c.args.bytes.now c.in-Some.read c.usual_count-count.result c.args.start c.usual_reading.result
    (omega arith) c.in-Some.ensures.said c.usual_reading.ensures c.usual_count-count.ensures.same
    c.usual_count-count.ensures.within
