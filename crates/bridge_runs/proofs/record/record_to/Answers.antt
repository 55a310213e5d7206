use Rattle.bridge_runs.specs.Recording.{Records}
use Rattle.bridge_runs.proofs.record.record_to.Goals as goal

pub returns-in-Ok-record : goal.returns-in-Ok-record
returns-in-Ok-record g c =
    Records.records c.in-Ok.ensures.ok (rw c.standard.ensures.values at c.record.ensures.keeps)
    (rw c.standard.ensures.values at c.in-Ok-record.ensures.record) c.keep.ensures

pub returns-in-Err-record : goal.returns-in-Err-record
returns-in-Err-record g c =
    Records.forgets c.in-Ok.ensures.ok (rw c.standard.ensures.values at c.record.ensures.keeps)

pub returns-in-Err : goal.returns-in-Err
returns-in-Err g c = Records.fails_to_open c.in-Err.ensures.err
