use Rattle.recorded_sessions.proofs.RecordLaws.{is_record, keeps_inside, on_ok}
use Rattle.recorded_sessions.specs.declared.recording.Recorded.{Recorded}
use Rattle.recorded_sessions.specs.Records.{IsRecordOf}
use Rattle.recorded_sessions.proofs.recording.record.Goals as goal

pub returns-clause-record : goal.returns-clause-record
returns-clause-record g c =
    on_ok c.record_of.result c.record_of.ensures (λ (r : Recorded) (is : IsRecordOf c.serve_over-ending.result
    c.serve_over-ending.new.book r). is_record c.args.limits.now (g.W.Wires.outside c.args.wires.now)
    (g.W.Wires.outside c.serve_over-ending.new.wires) c.in_ok-book.book c.serve_over-ending.new.book
    c.in_ok-book.ensures c.requires.client_open c.requires.target_open c.serve_over-ending.result
    c.serve_over-ending.ensures.serves r is)

pub returns-clause-keeps : goal.returns-clause-keeps
returns-clause-keeps g c =
    keeps_inside c.args.limits.now.turns (g.W.Wires.outside c.args.wires.now)
    (g.W.Wires.outside c.serve_over-ending.new.wires) c.in_ok-book.book c.serve_over-ending.new.book
    c.requires.client_open c.requires.target_open c.serve_over-ending.ensures.serves.keeps
    c.serve_over-ending.ensures.serves.tied.counts
