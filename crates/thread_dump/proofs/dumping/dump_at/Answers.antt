use Rattle.thread_dump.proofs.DumpLaws.{is_dump}
use Rattle.thread_dump.proofs.dumping.dump_at.Goals as goal

pub returns-clause-dump : goal.returns-clause-dump
returns-clause-dump g c =
    is_dump c.args.limits.now (g.W.Wires.outside c.args.wires.now) (g.W.Wires.outside c.serve_over-ending.new.wires)
    c.args.desk c.serve_over-ending.new.desk c.requires.new c.serve_over-ending.result
    c.serve_over-ending.ensures.serves c.requires.limits c.end_of.result c.end_of.ensures

pub returns-clause-counts : goal.returns-clause-counts
returns-clause-counts g c = c.serve_over-ending.ensures.serves.follows.counts

pub returns-clause-asked : goal.returns-clause-asked
returns-clause-asked g c = c.serve_over-ending.ensures.serves.follows.asked
