use Rattle.std.proofs.Common.{rules, sym, ◌∙◌}
use Rattle.thread_dump.proofs.DumpLaws.{serves_same}
use Rattle.thread_dump.proofs.dumping.serve_over.Goals as goal

pub returns-clause-serves : goal.returns-clause-serves
returns-clause-serves g c =
    serves_same (record {
      session = c.serve.ensures.session;
      blames = c.serve.ensures.blames;
      follows = c.serve.ensures.stays.1.1.1;
    }) (search rules) (sym c.new-talking.ensures.desk) (search rules)
    (c.desk-1.given.1 (sym c.new-talking.ensures.same_desk ∙ sym c.serve.ensures.stays.1.0))
