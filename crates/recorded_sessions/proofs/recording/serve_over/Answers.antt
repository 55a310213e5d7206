use Rattle.std.proofs.Common.{rules, sym, ◌∙◌}
use Rattle.recorded_sessions.proofs.RecordLaws.{serves_same}
use Rattle.recorded_sessions.proofs.recording.serve_over.Goals as goal

pub returns-clause-serves : goal.returns-clause-serves
returns-clause-serves g c =
    serves_same (record {
      session = c.serve.ensures.session;
      keeps = c.serve.ensures.keeps;
      blames = c.serve.ensures.blames;
      idles = c.serve.ensures.idles;
      tied = c.serve.ensures.stays.1.1.1;
    }) (search rules) (sym c.new-recorder.ensures.book) (search rules)
    (c.book-1.given.1 (sym c.new-recorder.ensures.same_book ∙ sym c.serve.ensures.stays.1.0))
