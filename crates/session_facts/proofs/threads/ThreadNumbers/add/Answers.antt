use Rattle.std.proofs.Common.{◌∙◌}
use Rattle.session_facts.proofs.ThreadLaws.{inserted}
use Rattle.session_facts.proofs.threads.ThreadNumbers.add.Goals as goal

pub returns : goal.returns
returns c = rw (← c.self.view_is) (c.in_ok-insert.ensures.keys ∙ inserted c.self.inside.threads.keys c.args.thread)
