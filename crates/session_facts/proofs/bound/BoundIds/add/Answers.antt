use Rattle.std.proofs.Common.{◌∙◌}
use Rattle.session_facts.proofs.BoundLaws.{inserted}
use Rattle.session_facts.proofs.bound.BoundIds.add.Goals as goal

pub returns : goal.returns
returns c = rw (← c.self.view_is) (c.in_ok-insert.ensures.keys ∙ inserted c.self.inside.ids.keys c.args.id)
