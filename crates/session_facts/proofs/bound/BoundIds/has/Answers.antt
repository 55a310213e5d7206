use Rattle.std.proofs.Common.{◌∙◌}
use Rattle.session_facts.proofs.BoundLaws.{has_is}
use Rattle.session_facts.proofs.bound.BoundIds.has.Goals as goal

pub returns : goal.returns
returns c = rw (← c.self.view_is) (c.contains.ensures ∙ has_is c.self.inside.ids.keys c.args.id)
