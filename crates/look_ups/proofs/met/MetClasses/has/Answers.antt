use Rattle.std.proofs.Common.{◌∙◌}
use Rattle.look_ups.proofs.MetLaws.{was_met}
use Rattle.look_ups.proofs.met.MetClasses.has.Goals as goal

pub returns : goal.returns
returns c = rw (← c.self.view_is) (c.contains.ensures ∙ was_met c.self.inside.classes.keys c.args.class)
