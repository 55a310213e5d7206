use Rattle.std.proofs.Common.{◌∙◌}
use Rattle.look_ups.proofs.MetLaws.{is_met}
use Rattle.look_ups.proofs.met.MetClasses.add.Goals as goal

pub returns-clause-ok : goal.returns-clause-ok
returns-clause-ok c = rw (← c.self.view_is)
    (c.in_ok-insert.ensures.keys
    ∙ is_met c.self.inside.classes.keys c.args.class (rw c.self.view_is c.requires))
