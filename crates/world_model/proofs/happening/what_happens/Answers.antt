use Rattle.std.proofs.Common.{◌≡◌, ◌∙◌, ap, sym}
use Rattle.world_model.specs.Happenings.{what_happens}
use Rattle.world_model.proofs.happening.what_happens.Goals as goal

pub returns-in-Throw : goal.returns-in-Throw
returns-in-Throw c = c.throws.ensures ∙ ap (λ next. what_happens c.args.world.now next) (sym c.in-Throw.is)

pub returns-in-Start : goal.returns-in-Start
returns-in-Start c = c.starts.ensures ∙ ap (λ next. what_happens c.args.world.now next) (sym c.in-Start.is)
