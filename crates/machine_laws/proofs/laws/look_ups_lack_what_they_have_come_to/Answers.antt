use Rattle.machine_model.specs.Lookups.{plan, sight_of}
use Rattle.machine_laws.proofs.PlanLaws.{both}
use Rattle.machine_laws.proofs.laws.look_ups_lack_what_they_have_come_to.Goals as goal

pub returns : goal.returns
returns c = λ state hand lookup. (both (sight_of state hand) (plan lookup state)).1
