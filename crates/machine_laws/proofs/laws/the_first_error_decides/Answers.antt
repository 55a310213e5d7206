use Rattle.machine_model.specs.Lookups.{plan, sight_of}
use Rattle.machine_laws.proofs.PlanLaws.{both}
use Rattle.machine_laws.proofs.laws.the_first_error_decides.Goals as goal

pub returns : goal.returns
returns c = λ state hand lookup. (both (sight_of state hand) (plan lookup state)).0
