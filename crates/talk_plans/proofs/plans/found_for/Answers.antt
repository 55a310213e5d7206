use Rattle.std.proofs.Common.{IfOk, map, rules}
use Rattle.machine_model.specs.Lookups.{plan}
use Rattle.machine_model.specs.Plans.{has, need}
use Rattle.talk_look_ups.specs.Planning.{need_of, sight_in}
use Rattle.talk_plans.proofs.plans.found_for.Goals as goal

pub returns-in-Hits : goal.returns-in-Hits
unfolding need
returns-in-Hits c = search rules
