use Rattle.machine_work.proofs.WorkLaws.{due_less}
use Rattle.machine_work.proofs.laws.each_act_leaves_less_to_do.Goals as goal

pub returns : goal.returns
returns c = due_less
