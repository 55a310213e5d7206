-- What is put in the queue goes, one by one.
use Rattle.machine_laws.proofs.OrderLaws.{any_order}
use Rattle.machine_laws.proofs.laws.questions_go_in_any_order.Goals as goal

pub returns : goal.returns
returns c = any_order
