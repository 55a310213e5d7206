use Rattle.machine_laws.proofs.ReceiverLaws.{others, spares}
use Rattle.machine_laws.proofs.laws.the_receiver_is_asked_for_by_its_name.Goals as goal

pub returns-clause-spares : goal.returns-clause-spares
returns-clause-spares c = spares

pub returns-clause-others : goal.returns-clause-others
returns-clause-others c = others
