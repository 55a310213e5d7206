use Rattle.machine_laws.proofs.ThreadNewsLaws.{tells_in_hand, tells_threads}
use Rattle.machine_laws.proofs.laws.starts_and_ends_of_threads_are_told.Goals as goal

pub returns-clause-all : goal.returns-clause-all
returns-clause-all c = tells_threads

pub returns-clause-in_hand : goal.returns-clause-in_hand
returns-clause-in_hand c = tells_in_hand
