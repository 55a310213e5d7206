use Rattle.target_server.proofs.JointLaws.{program_stays, values_stay}
use Rattle.target_server.proofs.laws.a_suspended_target_stays_as_it_is.Goals as goal

pub returns-clause-program : goal.returns-clause-program
returns-clause-program c = λ old new move held. program_stays old new move held

pub returns-clause-values : goal.returns-clause-values
returns-clause-values c = λ old new move held. values_stay old new move held
