use Rattle.body_faults.proofs.FaultLaws.{answer_fault_back, answer_fault_found}
use Rattle.body_faults.proofs.laws.an_answers_fault_stands_at_its_first_wrong_part.Goals as goal

pub returns-clause-found : goal.returns-clause-found
returns-clause-found c = answer_fault_found

pub returns-clause-back : goal.returns-clause-back
returns-clause-back c = answer_fault_back
