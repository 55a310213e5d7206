use Rattle.body_faults.proofs.FaultLaws.{composite_fault_back, composite_fault_found}
use Rattle.body_faults.proofs.laws.a_composites_fault_stands_at_its_first_wrong_part.Goals as goal

pub returns-clause-found : goal.returns-clause-found
returns-clause-found c = composite_fault_found

pub returns-clause-back : goal.returns-clause-back
returns-clause-back c = composite_fault_back
