use Rattle.dump_requests.proofs.BoundLaws.{asked_in, heard_in, start_in}
use Rattle.dump_requests.proofs.laws.a_conversation_stays_in_its_bounds.Goals as goal

pub returns-clause-begins : goal.returns-clause-begins
returns-clause-begins c = start_in

pub returns-clause-asks : goal.returns-clause-asks
returns-clause-asks c = asked_in

pub returns-clause-hears : goal.returns-clause-hears
returns-clause-hears c = heard_in
