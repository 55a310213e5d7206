use Rattle.machine_laws.proofs.WrittenValues.{sets_by_writes, writes_in_stops}
use Rattle.machine_laws.proofs.laws.values_are_set_by_writes_in_a_stop.Goals as goal

pub returns-clause-written : goal.returns-clause-written
returns-clause-written c = sets_by_writes

pub returns-clause-in_stop : goal.returns-clause-in_stop
returns-clause-in_stop c = writes_in_stops
