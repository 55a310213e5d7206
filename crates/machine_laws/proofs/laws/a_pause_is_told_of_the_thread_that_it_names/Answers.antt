-- A pause is told behind its success alone, and behind each that succeeds outside a stop.
use Rattle.machine_laws.proofs.PausedEvents.{tells_pauses}
use Rattle.machine_laws.proofs.PausedStops.{pauses}
use Rattle.machine_laws.proofs.laws.a_pause_is_told_of_the_thread_that_it_names.Goals as goal

pub returns-clause-answered : goal.returns-clause-answered
returns-clause-answered c = pauses

pub returns-clause-told : goal.returns-clause-told
returns-clause-told c = tells_pauses
