-- The step in flight is the one that was asked for, and the request of one that was refused fails.
use Rattle.machine_laws.proofs.AskedSteps.{steps_as_asked}
use Rattle.machine_laws.proofs.RefusedSteps.{fails_refused}
use Rattle.machine_laws.proofs.laws.the_target_runs_on_with_the_step_that_was_asked_for.Goals as goal

pub returns-clause-in_flight : goal.returns-clause-in_flight
returns-clause-in_flight c = steps_as_asked

pub returns-clause-refused : goal.returns-clause-refused
returns-clause-refused c = fails_refused
