-- No step is in flight where a stop is told, and at rest none is installed but the one in flight.
use Rattle.machine_laws.proofs.StepLaws.{clears_steps, steps_at_rest}
use Rattle.machine_laws.proofs.laws.steps_are_over_where_a_stop_is_told.Goals as goal

pub returns-clause-cleared : goal.returns-clause-cleared
returns-clause-cleared c = clears_steps

pub returns-clause-at_rest : goal.returns-clause-at_rest
returns-clause-at_rest c = steps_at_rest
