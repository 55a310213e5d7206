use Rattle.machine_laws.proofs.NamedLaws.{asks_named, steps_named}
use Rattle.machine_laws.proofs.laws.requests_are_served_for_the_threads_that_they_name.Goals as goal

pub returns-clause-frames : goal.returns-clause-frames
returns-clause-frames c = asks_named

pub returns-clause-steps : goal.returns-clause-steps
returns-clause-steps c = steps_named
