-- At rest nothing is due.
use Rattle.machine_steps.proofs.RequestLaws.{settles}
use Rattle.machine_laws.proofs.laws.event_requests_are_settled.Goals as goal

pub returns : goal.returns
returns c = settles
