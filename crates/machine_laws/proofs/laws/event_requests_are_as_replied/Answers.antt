-- The Set of each wish was replied to, once nothing is due.
use Rattle.machine_laws.proofs.ReplyLaws.{as_replied}
use Rattle.machine_laws.proofs.laws.event_requests_are_as_replied.Goals as goal

pub returns : goal.returns
returns c = as_replied
