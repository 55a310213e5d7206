-- Each move keeps what is left without a response.
use Rattle.machine_steps.proofs.ServedLaws.{are_served}
use Rattle.machine_laws.proofs.laws.requests_are_answered_in_order.Goals as goal

pub returns : goal.returns
returns c = are_served
