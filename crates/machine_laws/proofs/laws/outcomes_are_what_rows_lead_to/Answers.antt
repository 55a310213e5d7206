-- Each move keeps what leads to the response.
use Rattle.machine_laws.proofs.OutcomeLaws.{are_explained}
use Rattle.machine_laws.proofs.laws.outcomes_are_what_rows_lead_to.Goals as goal

pub returns : goal.returns
returns c = are_explained
