use Rattle.machine_laws.proofs.CausedChanges.{changes}
use Rattle.machine_laws.proofs.laws.the_target_is_changed_as_the_first_request_asks.Goals as goal

pub returns : goal.returns
returns c = changes
