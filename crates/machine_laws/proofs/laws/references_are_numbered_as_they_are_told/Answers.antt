-- References are numbered as each move tells them.
use Rattle.machine_steps.proofs.ReferenceLaws.{references_are}
use Rattle.machine_laws.proofs.laws.references_are_numbered_as_they_are_told.Goals as goal

pub returns : goal.returns
returns c = references_are
