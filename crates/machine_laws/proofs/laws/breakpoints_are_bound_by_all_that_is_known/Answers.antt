-- At rest all that is known of classes has bound breakpoints.
use Rattle.machine_laws.proofs.BindingLaws.{are_bound}
use Rattle.machine_laws.proofs.laws.breakpoints_are_bound_by_all_that_is_known.Goals as goal

pub returns : goal.returns
returns c = are_bound
