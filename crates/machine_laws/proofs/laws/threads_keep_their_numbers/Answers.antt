use Rattle.machine_laws.proofs.ThreadLaws.{keeps_numbers}
use Rattle.machine_laws.proofs.laws.threads_keep_their_numbers.Goals as goal

pub returns : goal.returns
returns c = keeps_numbers
