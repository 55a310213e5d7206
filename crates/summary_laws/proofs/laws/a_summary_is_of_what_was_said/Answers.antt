use Rattle.summary_laws.proofs.SummedLaws.{summed_up}
use Rattle.summary_laws.proofs.laws.a_summary_is_of_what_was_said.Goals as goal

pub returns : goal.returns
returns c = λ limits log messages turns e ended. summed_up ended
