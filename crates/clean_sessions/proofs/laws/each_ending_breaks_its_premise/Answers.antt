use Rattle.clean_sessions.proofs.EndingLaws.{is_why}
use Rattle.clean_sessions.proofs.laws.each_ending_breaks_its_premise.Goals as goal

pub returns : goal.returns
returns c = λ limits log messages turns ending left. is_why left
