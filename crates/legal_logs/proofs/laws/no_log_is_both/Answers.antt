use Rattle.legal_logs.proofs.FrontLaws.{not_both}
use Rattle.legal_logs.proofs.laws.no_log_is_both.Goals as goal

pub returns : goal.returns
returns c = λ limits log status clause place legal broken. not_both legal broken
