use Rattle.suspend_ledger.proofs.HistoryLaws.{held_with_resumes}
use Rattle.suspend_ledger.proofs.laws.held_is_suspensions_less_resumes.Goals as goal

pub returns : goal.returns
returns c = held_with_resumes
