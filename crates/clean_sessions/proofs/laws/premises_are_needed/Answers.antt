use Rattle.clean_sessions.proofs.NeededPremises.{are_needed, hold_at_first}
use Rattle.clean_sessions.proofs.laws.premises_are_needed.Goals as goal

pub returns-clause-needed : goal.returns-clause-needed
returns-clause-needed c = are_needed

pub returns-clause-first : goal.returns-clause-first
returns-clause-first c = hold_at_first
