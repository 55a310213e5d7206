use Rattle.session_causes.proofs.Memory.{for_memory}
use Rattle.session_causes.proofs.laws.an_ending_for_memory_cuts_a_session_off.Goals as goal
use Rattle.std.proofs.Common.{refl}

pub returns : goal.returns
returns c = λ limits log messages turns left. for_memory left refl
