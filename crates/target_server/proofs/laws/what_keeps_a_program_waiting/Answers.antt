use Rattle.std.proofs.Common.{refl}
use Rattle.target_server.proofs.JointLaws.{none_ended, none_held, only_waits}
use Rattle.target_server.proofs.laws.what_keeps_a_program_waiting.Goals as goal

pub returns-clause-ended : goal.returns-clause-ended
returns-clause-ended c = none_ended

pub returns-clause-held : goal.returns-clause-held
returns-clause-held c = none_held

pub returns-clause-end : goal.returns-clause-end
returns-clause-end c = λ w. refl

pub returns-clause-only : goal.returns-clause-only
returns-clause-only c = only_waits
