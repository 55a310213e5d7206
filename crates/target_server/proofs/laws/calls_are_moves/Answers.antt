use Rattle.target_server.proofs.CourseLaws.{fresh_leads}
use Rattle.target_server.proofs.laws.calls_are_moves.Goals as goal

pub returns : goal.returns
returns c = λ world program begin now course. fresh_leads world program begin now course
