use Rattle.pending_table.proofs.WindowLaws.{id_after}
use Rattle.pending_table.proofs.laws.ids_follow_their_rule.Goals as goal

pub returns : goal.returns
returns c = λ moves. id_after moves
