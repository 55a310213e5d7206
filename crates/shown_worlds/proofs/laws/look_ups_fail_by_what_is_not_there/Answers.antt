use Rattle.shown_worlds.proofs.ErrorLaws.{fails_by_rows}
use Rattle.shown_worlds.proofs.laws.look_ups_fail_by_what_is_not_there.Goals as goal

pub returns : goal.returns
returns c = fails_by_rows
