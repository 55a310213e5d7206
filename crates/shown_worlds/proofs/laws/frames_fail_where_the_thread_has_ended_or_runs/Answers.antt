use Rattle.shown_worlds.proofs.FailureLaws.{fails}
use Rattle.shown_worlds.proofs.laws.frames_fail_where_the_thread_has_ended_or_runs.Goals as goal

pub returns : goal.returns
returns c = fails
