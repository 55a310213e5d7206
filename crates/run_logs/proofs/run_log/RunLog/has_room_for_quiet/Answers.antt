use Rattle.std.proofs.Common.{rules}
use Rattle.run_logs.proofs.RunLaws.{quiets_counted}
use Rattle.run_logs.proofs.run_log.RunLog.has_room_for_quiet.Goals as goal

pub returns : goal.returns
returns c =
    rw (← c.self.view_is, quiets_counted _ c.self.invariant.are.each, ← c.self.invariant.counted) (search rules)
