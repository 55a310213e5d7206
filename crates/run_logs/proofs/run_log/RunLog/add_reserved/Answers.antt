use Rattle.run_logs.proofs.PutLaws.{can_take}
use Rattle.run_logs.proofs.run_log.RunLog.add_reserved.Goals as goal

pub put-requires-clause-few : goal.put-requires-clause-few
put-requires-clause-few c = can_take _ _ c.self.invariant.are (rw (← c.self.view_is) at c.requires.limit)
