use Rattle.std.proofs.Common.{◌≡◌, map, take}
use Rattle.world_model.specs.declared.rows.WorldThread.{WorldThread}
use Rattle.world_model.proofs.threads.all_threads.Given as goal

-- the threads so far are listed
abbrev pub invariant-loop-row : goal.invariant-loop-row
invariant-loop-row l = l.threads ≡ map (λ (row : WorldThread). row.id) (take l.row-index l.rows)
