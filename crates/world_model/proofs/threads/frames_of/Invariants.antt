use Rattle.std.proofs.Common.{◌≡◌, ◌++◌, ◌==◌, map, drop}
use Rattle.std.specs.Prelude.{filter}
use Rattle.world_model.specs.declared.rows.WorldFrame.{WorldFrame}
use Rattle.world_model.specs.Threads.{shown_frame}
use Rattle.world_model.proofs.threads.frames_of.Given as goal

-- the frames of the thread are those found so far, and those among the frames that are left
abbrev pub invariant-loop-row : goal.invariant-loop-row
invariant-loop-row l =
    let is = λ (row : WorldFrame). row.thread.0 == l.thread.0 in
    l.frames ++ map (shown_frame l.world) (filter is (drop l.row-index l.rows))
    ≡ map (shown_frame l.world) (filter is l.rows)
