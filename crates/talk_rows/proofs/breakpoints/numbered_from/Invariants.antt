use Rattle.std.proofs.Common.{◌≡◌, ◌++◌, drop}
use Rattle.machine_model.specs.Breakpoints.{numbered_from}
use Rattle.talk_rows.proofs.breakpoints.numbered_from.Given as goal

abbrev pub invariant-loop-breakpoint : goal.invariant-loop-breakpoint
invariant-loop-breakpoint l =
    l.listed ++ numbered_from l.id (drop l.breakpoint-index l.breakpoints) ≡ numbered_from l.first l.breakpoints
