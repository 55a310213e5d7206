use Rattle.std.proofs.Common.{◌≡◌, map, take}
use Rattle.machine_model.specs.Breakpoints.{entry_of}
use Rattle.talk_rows.proofs.breakpoints.entries_of.Given as goal

abbrev pub invariant-loop-breakpoint : goal.invariant-loop-breakpoint
invariant-loop-breakpoint l = l.entries ≡ map (entry_of l.from_one) (take l.breakpoint-index l.listed)
