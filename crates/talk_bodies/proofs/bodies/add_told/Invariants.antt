use Rattle.std.proofs.Common.{◌≡◌, drop}
use Rattle.machine_model.specs.Breakpoints.{with_told}
use Rattle.talk_bodies.proofs.bodies.add_told.Given as goal

abbrev pub invariant-loop-breakpoint : goal.invariant-loop-breakpoint
invariant-loop-breakpoint l = with_told l.bound (drop l.breakpoint-index l.told) ≡ with_told l.initial.bound l.told
