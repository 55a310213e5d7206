use Rattle.std.proofs.Common.{◌≡◌, map, take}
use Rattle.machine_model.specs.Breakpoints.{breakpoint_told}
use Rattle.talk_bodies.proofs.bodies.breakpoints_told.Given as goal

abbrev pub invariant-loop-breakpoint : goal.invariant-loop-breakpoint
invariant-loop-breakpoint l =
    l.told ≡ map (breakpoint_told l.rooted l.wishes) (take l.breakpoint-index l.listed)
