use Rattle.std.proofs.Common.{◌≡◌, map, take}
use Rattle.serde_json.specs.View.{view}
use Rattle.dap_messages.specs.Bodies.{breakpoint_data}
use Rattle.dap_messages.proofs.bodies.breakpoints_value.Given as goal

abbrev pub invariant-loop-breakpoint : goal.invariant-loop-breakpoint
invariant-loop-breakpoint l =
    map view l.items.items ≡ map breakpoint_data (take l.breakpoint-index l.breakpoints)
