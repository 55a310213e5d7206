use Rattle.std.proofs.Common.{◌≡◌, map, take}
use Rattle.serde_json.specs.View.{view}
use Rattle.dap_messages.specs.Bodies.{frame_data}
use Rattle.dap_messages.proofs.frame_bodies.stack_frames_value.Given as goal

abbrev pub invariant-loop-frame : goal.invariant-loop-frame
invariant-loop-frame l = map view l.items.items ≡ map frame_data (take l.frame-index l.frames)
