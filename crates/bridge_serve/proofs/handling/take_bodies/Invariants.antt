use Rattle.std.proofs.Common.{◌≡◌, length}
use Rattle.bridge_core.specs.Cores.{streams_in}
use Rattle.bridge_serve.specs.Following.{GoesOn, IsTakenUp}
use Rattle.session_model.specs.States.{target_front}
use Rattle.wire_core.specs.Streams.{Front}
use Rattle.bridge_serve.proofs.handling.take_bodies.Given as goal

-- the session has gone on from where it stood, over the same bytes, and the target's are those that were left
abbrev pub invariant-loop : goal.invariant-loop
invariant-loop g l =
    let outside = g.W.Wires.outside in
    record {
      goes_on : GoesOn (outside l.initial.wires) (outside l.wires) l.initial.core l.core l.initial.inputs l.inputs;
      taken_up : IsTakenUp l.core l.inputs;
      no_packet : target_front (streams_in l.core l.inputs) ≡ Front.waits;
      stays : g.W.Wires.stays l.initial.wires l.wires;
    }

-- each body takes bytes
abbrev pub decreases-loop : goal.decreases-loop
decreases-loop g l = length l.inputs.client.pending
