use Rattle.std.proofs.Common.{length}
use Rattle.bridge_serve.specs.Following.{GoesOn, IsTakenUp}
use Rattle.bridge_serve.proofs.handling.take_packets.Given as goal

-- the session has gone on from where it stood, over the same bytes
abbrev pub invariant-loop : goal.invariant-loop
invariant-loop g l =
    let outside = g.W.Wires.outside in
    record {
      goes_on : GoesOn (outside l.initial.wires) (outside l.wires) l.initial.core l.core l.initial.inputs l.inputs;
      taken_up : IsTakenUp l.core l.inputs;
      stays : g.W.Wires.stays l.initial.wires l.wires;
    }

-- each packet takes bytes
abbrev pub decreases-loop : goal.decreases-loop
decreases-loop g l = length l.inputs.target.stream.pending
