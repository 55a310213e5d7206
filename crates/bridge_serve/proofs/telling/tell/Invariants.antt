use Rattle.machine_work.specs.Working.{work}
use Rattle.bridge_serve.specs.Following.{CoreGoesOn}
use Rattle.bridge_serve.proofs.telling.tell.Given as goal

-- the core has gone on from where it stood
abbrev pub invariant-loop : goal.invariant-loop
invariant-loop g l =
    let outside = g.W.Wires.outside in
    record {
      goes_on : CoreGoesOn (outside l.initial.wires) (outside l.wires) l.initial.core l.core;
      stays : g.W.Wires.stays l.initial.wires l.wires;
    }

-- each message lessens what the machine can still do by itself
abbrev pub decreases-loop : goal.decreases-loop
decreases-loop g l = work l.core.machine
