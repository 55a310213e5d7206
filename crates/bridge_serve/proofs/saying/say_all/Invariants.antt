use Rattle.std.proofs.Common.{length}
use Rattle.bridge_core.specs.Calls.{words_left}
use Rattle.bridge_serve.specs.Following.{SaysOne}
use Rattle.bridge_serve.proofs.saying.say_all.Given as goal

-- some of the words were said
abbrev pub invariant-loop : goal.invariant-loop
invariant-loop g l =
    let outside = g.W.Wires.outside in
    record {
      says : SaysOne (outside l.initial.wires) (outside l.wires) l.initial.core l.core l.ending;
      stays : g.W.Wires.stays l.initial.wires l.wires;
    }

-- each takes one
abbrev pub decreases-loop : goal.decreases-loop
decreases-loop g l = length (words_left l.ending l.core)
