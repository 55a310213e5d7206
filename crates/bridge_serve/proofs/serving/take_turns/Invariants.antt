use Rattle.std.proofs.Common.{◌≡◌, ◌*◌, ◌≤◌, vec_len}
use Rattle.bridge_serve.specs.Following.{client_end, target_end}
use Rattle.bridge_serve.proofs.Whole.{IsOnTurn}
use Rattle.bridge_serve.proofs.serving.take_turns.Given as goal

-- what was logged is a session that waits here, and the streams have no more bytes than their pieces can hold
abbrev pub invariant-loop-turn : goal.invariant-loop-turn
invariant-loop-turn g l =
    let outside = g.W.Wires.outside in
    record {
      now : IsOnTurn l.limits (outside l.initial.wires) (outside l.wires) l._turn l.core l.inputs;
      patient : l.inputs.quiets ≤ l.limits.quiet;
      few : l.inputs.quiets ≤ l._turn;
      client_small : client_end l.inputs ≤ l._turn * 65536;
      target_small : target_end l.inputs ≤ l._turn * 65536;
      room : vec_len l.buffer ≡ 65536;
      stays : g.W.Wires.stays l.initial.wires l.wires;
    }
