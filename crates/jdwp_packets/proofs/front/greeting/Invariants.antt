use Rattle.std.proofs.Common.{◌≡◌, ◌≤◌, length, drop}
use Rattle.jdwp_packets.specs.Packets.{greeting_from, handshake}
use Rattle.jdwp_packets.proofs.front.greeting.Given as goal

-- the bytes before i are the greeting's
abbrev pub invariant-loop-i : goal.invariant-loop-i
invariant-loop-i l =
    (greeting_from l.i (drop l.i handshake) (drop l.i l.bytes) ≡ greeting_from 0 handshake l.bytes)
    × (l.i ≤ length l.bytes)
