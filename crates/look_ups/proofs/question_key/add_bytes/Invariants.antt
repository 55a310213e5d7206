use Rattle.std.proofs.Common.{◌≡◌, ◌++◌, take}
use Rattle.look_ups.proofs.question_key.add_bytes.Given as goal

abbrev pub invariant-loop-byte : goal.invariant-loop-byte
invariant-loop-byte l = l.key ≡ l.initial.key ++ take l.byte-index l.bytes
