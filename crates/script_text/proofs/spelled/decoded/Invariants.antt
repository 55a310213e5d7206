use Rattle.std.proofs.Common.{◌≡◌, ◌*◌, length, take}
use Rattle.hex.specs.Hex.{IsBytes, encode_lower}
use Rattle.script_text.proofs.spelled.decoded.Given as goal

-- a byte for each pair so far
abbrev pub invariant-loop-i : goal.invariant-loop-i
invariant-loop-i l = record {
  are : IsBytes l.bytes.items;
  count : length l.bytes.items ≡ l.i;
  so_far : encode_lower l.bytes.items ≡ take (2 * l.i) l.digits;
}
