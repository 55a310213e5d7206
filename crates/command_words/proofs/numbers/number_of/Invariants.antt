use Rattle.std.proofs.Common.{◌≡◌, ◌≤◌, drop}
use Rattle.command_words.specs.Numbers.{number_behind}
use Rattle.command_words.proofs.numbers.number_of.Given as goal

abbrev pub invariant-loop-byte : goal.invariant-loop-byte
invariant-loop-byte l = record {
  left : number_behind 0 l.text ≡ number_behind l.number (drop l.byte-index l.text);
  few : l.number ≤ 1000;
}
