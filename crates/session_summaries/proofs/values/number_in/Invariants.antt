use Rattle.std.proofs.Common.{◌≡◌, ◌<◌, ◌^◌, drop}
use Rattle.session_summaries.specs.Told.{number_behind}
use Rattle.session_summaries.proofs.values.number_in.Given as goal

abbrev pub invariant-loop-byte : goal.invariant-loop-byte
invariant-loop-byte l = record {
  left : number_behind 0 l.text ≡ number_behind l.number (drop l.byte-index l.text);
  small : l.number < 2 ^ 32;
}
