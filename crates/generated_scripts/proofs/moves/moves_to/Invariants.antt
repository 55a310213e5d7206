use Rattle.std.proofs.Common.{◌≡◌, ◌<◌, ◌^◌, [], ◌∷◌}
use Rattle.generated_scripts.specs.Numbers.{for_each_to, number_behind}
use Rattle.generated_scripts.specs.Worlds.{move_to}
use Rattle.generated_scripts.proofs.moves.moves_to.Given as goal

abbrev pub invariant-loop-i : goal.invariant-loop-i
invariant-loop-i l = record {
  made : l.list ≡ for_each_to (λ i. move_to l.number i ∷ []) l.i;
  value : l.value ≡ number_behind l.number l.i;
  small : l.value < 2 ^ 31;
}
