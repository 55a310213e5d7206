use Rattle.std.proofs.Common.{◌≡◌, [], ◌∷◌}
use Rattle.generated_scripts.specs.Numbers.{for_each_to}
use Rattle.generated_scripts.specs.Worlds.{line}
use Rattle.generated_scripts.proofs.world.lines.Given as goal

abbrev pub invariant-loop-index : goal.invariant-loop-index
invariant-loop-index l = l.lines ≡ for_each_to (λ i. line i ∷ []) l.index
