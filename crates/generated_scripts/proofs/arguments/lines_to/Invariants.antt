use Rattle.std.proofs.Common.{◌≡◌, [], ◌∷◌, map}
use Rattle.std.specs.Prelude.{codes}
use Rattle.serde_json.specs.View.{view}
use Rattle.generated_scripts.specs.Numbers.{for_each_to}
use Rattle.generated_scripts.specs.Turns.{one_number}
use Rattle.generated_scripts.proofs.arguments.lines_to.Given as goal

abbrev pub invariant-loop-i : goal.invariant-loop-i
invariant-loop-i l = map view l.lines.items ≡ for_each_to (λ i. one_number (codes "line") i ∷ []) l.i
