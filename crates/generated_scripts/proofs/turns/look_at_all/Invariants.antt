use Rattle.std.proofs.Common.{◌≡◌, ◌++◌}
use Rattle.generated_scripts.specs.Numbers.{for_each_to}
use Rattle.generated_scripts.specs.Turns.{looking}
use Rattle.generated_scripts.proofs.turns.look_at_all.Given as goal

abbrev pub invariant-loop-i : goal.invariant-loop-i
invariant-loop-i l = l.list ≡ l.fn.list ++ for_each_to looking l.i
