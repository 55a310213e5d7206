use Rattle.std.proofs.Common.{◌≡◌, bytes_eq, drop, find, map}
use Rattle.machine_model.specs.Expressions.{variable_named}
use Rattle.expression_values.proofs.expressions.variable_named.Given as goal

-- the first of those that are left is the first of all
abbrev pub invariant-loop-variable : goal.invariant-loop-variable
invariant-loop-variable l =
    find (λ v. bytes_eq v.name l.name) (map (λ v. v.now) (drop l.variable-index l.variable-items))
    ≡ variable_named l.name l.index l.variables
