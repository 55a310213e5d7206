use Rattle.std.proofs.Common.{◌≡◌, ◌++◌, ◌==◌, map, drop}
use Rattle.std.specs.Prelude.{◌&&◌, filter}
use Rattle.world_model.specs.declared.rows.WorldVariable.{WorldVariable}
use Rattle.world_model.proofs.members.variables_of.Given as goal

-- the variables of the method are those found so far, and those among the variables that are left
abbrev pub invariant-loop-row : goal.invariant-loop-row
invariant-loop-row l =
    let is = λ (row : WorldVariable). (row.class.0 == l.class.0) && (row.method.0 == l.method.0) in
    let variable = λ (row : WorldVariable). row.variable in
    l.variables ++ map variable (filter is (drop l.row-index l.rows)) ≡ map variable (filter is l.rows)
