use Rattle.std.proofs.Common.{◌≡◌, ◌++◌, ◌==◌, map, drop}
use Rattle.std.specs.Prelude.{filter}
use Rattle.world_model.specs.declared.rows.WorldMethod.{WorldMethod}
use Rattle.world_model.proofs.members.methods_of.Given as goal

-- the methods of the class are those found so far, and those among the methods that are left
abbrev pub invariant-loop-row : goal.invariant-loop-row
invariant-loop-row l =
    let is = λ (row : WorldMethod). row.class.0 == l.class.0 in
    let method = λ (row : WorldMethod). row.method in
    l.methods ++ map method (filter is (drop l.row-index l.rows)) ≡ map method (filter is l.rows)
