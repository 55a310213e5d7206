use Rattle.std.proofs.Common.{◌≡◌, ◌++◌, ◌==◌, map, drop}
use Rattle.std.specs.Prelude.{filter}
use Rattle.world_model.specs.declared.rows.WorldField.{WorldField}
use Rattle.world_model.proofs.members.fields_of.Given as goal

-- the fields of the class are those found so far, and those among the fields that are left
abbrev pub invariant-loop-row : goal.invariant-loop-row
invariant-loop-row l =
    let is = λ (row : WorldField). row.class.0 == l.class.0 in
    let field = λ (row : WorldField). row.field in
    l.fields ++ map field (filter is (drop l.row-index l.rows)) ≡ map field (filter is l.rows)
