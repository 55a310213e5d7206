use Rattle.std.proofs.Common.{◌≡◌, ◌++◌, map, drop}
use Rattle.std.specs.Prelude.{bytes_eq, filter}
use Rattle.world_model.specs.declared.rows.WorldClass.{WorldClass}
use Rattle.world_model.specs.Classes.{class_status}
use Rattle.world_model.proofs.classes.classes_of.Given as goal

-- all that have the signature are those found so far, and those among the classes that are left
abbrev pub invariant-loop-row : goal.invariant-loop-row
invariant-loop-row l =
    let has = λ (row : WorldClass). bytes_eq row.signature l.signature in
    l.listed ++ map class_status (filter has (drop l.row-index l.rows)) ≡ map class_status (filter has l.rows)
