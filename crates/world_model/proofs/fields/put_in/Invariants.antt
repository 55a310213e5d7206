use Rattle.std.proofs.Common.{◌≡◌, ◌==◌, drop}
use Rattle.std.specs.Prelude.{◌&&◌, option_map}
use Rattle.std.specs.Option.{option_or}
use Rattle.world_model.specs.declared.rows.Put.{Put}
use Rattle.world_model.specs.Scans.{last_of}
use Rattle.world_model.proofs.fields.put_in.Given as goal

-- the last value is one among the rows that are left, or else the one found so far
abbrev pub invariant-loop-row : goal.invariant-loop-row
invariant-loop-row l =
    let is = λ (row : Put). (row.object.0 == l.object.0) && (row.field.0 == l.field.0) in
    let value = λ (row : Put). row.value in
    option_or (option_map value (last_of is (drop l.row-index l.rows))) l.found ≡ option_map value (last_of is l.rows)
