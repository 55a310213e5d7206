use Rattle.std.proofs.Common.{◌≡◌, ◌++◌, drop}
use Rattle.std.specs.Prelude.{option_map}
use Rattle.world_model.specs.Objects.{field_value}
use Rattle.world_model.specs.Scans.{all_of}
use Rattle.world_model.proofs.fields.field_values.Given as goal

-- the values of all fields are those found so far, and those of the fields that are left
abbrev pub invariant-loop-field : goal.invariant-loop-field
invariant-loop-field l = all_of (field_value l.world l.object) l.fields
    ≡ option_map (λ rest. l.values ++ rest) (all_of (field_value l.world l.object) (drop l.field-index l.fields))
