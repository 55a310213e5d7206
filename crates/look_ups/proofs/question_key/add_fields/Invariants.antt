use Rattle.std.proofs.Common.{◌≡◌, ◌++◌, map, take}
use Rattle.jdwp_values.specs.declared.id.FieldId.{FieldId}
use Rattle.look_ups.proofs.question_key.add_fields.Given as goal

abbrev pub invariant-loop-field : goal.invariant-loop-field
invariant-loop-field l = l.key ≡ l.initial.key ++ map (λ (field : FieldId). field.0) (take l.field-index l.fields)
