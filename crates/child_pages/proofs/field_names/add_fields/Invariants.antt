use Rattle.std.proofs.Common.{◌≡◌, ◌++◌, drop}
use Rattle.machine_model.specs.Children.{names_met, of_fields, own_fields}
use Rattle.child_pages.proofs.field_names.add_fields.Given as goal

-- what was found, and what is found behind the names that were met
abbrev pub invariant-loop-field : goal.invariant-loop-field
invariant-loop-field l = record {
  found : l.found.items ++ of_fields l.class.0 l.met.keys (own_fields (drop l.field-index l.class.1))
      ≡ l.initial.found.items ++ of_fields l.class.0 l.initial.met.keys (own_fields l.class.1);
  met : names_met l.met.keys (own_fields (drop l.field-index l.class.1))
      ≡ names_met l.initial.met.keys (own_fields l.class.1);
}
