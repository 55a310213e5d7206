-- What a view of a class comes to, as it is made known.
use Rattle.std.specs.Prelude.{ℕ, Bool, List, Option, Some, None}
use Rattle.std.specs.Option.{option_flatten}
use Rattle.class_tables.specs.Lookups.{Lookups}
use Rattle.class_tables.specs.Views.{ClassFacts}
use Rattle.jdwp_values.specs.declared.class.Method.{Method}
use Rattle.jdwp_values.specs.declared.id.ClassId.{ClassId}
use Rattle.jdwp_values.specs.declared.tag.TypeTag.{TypeTag}
use Rattle.wish_sets.specs.declared.facts.KnownClass.{KnownClass}
use Rattle.wish_sets.specs.Wanted.{methods_found}

-- by its tag, its signature, whether it is prepared, its source and its methods; nothing without a tag or a signature
abbrev pub facts_by : Lookups → ClassId → Option TypeTag → Option (List ℕ) → Bool → Option (Option (List ℕ))
    → Option (List Method) → Option KnownClass
facts_by known class None signature prepared source methods = None
facts_by known class (Some tag) None prepared source methods = None
facts_by known class (Some tag) (Some signature) prepared source methods = Some (record {
  tag = tag;
  signature = signature;
  prepared = prepared;
  source = option_flatten source;
  methods = methods_found known class methods;
})

abbrev pub shown_facts : Lookups → ClassId → ClassFacts → Option KnownClass
shown_facts known class shown =
    facts_by known class shown.tag shown.signature shown.prepared shown.source shown.methods
