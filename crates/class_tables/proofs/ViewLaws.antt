-- What is shown of a class, part by part.
use Rattle.std.proofs.Common.{◌≡◌, Option, option_map, ap, ◌∙◌}
use Rattle.jdwp_values.specs.declared.id.ClassId.{ClassId}
use Rattle.class_tables.specs.declared.loaded.Loaded.{Loaded}
use Rattle.class_tables.specs.Views.{ClassFacts, facts_of}
use Rattle.class_tables.specs.Facts.{is_prepared}
use Rattle.class_tables.specs.Lookups.{Lookups}

-- facts that are those of a class, part by part
pub are_facts_of : (known : Lookups) (class : ClassId) (loaded : Option Loaded) (facts : ClassFacts)
    → loaded ≡ known.loaded class
    → facts.tag ≡ option_map (λ (l : Loaded). l.tag) loaded
    → facts.signature ≡ option_map (λ (l : Loaded). l.signature) loaded
    → facts.prepared ≡ is_prepared loaded
    → facts.source ≡ known.source class → facts.methods ≡ known.methods class → facts.fields ≡ known.fields class
    → facts.above ≡ known.above class → facts ≡ facts_of known class
are_facts_of known class loaded facts is tag signature prepared source methods fields above = λ i. record {
  tag = (tag ∙ ap (option_map (λ (l : Loaded). l.tag)) is) i;
  signature = (signature ∙ ap (option_map (λ (l : Loaded). l.signature)) is) i;
  prepared = (prepared ∙ ap is_prepared is) i;
  source = source i;
  methods = methods i;
  fields = fields i;
  above = above i;
}
