-- Two classes, as a world has them and as they may be known.
use Rattle.std.proofs.Common.{◌≡◌, ◌≤◌, ◌<◌, ℕ, Bool, true, false, List, [], ◌∷◌, refl, arith, Some, None}
use Rattle.class_tables.specs.declared.loaded.Loaded.{Loaded}
use Rattle.jdwp_events.specs.declared.kind.Policy.TheVariants.{All, EventThread, NoThread}
use Rattle.jdwp_values.specs.declared.id.ClassId.{ClassId}
use Rattle.jdwp_values.specs.declared.sizes.IdSizes.{IdSizes}
use Rattle.jdwp_values.specs.declared.tag.TypeTag.TheVariants as type_tags
use Rattle.joint_facts.specs.Arrivals.{is_whole}
use Rattle.joint_facts.specs.Facts.{IsClassOf, above_of, fields_of, methods_of, source_file}
use Rattle.world_model.specs.declared.world.World.{World}

abbrev sizes : IdSizes
sizes = record {
  field = 8;
  method = 8;
  object = 8;
  class = 8;
  frame = 8;
  field_is_size = (omega arith, omega arith);
  method_is_size = (omega arith, omega arith);
  object_is_size = (omega arith, omega arith);
  class_is_size = (omega arith, omega arith);
  frame_is_size = (omega arith, omega arith);
}

abbrev class : ℕ → ClassId
class n = record { 0 = n }

-- `LA;`, which is prepared, is in the file `A` and extends `LB;`, which is neither prepared nor says its file
abbrev world : World
world = record {
  sizes = sizes;
  classes = record {
    id = class 16;
    tag = type_tags.Class;
    signature = 76 ∷ 65 ∷ 59 ∷ [];
    source = Some (65 ∷ []);
    above = class 17;
    prepared = true;
  } ∷ record {
    id = class 17;
    tag = type_tags.Class;
    signature = 76 ∷ 66 ∷ 59 ∷ [];
    source = None;
    above = class 0;
    prepared = false;
  } ∷ [];
  methods = [];
  variables = [];
  fields = [];
  objects = [];
  arrays = [];
  strings = [];
  puts = [];
  threads = [];
  frames = [];
  requests = [];
  steps = [];
  next_request = 1;
  count = 0;
  dead = false;
}

abbrev known : List ℕ → Bool → Loaded
known signature prepared = record { tag = type_tags.Class; signature = signature; prepared = prepared }

-- a class may be known as it was before it was prepared
known_early : IsClassOf world (class 16) (known (76 ∷ 65 ∷ 59 ∷ []) false)
known_early = record { there = refl; tag = refl; signature = refl; prepared = λ is. absurd cc }

known_late : IsClassOf world (class 16) (known (76 ∷ 65 ∷ 59 ∷ []) true)
known_late = record { there = refl; tag = refl; signature = refl; prepared = λ is. refl }

-- but not as prepared before it is, nor without its signature, nor where it isn't there
too_early : IsClassOf world (class 17) (known (76 ∷ 66 ∷ 59 ∷ []) true) → ⊥
too_early is = let prepared = is.prepared refl in cc

unsigned : IsClassOf world (class 17) (known [] false) → ⊥
unsigned is = let signature = is.signature in cc

of_none : IsClassOf world (class 18) (known [] false) → ⊥
of_none is = let there = is.there in cc

-- what is absent, of a class that is there and of one that isn't
files : (source_file world (class 16) ≡ Some (65 ∷ [])) × (source_file world (class 17) ≡ None)
    × (source_file world (class 18) ≡ None)
files = (refl, refl, refl)

classes_above : (above_of world (class 16) ≡ class 17) × (above_of world (class 17) ≡ class 0)
    × (above_of world (class 18) ≡ class 0)
classes_above = (refl, refl, refl)

members : (methods_of world (class 16) ≡ []) × (fields_of world (class 18) ≡ [])
members = (refl, refl)

pub policies : (is_whole NoThread ≡ true) × (is_whole EventThread ≡ false) × (is_whole All ≡ true)
policies = (refl, refl, refl)
