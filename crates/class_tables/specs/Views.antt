-- What a session asks of the classes that it knows.
use Rattle.std.specs.Prelude.{◌≡◌, ℕ, ℤ, pos, int_lt, Bool, false, ◌||◌, if◌then◌else◌, List, [], filter_map, slice_get}
use Rattle.std.specs.Prelude.{Contains, Option, Some, None, is_some, option_map, option_copied}
use Rattle.jdwp_values.specs.declared.id.ClassId.{ClassId}
use Rattle.jdwp_values.specs.declared.id.MethodId.{MethodId}
use Rattle.jdwp_values.specs.declared.tag.TypeTag.{TypeTag}
use Rattle.jdwp_values.specs.declared.class.Method.{Method}
use Rattle.jdwp_values.specs.declared.class.Field.{Field}
use Rattle.jdwp_values.specs.declared.class.Line.{Line}
use Rattle.jdwp_values.specs.declared.class.LineTable.{LineTable}
use Rattle.jdwp_values.specs.declared.location.Location.{Location}
use Rattle.class_tables.specs.declared.loaded.Loaded.{Loaded}
use Rattle.class_tables.specs.declared.view.ClassView.{ClassView}
use Rattle.class_tables.specs.declared.view.KeyView.{KeyView}
use Rattle.class_tables.specs.Facts.{is_prepared}
use Rattle.class_tables.specs.Signatures.{package_in}
use Rattle.class_tables.specs.Lines.{entry_at, line_start, IsLineStart}
use Rattle.class_tables.specs.Lookups.{Lookups}

-- What is known of a class itself, each fact where it was learnt; a source may be known to be absent.
pub record ClassFacts : Type 0 where
  pub tag : Option TypeTag
  pub signature : Option (List ℕ)
  pub prepared : Bool
  pub source : Option (Option (List ℕ))
  pub methods : Option (List Method)
  pub fields : Option (List Field)
  pub above : Option ClassId

-- the facts of a class itself
abbrev pub facts_of : Lookups → ClassId → ClassFacts
facts_of known class = record {
  tag = option_map (λ loaded. loaded.tag) (known.loaded class);
  signature = option_map (λ loaded. loaded.signature) (known.loaded class);
  prepared = is_prepared (known.loaded class);
  source = known.source class;
  methods = known.methods class;
  fields = known.fields class;
  above = known.above class;
}

-- whether any of them was learnt; the tag was where the class was listed or prepared
abbrev pub has_any : ClassFacts → Bool
has_any facts =
    is_some facts.tag || is_some facts.source || is_some facts.methods || is_some facts.fields || is_some facts.above

-- a class, where any of its facts was learnt
abbrev pub class_in : Lookups → ClassId → Option ClassFacts
class_in known class = if has_any (facts_of known class) then Some (facts_of known class) else None

-- what a view of a class shows
abbrev pub facts_shown : ClassView → ClassFacts
facts_shown view = record {
  tag = view.tag;
  signature = option_copied view.signature;
  prepared = view.prepared;
  source = option_map option_copied view.source;
  methods = option_copied view.methods;
  fields = option_copied view.fields;
  above = view.above;
}

-- A key under which breakpoints are set: the path of a package, and the name of a source file (JDWP, ReferenceType
-- command set, Signature and SourceFile).
pub record Key : Type 0 where
  pub package_path : List ℕ
  pub file : List ℕ

-- the key of a class: none before it was listed, before its source is known, where it has no source file, and where
-- its signature is not that of a class
abbrev pub key_from : Option Loaded → Option (Option (List ℕ)) → Option Key
key_from None source = None
key_from (Some loaded) None = None
key_from (Some loaded) (Some None) = None
key_from (Some loaded) (Some (Some file)) =
    option_map (λ path. record { package_path = path; file = file }) (package_in loaded.signature)

abbrev pub key_in : Lookups → ClassId → Option Key
key_in known class = key_from (known.loaded class) (known.source class)

-- what a view of a key shows
abbrev pub key_shown : KeyView → Key
key_shown view = record { package_path = view.package.now; file = view.file.now }

-- the entries of a line table, none where it is not known or absent
abbrev pub entries_of : Option (Option LineTable) → List Line
entries_of None = []
entries_of (Some None) = []
entries_of (Some (Some table)) = table.lines

-- the line of a location: that of the entry that its code index belongs to (JDWP, Detailed Command Information, common
-- data types, location)
abbrev pub line_in : Lookups → Location → Option ℤ
line_in known at =
    option_map (λ entry. entry.line) (entry_at at.index (entries_of (known.lines at.class at.method)))

-- the entries that a breakpoint may bind to: none in a native method, whose first code index is -1 (JDWP, Method
-- command set, LineTable, start)
abbrev pub binding_entries : Option (Option LineTable) → List Line
binding_entries None = []
binding_entries (Some None) = []
binding_entries (Some (Some table)) = if int_lt table.start (pos 0) then [] else table.lines

-- the location at which a line begins in a method of a class, where the method has an entry of it
abbrev pub location_in : Lookups → ClassId → TypeTag → ℤ → MethodId → Option Location
location_in known class tag line method =
    option_map (λ index. record { tag = tag; class = class; method = method; index = index })
    (line_start line (binding_entries (known.lines class method)))

-- the locations of a line in a class: that in each of its methods that has one, in the order of the methods; none
-- before the class was listed and its methods are known
abbrev pub locations_among : Lookups → ClassId → ℤ → Option Loaded → Option (List Method) → List Location
locations_among known class line None methods = []
locations_among known class line (Some loaded) None = []
locations_among known class line (Some loaded) (Some methods) =
    filter_map (λ method. location_in known class loaded.tag line method.id) methods

abbrev pub locations_in : Lookups → ClassId → ℤ → List Location
locations_in known class line = locations_among known class line (known.loaded class) (known.methods class)

-- the class at a place in the order in which the classes were first learnt
abbrev pub nth_in : Lookups → ℕ → Option ClassId
nth_in known place = slice_get known.order place

-- A location of a line in a class: it has the class's tag and a method of the class, whose line table is known and
-- not that of a native one, and the line begins at its code index.
pub record IsLocationOf (known : Lookups) (class : ClassId) (line : ℤ) (location : Location) : Type 0 where
  pub loaded : Loaded
  pub methods : List Method
  pub method : Method
  pub table : LineTable
  pub is_loaded : known.loaded class ≡ Some loaded
  pub has_methods : known.methods class ≡ Some methods
  pub is_method : Contains methods method
  pub has_lines : known.lines class method.id ≡ Some (Some table)
  pub has_code : int_lt table.start (pos 0) ≡ false
  pub begins : IsLineStart line table.lines location.index
  pub place : location
      ≡ record { tag = loaded.tag; class = class; method = method.id; index = location.index }
