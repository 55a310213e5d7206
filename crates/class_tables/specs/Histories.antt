-- What was learnt over a whole session, and the plain scan of it.
use Rattle.std.specs.Prelude.{ℕ, Bool, false, not, ◌&&◌, List, [], ◌∷◌, reverse, filter, filter_map, if◌then◌else◌}
use Rattle.std.specs.Prelude.{Option, Some, None, option_map}
use Rattle.std.specs.List.{list_any}
use Rattle.jdwp_values.specs.declared.id.ClassId.{ClassId}
use Rattle.jdwp_values.specs.declared.id.MethodId.{MethodId}
use Rattle.jdwp_values.specs.declared.class.Method.{Method}
use Rattle.jdwp_values.specs.declared.class.Field.{Field}
use Rattle.jdwp_values.specs.declared.class.LineTable.{LineTable}
use Rattle.jdwp_values.specs.declared.class.Variable.{Variable}
use Rattle.class_tables.specs.declared.loaded.Loaded.{Loaded}
use Rattle.class_tables.specs.Facts.{Fact, is_loaded, has_source, has_methods, has_lines, has_variables, has_fields}
use Rattle.class_tables.specs.Facts.{is_below, Known, nothing, with_fact, same_class, same_method}
use Rattle.class_tables.specs.Lookups.{Lookups}

-- what is known after these facts were learnt, the latest of them first
abbrev pub after : List Fact → Known
after [] = nothing
after (latest ∷ earlier) = with_fact latest (after earlier)

-- what a fact tells, where it is one of this kind and of this key
abbrev pub loaded_told : ClassId → Fact → Option Loaded
loaded_told class (is_loaded other tag signature prepared) =
    if same_class class other then Some (record { tag = tag; signature = signature; prepared = prepared }) else None
loaded_told class fact = None

abbrev pub source_told : ClassId → Fact → Option (Option (List ℕ))
source_told class (has_source other source) = if same_class class other then Some source else None
source_told class fact = None

abbrev pub methods_told : ClassId → Fact → Option (List Method)
methods_told class (has_methods other methods) = if same_class class other then Some methods else None
methods_told class fact = None

abbrev pub lines_told : ClassId → MethodId → Fact → Option (Option LineTable)
lines_told class method (has_lines other_class other lines) =
    if same_method (class, method) (other_class, other) then Some lines else None
lines_told class method fact = None

abbrev pub variables_told : ClassId → MethodId → Fact → Option (Option (List Variable))
variables_told class method (has_variables other_class other variables) =
    if same_method (class, method) (other_class, other) then Some variables else None
variables_told class method fact = None

abbrev pub fields_told : ClassId → Fact → Option (List Field)
fields_told class (has_fields other fields) = if same_class class other then Some fields else None
fields_told class fact = None

abbrev pub super_told : ClassId → Fact → Option ClassId
super_told class (is_below other above) = if same_class class other then Some above else None
super_told class fact = None

-- whether a fact tells that a class is prepared
abbrev pub tells_prepared : ClassId → Fact → Bool
tells_prepared class (is_loaded other tag signature prepared) = same_class class other && prepared
tells_prepared class fact = false

-- the class that a fact lists
abbrev pub class_listed : Fact → Option ClassId
class_listed (is_loaded class tag signature prepared) = Some class
class_listed fact = None

-- the first of some answers, where there is any
abbrev pub first_some : {A : Type 0} → Option A → Option A → Option A
first_some None other = other
first_some (Some x) other = Some x

-- what was told last
abbrev pub last_told : {A : Type 0} → (Fact → Option A) → List Fact → Option A
last_told told [] = None
last_told told (latest ∷ earlier) = first_some (told latest) (last_told told earlier)

-- each class once, where it comes first
abbrev pub firsts : List ClassId → List ClassId
firsts [] = []
firsts (class ∷ classes) = class ∷ filter (λ other. not (same_class class other)) (firsts classes)

-- a class as it was listed last, but prepared where it ever was
abbrev pub ever_prepared : Bool → Loaded → Loaded
ever_prepared prepared loaded = record { tag = loaded.tag; signature = loaded.signature; prepared = prepared }

-- the plain scan of a session for what was told last under each key; the latest of its facts stands first
abbrev pub told_by : List Fact → Lookups
told_by history = record {
  order = firsts (filter_map class_listed (reverse history));
  loaded = λ class. option_map (ever_prepared (list_any (tells_prepared class) history))
      (last_told (loaded_told class) history);
  source = λ class. last_told (source_told class) history;
  methods = λ class. last_told (methods_told class) history;
  lines = λ class method. last_told (lines_told class method) history;
  variables = λ class method. last_told (variables_told class method) history;
  fields = λ class. last_told (fields_told class) history;
  above = λ class. last_told (super_told class) history;
}
