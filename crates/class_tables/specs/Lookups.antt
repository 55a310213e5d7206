-- What is found of a class: each look-up is a scan for what was learnt last under its key.
use Rattle.std.specs.Prelude.{ℕ, List, Option}
use Rattle.jdwp_values.specs.declared.id.ClassId.{ClassId}
use Rattle.jdwp_values.specs.declared.id.MethodId.{MethodId}
use Rattle.jdwp_values.specs.declared.class.Method.{Method}
use Rattle.jdwp_values.specs.declared.class.Field.{Field}
use Rattle.jdwp_values.specs.declared.class.LineTable.{LineTable}
use Rattle.jdwp_values.specs.declared.class.Variable.{Variable}
use Rattle.class_tables.specs.declared.loaded.Loaded.{Loaded}
use Rattle.class_tables.specs.Tables.{under, keys}
use Rattle.class_tables.specs.Facts.{Known, same_class, same_method}

-- The loaded classes in the order in which they were first learnt, and each fact of a class or a method, where it was
-- learnt.
pub record Lookups : Type 0 where
  pub order : List ClassId
  pub loaded : ClassId → Option Loaded
  pub source : ClassId → Option (Option (List ℕ))
  pub methods : ClassId → Option (List Method)
  pub lines : ClassId → MethodId → Option (Option LineTable)
  pub variables : ClassId → MethodId → Option (Option (List Variable))
  pub fields : ClassId → Option (List Field)
  pub above : ClassId → Option ClassId

-- what tables have
abbrev pub found_in : Known → Lookups
found_in known = record {
  order = keys known.loaded;
  loaded = λ class. under same_class class known.loaded;
  source = λ class. under same_class class known.sources;
  methods = λ class. under same_class class known.methods;
  lines = λ class method. under same_method (class, method) known.lines;
  variables = λ class method. under same_method (class, method) known.variables;
  fields = λ class. under same_class class known.fields;
  above = λ class. under same_class class known.supers;
}
