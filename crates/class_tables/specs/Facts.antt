-- What a session learns of a target's classes, fact by fact (JDWP, Detailed Command Information, command sets
-- VirtualMachine, ReferenceType, ClassType and Method).
use Rattle.std.specs.Prelude.{ℕ, Bool, false, ◌==◌, ◌&&◌, ◌||◌, List, [], Option, Some, None}
use Rattle.jdwp_values.specs.declared.id.ClassId.{ClassId}
use Rattle.jdwp_values.specs.declared.id.MethodId.{MethodId}
use Rattle.jdwp_values.specs.declared.tag.TypeTag.{TypeTag}
use Rattle.jdwp_values.specs.declared.class.Method.{Method}
use Rattle.jdwp_values.specs.declared.class.Field.{Field}
use Rattle.jdwp_values.specs.declared.class.LineTable.{LineTable}
use Rattle.jdwp_values.specs.declared.class.Variable.{Variable}
use Rattle.class_tables.specs.declared.loaded.Loaded.{Loaded}
use Rattle.class_tables.specs.Tables.{under, put}

-- a class, and a method of it: the id of a method holds within its class alone (JDWP, Detailed Command Information,
-- common data types, methodID)
abbrev pub MethodOf : Type 0
MethodOf = ClassId × MethodId

-- whether two ids are those of one class
abbrev pub same_class : ClassId → ClassId → Bool
same_class a b = a.0 == b.0

-- and whether two are those of one method
abbrev pub same_method : MethodOf → MethodOf → Bool
same_method a b = same_class a.0 b.0 && (a.1.0 == b.1.0)

-- A fact of a class, as an answer or an event tells it.
pub data Fact : Type 0 where
  -- what it is, its signature, and whether its status has PREPARED (JDWP, VirtualMachine command set, AllClasses; JDWP,
  -- Event command set, Composite, ClassPrepare)
  is_loaded : ClassId → TypeTag → List ℕ → Bool → Fact
  -- the name of its source file, where it has one (JDWP, ReferenceType command set, SourceFile)
  has_source : ClassId → Option (List ℕ) → Fact
  -- its methods (JDWP, ReferenceType command set, Methods)
  has_methods : ClassId → List Method → Fact
  -- the lines of a method, where it has them (JDWP, Method command set, LineTable)
  has_lines : ClassId → MethodId → Option LineTable → Fact
  -- the variables of a method, where it has them (JDWP, Method command set, VariableTable)
  has_variables : ClassId → MethodId → Option (List Variable) → Fact
  -- its fields (JDWP, ReferenceType command set, Fields)
  has_fields : ClassId → List Field → Fact
  -- the class that it extends (JDWP, ClassType command set, Superclass)
  is_below : ClassId → ClassId → Fact

-- What was learnt last under each key: a table for each kind of fact, its keys in the order in which they came.
pub record Known : Type 0 where
  pub loaded : List (ClassId × Loaded)
  pub sources : List (ClassId × Option (List ℕ))
  pub methods : List (ClassId × List Method)
  pub lines : List (MethodOf × Option LineTable)
  pub variables : List (MethodOf × Option (List Variable))
  pub fields : List (ClassId × List Field)
  pub supers : List (ClassId × ClassId)

-- before anything was learnt
abbrev pub nothing : Known
nothing = record { loaded = []; sources = []; methods = []; lines = []; variables = []; fields = []; supers = [] }

-- whether a class is known to be prepared (JDWP, Constants, ClassStatus, PREPARED)
abbrev pub is_prepared : Option Loaded → Bool
is_prepared None = false
is_prepared (Some class) = class.prepared

-- a fact is learnt: it replaces what was known under its key, but a class that was prepared stays so
abbrev pub with_fact : Fact → Known → Known
with_fact (is_loaded class tag signature prepared) known =
    let stays = prepared || is_prepared (under same_class class known.loaded) in
    record known {
      loaded = put same_class class (record { tag = tag; signature = signature; prepared = stays }) known.loaded;
    }
with_fact (has_source class source) known = record known { sources = put same_class class source known.sources }
with_fact (has_methods class methods) known = record known { methods = put same_class class methods known.methods }
with_fact (has_lines class method lines) known =
    record known { lines = put same_method (class, method) lines known.lines }
with_fact (has_variables class method variables) known =
    record known { variables = put same_method (class, method) variables known.variables }
with_fact (has_fields class fields) known = record known { fields = put same_class class fields known.fields }
with_fact (is_below class above) known = record known { supers = put same_class class above known.supers }
