-- What a target's world has of its classes, beside what a session knows of them.
use Rattle.std.specs.Prelude.{ℕ, ◌≡◌, true, List, [], Option, Some}
use Rattle.std.specs.Result.{result_ok, result_unwrap_or}
use Rattle.class_tables.specs.Lookups.{Lookups}
use Rattle.class_tables.specs.declared.loaded.Loaded.{Loaded}
use Rattle.jdwp_values.specs.declared.class.Field.{Field}
use Rattle.jdwp_values.specs.declared.class.LineTable.{LineTable}
use Rattle.jdwp_values.specs.declared.class.Method.{Method}
use Rattle.jdwp_values.specs.declared.class.Variable.{Variable}
use Rattle.jdwp_values.specs.declared.id.ClassId.{ClassId}
use Rattle.jdwp_values.specs.declared.id.MethodId.{MethodId}
use Rattle.world_model.specs.Classes.{above_in, fields_in, has_class, lines_in, methods_in, source_in, tag_in}
use Rattle.world_model.specs.Classes.{variables_in}
use Rattle.world_model.specs.Emitting.{signature_of}
use Rattle.world_model.specs.MoveFacts.{is_prepared}
use Rattle.world_model.specs.declared.world.World.{World}

-- A class is there with this tag and this signature, and prepared where that is known of it (JDWP, VirtualMachine
-- command set, AllClasses; JDWP, Event command set, Composite, ClassPrepare).
pub record IsClassOf (w : World) (class : ClassId) (known : Loaded) : Type 0 where
  pub there : has_class w class ≡ true
  pub tag : tag_in w class ≡ known.tag
  pub signature : signature_of w class ≡ known.signature
  pub prepared : known.prepared ≡ true → is_prepared w class ≡ true

-- the name of the source file of a class, where it has one (JDWP, ReferenceType command set, SourceFile)
abbrev pub source_file : World → ClassId → Option (List ℕ)
source_file w class = result_ok (source_in w class)

-- the methods of a class, none where it isn't there (JDWP, ReferenceType command set, Methods)
abbrev pub methods_of : World → ClassId → List Method
methods_of w class = result_unwrap_or (methods_in w class) []

-- the lines of a method, where they are known (JDWP, Method command set, LineTable)
abbrev pub lines_of : World → ClassId → MethodId → Option LineTable
lines_of w class method = result_ok (lines_in w class method)

-- the variables of a method, where they are known (JDWP, Method command set, VariableTable)
abbrev pub variables_of : World → ClassId → MethodId → Option (List Variable)
variables_of w class method = result_ok (variables_in w class method)

-- the fields of a class, none where it isn't there (JDWP, ReferenceType command set, Fields)
abbrev pub fields_of : World → ClassId → List Field
fields_of w class = result_unwrap_or (fields_in w class) []

-- the class that a class extends, and 0 where there is none (JDWP, ClassType command set, Superclass)
abbrev pub above_of : World → ClassId → ClassId
above_of w class = result_unwrap_or (above_in w class) (record { 0 = 0 })

-- Each fact of a class that is known is what the world has.
pub record AreClassesOf (w : World) (known : Lookups) : Type 0 where
  pub loaded : (class : ClassId) (found : Loaded) → known.loaded class ≡ Some found → IsClassOf w class found
  pub source : (class : ClassId) (found : Option (List ℕ)) → known.source class ≡ Some found
      → found ≡ source_file w class
  pub methods : (class : ClassId) (found : List Method) → known.methods class ≡ Some found
      → found ≡ methods_of w class
  pub lines : (class : ClassId) (method : MethodId) (found : Option LineTable)
      → known.lines class method ≡ Some found → found ≡ lines_of w class method
  pub variables : (class : ClassId) (method : MethodId) (found : Option (List Variable))
      → known.variables class method ≡ Some found → found ≡ variables_of w class method
  pub fields : (class : ClassId) (found : List Field) → known.fields class ≡ Some found → found ≡ fields_of w class
  pub above : (class : ClassId) (found : ClassId) → known.above class ≡ Some found → found ≡ above_of w class
