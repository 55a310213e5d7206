-- What a living world says of a class by its id. What a class file doesn't say is empty, or none.
use Rattle.std.specs.Prelude.{ℕ, zero, suc, List, [], Option, option_map}
use Rattle.std.specs.Result.{result_ok, result_unwrap_or}
use Rattle.jdwp_values.specs.declared.class.LineTable.{LineTable}
use Rattle.jdwp_values.specs.declared.class.Method.{Method}
use Rattle.jdwp_values.specs.declared.class.Variable.{Variable}
use Rattle.jdwp_values.specs.declared.id.ClassId.{ClassId}
use Rattle.jdwp_values.specs.declared.id.MethodId.{MethodId}
use Rattle.jdwp_values.specs.declared.id.ObjectId.{ObjectId}
use Rattle.world_model.specs.Classes.{lines_in, methods_in, signature_in, source_in, variables_in}
use Rattle.world_model.specs.Objects.{class_of}
use Rattle.world_model.specs.declared.world.World.{World}

-- the signature of a class (JDWP, ReferenceType command set, Signature)
abbrev pub signature : World → ClassId → List ℕ
signature w class = result_unwrap_or (signature_in w class) []

-- the name of its source file (JDWP, ReferenceType command set, SourceFile)
abbrev pub source : World → ClassId → Option (List ℕ)
source w class = result_ok (source_in w class)

-- its methods, in their order (JDWP, ReferenceType command set, Methods)
abbrev pub methods : World → ClassId → List Method
methods w class = result_unwrap_or (methods_in w class) []

-- the line table of one of its methods (JDWP, Method command set, LineTable)
abbrev pub line_table : World → ClassId → MethodId → Option LineTable
line_table w class method = result_ok (lines_in w class method)

-- the variables of one of its methods, in the order of their table (JDWP, Method command set, VariableTable)
abbrev pub variables : World → ClassId → MethodId → List Variable
variables w class method = result_unwrap_or (variables_in w class method) []

-- the signature of the class of an object (JDWP, ObjectReference command set, ReferenceType)
abbrev pub type_of : World → ObjectId → Option (List ℕ)
type_of w object = option_map (signature w) (class_of w object)

-- by an object's id: that of null is 0 (JDWP, Detailed Command Information, common data types, objectID)
abbrev pub if_null : {A : Type 0} → ℕ → A → A → A
if_null zero null other = null
if_null (suc id) null other = other
