-- What a world says of its classes (JDWP, Detailed Command Information, command sets VirtualMachine, ReferenceType,
-- ClassType and Method).
use Rattle.std.specs.Prelude.{ℕ, ℤ, pos, negsuc, Bool, ◌==◌, ◌&&◌, int_lt, if◌then◌else◌, List, [], ◌∷◌, map, filter}
use Rattle.std.specs.Prelude.{find}
use Rattle.std.specs.Prelude.{bytes_eq, codes, Option, Some, None, option_map, is_some, Result, Ok, Err, ok_or}
use Rattle.std.specs.Option.{option_map_or}
use Rattle.jdwp_values.specs.declared.id.ClassId.{ClassId}
use Rattle.jdwp_values.specs.declared.id.MethodId.{MethodId}
use Rattle.jdwp_values.specs.declared.class.Method.{Method}
use Rattle.jdwp_values.specs.declared.class.Field.{Field}
use Rattle.jdwp_values.specs.declared.class.Line.{Line}
use Rattle.jdwp_values.specs.declared.class.LineTable.{LineTable}
use Rattle.jdwp_values.specs.declared.class.Variable.{Variable}
use Rattle.jdwp_values.specs.declared.tag.TypeTag.{TypeTag}
use Rattle.jdwp_values.specs.declared.tag.TypeTag.TheVariants as type_tags
use Rattle.jdwp_commands.specs.declared.listed.ClassStatus.{ClassStatus}
use Rattle.jdwp_commands.specs.declared.listed.LoadedClass.{LoadedClass}
use Rattle.world_model.specs.declared.rows.WorldClass.{WorldClass}
use Rattle.world_model.specs.declared.rows.WorldMethod.{WorldMethod}
use Rattle.world_model.specs.declared.world.World.{World}
use Rattle.world_model.specs.Codes.{invalid_class, not_implemented, absent_information}

-- the class with an id, if it is there
abbrev pub class_in : World → ClassId → Option WorldClass
class_in w class = find (λ row. row.id.0 == class.0) w.classes

-- whether it is there
abbrev pub has_class : World → ClassId → Bool
has_class w class = is_some (class_in w class)

-- the status of a class: PREPARED, 2, or nothing (JDWP, Constants, ClassStatus)
abbrev pub status_of : WorldClass → ℤ
status_of row = if row.prepared then pos 2 else pos 0

-- a class in the list of all classes (JDWP, VirtualMachine command set, AllClasses)
abbrev pub loaded_class : WorldClass → LoadedClass
loaded_class row = record { tag = row.tag; class = row.id; signature = row.signature; status = status_of row }

-- a class in a list of the classes of one signature (JDWP, VirtualMachine command set, ClassesBySignature)
abbrev pub class_status : WorldClass → ClassStatus
class_status row = record { tag = row.tag; class = row.id; status = status_of row }

-- the classes that have a signature, in the order of all classes (JDWP, VirtualMachine command set, ClassesBySignature)
abbrev pub classes_of : World → List ℕ → List ClassStatus
classes_of w signature = map class_status (filter (λ row. bytes_eq row.signature signature) w.classes)

-- what a class is; nothing where it isn't there (JDWP, Constants, TypeTag)
abbrev pub tag_in : World → ClassId → TypeTag
tag_in w class = option_map_or (λ row. row.tag) (class_in w class) type_tags.Nothing

-- the class of all threads, which no world lists
abbrev pub is_threads_class : ClassId → Bool
is_threads_class class = class.0 == 0

-- the signature of a class (JDWP, ReferenceType command set, Signature)
abbrev pub signature_in : World → ClassId → Result (List ℕ) ℕ
signature_in w class =
    if is_threads_class class then Ok (codes "Ljava/lang/Thread;")
    else ok_or (option_map (λ row. row.signature) (class_in w class)) invalid_class

-- the name of a class's source file, where it has one (JDWP, ReferenceType command set, SourceFile)
abbrev pub source_of : Option WorldClass → Result (List ℕ) ℕ
source_of None = Err invalid_class
source_of (Some row) = ok_or row.source absent_information

-- the source file of the class with an id
abbrev pub source_in : World → ClassId → Result (List ℕ) ℕ
source_in w class = source_of (class_in w class)

-- the class that a class extends, 0 where there is none (JDWP, ClassType command set, Superclass)
abbrev pub above_in : World → ClassId → Result ClassId ℕ
above_in w class =
    if is_threads_class class then Ok class
    else ok_or (option_map (λ row. row.above) (class_in w class)) invalid_class

-- the fields of a class itself, in their order
abbrev pub fields_of : World → ClassId → List Field
fields_of w class = map (λ row. row.field) (filter (λ row. row.class.0 == class.0) w.fields)

-- the fields of a class; that of threads shows none (JDWP, ReferenceType command set, Fields)
abbrev pub fields_in : World → ClassId → Result (List Field) ℕ
fields_in w class =
    if is_threads_class class then Ok [] else if has_class w class then Ok (fields_of w class) else Err invalid_class

-- the methods of a class itself, in their order
abbrev pub methods_of : World → ClassId → List Method
methods_of w class = map (λ row. row.method) (filter (λ row. row.class.0 == class.0) w.methods)

-- the methods of a class (JDWP, ReferenceType command set, Methods)
abbrev pub methods_in : World → ClassId → Result (List Method) ℕ
methods_in w class = if has_class w class then Ok (methods_of w class) else Err invalid_class

-- the method of a class with an id, if it is there
abbrev pub method_in : World → ClassId → MethodId → Option WorldMethod
method_in w class method =
    find (λ row. (row.class.0 == class.0) && (row.method.id.0 == method.0)) w.methods

-- the same, or why it isn't there
abbrev pub method_at : World → ClassId → MethodId → Result WorldMethod ℕ
method_at w class method =
    if has_class w class then ok_or (method_in w class method) not_implemented else Err invalid_class

-- the code of a native method begins at -1 (JDWP, Method command set, LineTable, start)
abbrev pub is_native : WorldMethod → Bool
is_native row = int_lt row.start (pos 0)

-- the lines of a method, where they are known (JDWP, Method command set, LineTable)
abbrev pub known_lines : WorldMethod → Option (List Line) → Result LineTable ℕ
known_lines row None = Err absent_information
known_lines row (Some lines) = Ok (record { start = row.start; end = row.end; lines = lines })

-- the line table of a method: that of a native one has no lines
abbrev pub lines_of : WorldMethod → Result LineTable ℕ
lines_of row =
    if is_native row then Ok (record { start = negsuc 0; end = negsuc 0; lines = [] }) else known_lines row row.lines

-- what is said of something that was found; else the error stays
abbrev pub and_then : {A B : Type 0} → (A → Result B ℕ) → Result A ℕ → Result B ℕ
and_then of (Ok x) = of x
and_then of (Err code) = Err code

-- the line table of the method of a class with an id
abbrev pub lines_in : World → ClassId → MethodId → Result LineTable ℕ
lines_in w class method = and_then lines_of (method_at w class method)

-- the variables of a method, in their order
abbrev pub variables_of : World → ClassId → MethodId → List Variable
variables_of w class method = map (λ row. row.variable)
    (filter (λ row. (row.class.0 == class.0) && (row.method.0 == method.0)) w.variables)

-- variables are known where there are any (JDWP, Method command set, VariableTable)
abbrev pub some_variables : List Variable → Result (List Variable) ℕ
some_variables [] = Err absent_information
some_variables (variable ∷ variables) = Ok (variable ∷ variables)

-- the variables of the method of a class with an id
abbrev pub variables_in : World → ClassId → MethodId → Result (List Variable) ℕ
variables_in w class method = and_then (λ row. some_variables (variables_of w class method)) (method_at w class method)
