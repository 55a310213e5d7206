-- The names of questions (JDWP, Detailed Command Information). They are those of the program's own table of commands.
use Rattle.std.specs.Prelude.{ℕ, List, codes, Option, Some, None, if◌then◌else◌}
use Rattle.std.specs.Str.{bytes_eq}
use Rattle.jdwp_commands.specs.declared.kind.QuestionKind.{QuestionKind}
use Rattle.jdwp_commands.specs.declared.kind.QuestionKind.TheVariants as kinds

-- the name of a question
abbrev pub name_of : QuestionKind → List ℕ
name_of kinds.ClassesBySignature = codes "ClassesBySignature"
name_of kinds.AllClasses = codes "AllClasses"
name_of kinds.AllThreads = codes "AllThreads"
name_of kinds.IdSizes = codes "IdSizes"
name_of kinds.Signature = codes "Signature"
name_of kinds.Fields = codes "Fields"
name_of kinds.Methods = codes "Methods"
name_of kinds.SourceFile = codes "SourceFile"
name_of kinds.Superclass = codes "Superclass"
name_of kinds.LineTable = codes "LineTable"
name_of kinds.VariableTable = codes "VariableTable"
name_of kinds.ObjectType = codes "ObjectType"
name_of kinds.GetFields = codes "GetFields"
name_of kinds.StringValue = codes "StringValue"
name_of kinds.ThreadName = codes "ThreadName"
name_of kinds.Frames = codes "Frames"
name_of kinds.FrameCount = codes "FrameCount"
name_of kinds.ArrayLength = codes "ArrayLength"
name_of kinds.GetElements = codes "GetElements"
name_of kinds.GetSlots = codes "GetSlots"
name_of kinds.ThisObject = codes "ThisObject"

-- the question of a name
abbrev pub kind_of_name : List ℕ → Option QuestionKind
kind_of_name name =
    if bytes_eq name (codes "ClassesBySignature") then Some kinds.ClassesBySignature else
    (if bytes_eq name (codes "AllClasses") then Some kinds.AllClasses else
    (if bytes_eq name (codes "AllThreads") then Some kinds.AllThreads else
    (if bytes_eq name (codes "IdSizes") then Some kinds.IdSizes else
    (if bytes_eq name (codes "Signature") then Some kinds.Signature else
    (if bytes_eq name (codes "Fields") then Some kinds.Fields else
    (if bytes_eq name (codes "Methods") then Some kinds.Methods else
    (if bytes_eq name (codes "SourceFile") then Some kinds.SourceFile else
    (if bytes_eq name (codes "Superclass") then Some kinds.Superclass else
    (if bytes_eq name (codes "LineTable") then Some kinds.LineTable else
    (if bytes_eq name (codes "VariableTable") then Some kinds.VariableTable else
    (if bytes_eq name (codes "ObjectType") then Some kinds.ObjectType else
    (if bytes_eq name (codes "GetFields") then Some kinds.GetFields else
    (if bytes_eq name (codes "StringValue") then Some kinds.StringValue else
    (if bytes_eq name (codes "ThreadName") then Some kinds.ThreadName else
    (if bytes_eq name (codes "Frames") then Some kinds.Frames else
    (if bytes_eq name (codes "FrameCount") then Some kinds.FrameCount else
    (if bytes_eq name (codes "ArrayLength") then Some kinds.ArrayLength else
    (if bytes_eq name (codes "GetElements") then Some kinds.GetElements else
    (if bytes_eq name (codes "GetSlots") then Some kinds.GetSlots else
    (if bytes_eq name (codes "ThisObject") then Some kinds.ThisObject else
    None))))))))))))))))))))
