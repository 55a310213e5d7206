-- Questions whose numbers are of their types: what every question of the program is, but not each of a law.
use Rattle.std.specs.Prelude.{ℕ, ◌<◌, ◌^◌, List, [], ◌∷◌, FitsSigned}
use Rattle.std.specs.List.{AllByRecursion}
use Rattle.std.specs.Int.{w32}
use Rattle.hex.specs.Hex.{IsBytes}
use Rattle.jdwp_commands.specs.declared.listed.Slot.{Slot}
use Rattle.jdwp_commands.specs.declared.question.Question.{Question}
use Rattle.jdwp_commands.specs.declared.question.Question.TheVariants as questions
use Rattle.jdwp_values.specs.declared.id.FieldId.{FieldId}

-- an id has 64 bits
abbrev pub IsId : ℕ → Type 0
IsId n = n < 2 ^ 64

-- a slot has 32 bits, and its tag 8
abbrev pub IsSlot : Slot → Type 0
IsSlot s = FitsSigned w32 s.slot × (s.tag < 256)

abbrev pub IsSayable : Question → Type 0
IsSayable (questions.ClassesBySignature signature) = IsBytes signature
IsSayable questions.AllClasses = Unit {0}
IsSayable questions.AllThreads = Unit {0}
IsSayable questions.IdSizes = Unit {0}
IsSayable (questions.Signature class) = IsId class.0
IsSayable (questions.Fields class) = IsId class.0
IsSayable (questions.Methods class) = IsId class.0
IsSayable (questions.SourceFile class) = IsId class.0
IsSayable (questions.Superclass class) = IsId class.0
IsSayable (questions.LineTable class method) = IsId class.0 × IsId method.0
IsSayable (questions.VariableTable class method) = IsId class.0 × IsId method.0
IsSayable (questions.ObjectType object) = IsId object.0
IsSayable (questions.GetFields object fields) = IsId object.0 × AllByRecursion (λ field. IsId field.0) fields
IsSayable (questions.StringValue object) = IsId object.0
IsSayable (questions.ThreadName thread) = IsId thread.0
IsSayable (questions.Frames thread first n) = IsId thread.0 × (FitsSigned w32 first × FitsSigned w32 n)
IsSayable (questions.FrameCount thread) = IsId thread.0
IsSayable (questions.ArrayLength array) = IsId array.0
IsSayable (questions.GetElements array first n) = IsId array.0 × (FitsSigned w32 first × FitsSigned w32 n)
IsSayable (questions.GetSlots thread frame slots) = IsId thread.0 × (IsId frame.0 × AllByRecursion IsSlot slots)
IsSayable (questions.ThisObject thread frame) = IsId thread.0 × IsId frame.0
