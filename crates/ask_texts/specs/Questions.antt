-- The questions, each with the parts of its line: a row for each (JDWP, Detailed Command Information).
use Rattle.std.specs.Prelude.{ℕ, ℤ, List, Option, Some, None, option_map, option_and_then}
use Rattle.jdwp_commands.specs.declared.kind.QuestionKind.{QuestionKind}
use Rattle.jdwp_commands.specs.declared.kind.QuestionKind.TheVariants as kinds
use Rattle.jdwp_commands.specs.declared.question.Question.{Question}
use Rattle.jdwp_commands.specs.declared.question.Question.TheVariants as questions
use Rattle.line_elements.specs.Numbers.{int_of}
use Rattle.line_elements.specs.Values.{list_of, two_of}
use Rattle.serde_json.specs.Data.{Data, Items}
use Rattle.ask_texts.specs.Parts.{bytes_in, field_in, id_of, nothing_in, only_of, slot_of, three_of}

-- of one part
abbrev pub one_in : {A B : Type 0} → (Data → Option A) → (A → B) → Items → Option B
one_in first make ds = option_map make (option_and_then first (only_of ds))

-- of two parts
abbrev pub both_in : {A B C : Type 0} → (Data → Option A) → (Data → Option B) → (A → B → C) → Data × Data → Option C
both_in first second make pair = option_and_then (λ x. option_map (make x) (second pair.1)) (first pair.0)

abbrev pub two_in : {A B C : Type 0} → (Data → Option A) → (Data → Option B) → (A → B → C) → Items → Option C
two_in first second make ds = option_and_then (both_in first second make) (two_of ds)

-- of three parts
abbrev pub all_in : {A B C D : Type 0} → (Data → Option A) → (Data → Option B) → (Data → Option C)
    → (A → B → C → D) → Data × (Data × Data) → Option D
all_in first second third make three =
    option_and_then (λ x. option_and_then (λ y. option_map (make x y) (third three.1.1)) (second three.1.0))
    (first three.0)

abbrev pub three_in : {A B C D : Type 0} → (Data → Option A) → (Data → Option B) → (Data → Option C)
    → (A → B → C → D) → Items → Option D
three_in first second third make ds = option_and_then (all_in first second third make) (three_of ds)

-- a question of ids and numbers alone, where the elements behind its name are its parts
abbrev pub plain_of : QuestionKind → Items → Option Question
plain_of kinds.ClassesBySignature = λ ds. None
plain_of kinds.AllClasses = nothing_in questions.AllClasses
plain_of kinds.AllThreads = nothing_in questions.AllThreads
plain_of kinds.IdSizes = nothing_in questions.IdSizes
plain_of kinds.Signature = one_in id_of (λ class. questions.Signature (record { 0 = class }))
plain_of kinds.Fields = one_in id_of (λ class. questions.Fields (record { 0 = class }))
plain_of kinds.Methods = one_in id_of (λ class. questions.Methods (record { 0 = class }))
plain_of kinds.SourceFile = one_in id_of (λ class. questions.SourceFile (record { 0 = class }))
plain_of kinds.Superclass = one_in id_of (λ class. questions.Superclass (record { 0 = class }))
plain_of kinds.LineTable =
    two_in id_of id_of (λ class method. questions.LineTable (record { 0 = class }) (record { 0 = method }))
plain_of kinds.VariableTable =
    two_in id_of id_of (λ class method. questions.VariableTable (record { 0 = class }) (record { 0 = method }))
plain_of kinds.ObjectType = one_in id_of (λ object. questions.ObjectType (record { 0 = object }))
plain_of kinds.GetFields = λ ds. None
plain_of kinds.StringValue = one_in id_of (λ object. questions.StringValue (record { 0 = object }))
plain_of kinds.ThreadName = one_in id_of (λ thread. questions.ThreadName (record { 0 = thread }))
plain_of kinds.Frames =
    three_in id_of int_of int_of (λ thread first n. questions.Frames (record { 0 = thread }) first n)
plain_of kinds.FrameCount = one_in id_of (λ thread. questions.FrameCount (record { 0 = thread }))
plain_of kinds.ArrayLength = one_in id_of (λ array. questions.ArrayLength (record { 0 = array }))
plain_of kinds.GetElements =
    three_in id_of int_of int_of (λ array first n. questions.GetElements (record { 0 = array }) first n)
plain_of kinds.GetSlots = λ ds. None
plain_of kinds.ThisObject =
    two_in id_of id_of (λ thread frame. questions.ThisObject (record { 0 = thread }) (record { 0 = frame }))

-- The question of a kind, where the elements behind its name are its parts.
abbrev pub question_of : QuestionKind → Items → Option Question
question_of kinds.ClassesBySignature = one_in bytes_in questions.ClassesBySignature
question_of kinds.AllClasses = plain_of kinds.AllClasses
question_of kinds.AllThreads = plain_of kinds.AllThreads
question_of kinds.IdSizes = plain_of kinds.IdSizes
question_of kinds.Signature = plain_of kinds.Signature
question_of kinds.Fields = plain_of kinds.Fields
question_of kinds.Methods = plain_of kinds.Methods
question_of kinds.SourceFile = plain_of kinds.SourceFile
question_of kinds.Superclass = plain_of kinds.Superclass
question_of kinds.LineTable = plain_of kinds.LineTable
question_of kinds.VariableTable = plain_of kinds.VariableTable
question_of kinds.ObjectType = plain_of kinds.ObjectType
question_of kinds.GetFields =
    two_in id_of (list_of field_in) (λ object fields. questions.GetFields (record { 0 = object }) fields)
question_of kinds.StringValue = plain_of kinds.StringValue
question_of kinds.ThreadName = plain_of kinds.ThreadName
question_of kinds.Frames = plain_of kinds.Frames
question_of kinds.FrameCount = plain_of kinds.FrameCount
question_of kinds.ArrayLength = plain_of kinds.ArrayLength
question_of kinds.GetElements = plain_of kinds.GetElements
question_of kinds.GetSlots = three_in id_of id_of (list_of slot_of)
    (λ thread frame slots. questions.GetSlots (record { 0 = thread }) (record { 0 = frame }) slots)
question_of kinds.ThisObject = plain_of kinds.ThisObject
