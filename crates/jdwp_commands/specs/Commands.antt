-- What the commands are made of (JDWP, Detailed Command Information): for each the items of its body.
--
-- `command_at` reads a command, `spell_command` is its body, `FitsCommand` says that it has a spelling, and
-- `InRangeCommand` that its numbers are of their types.
use Rattle.std.specs.Prelude.{ℕ, List, [], ◌∷◌, Option, Some, None, Result, Ok, Err}
use Rattle.jdwp_values.specs.declared.fault.RowFault.{RowFault}
use Rattle.jdwp_values.specs.declared.limit.Limit.TheVariants.{Any, Exactly}
use Rattle.jdwp_values.specs.declared.sizes.IdSizes.{IdSizes}
use Rattle.jdwp_values.specs.Parts.{int, number, object, thread, class, method, field, frame, count, text, value, tail}
use Rattle.jdwp_values.specs.Reading.{Place}
use Rattle.jdwp_values.specs.Rows.{◌>>=◌}
use Rattle.jdwp_commands.specs.declared.asked.Asked.{Asked}
use Rattle.jdwp_commands.specs.declared.asked.Asked.TheVariants.{Question as a_question, Effect as an_effect}
use Rattle.jdwp_commands.specs.declared.effect.Effect.{Effect}
use Rattle.jdwp_commands.specs.declared.effect.Effect.TheVariants as effects
use Rattle.jdwp_commands.specs.declared.fault.BodyFault.{BodyFault}
use Rattle.jdwp_commands.specs.declared.fault.BodyFault.TheVariants.{UnknownCommand}
use Rattle.jdwp_commands.specs.declared.kind.CommandKind.{CommandKind}
use Rattle.jdwp_commands.specs.declared.kind.CommandKind.TheVariants as commands
use Rattle.jdwp_commands.specs.declared.kind.EffectKind.{EffectKind}
use Rattle.jdwp_commands.specs.declared.kind.EffectKind.TheVariants as effect_kinds
use Rattle.jdwp_commands.specs.declared.kind.QuestionKind.{QuestionKind}
use Rattle.jdwp_commands.specs.declared.kind.QuestionKind.TheVariants as question_kinds
use Rattle.jdwp_commands.specs.declared.question.Question.{Question}
use Rattle.jdwp_commands.specs.declared.question.Question.TheVariants as questions
use Rattle.jdwp_commands.specs.Bodies.{whole}
use Rattle.jdwp_commands.specs.Items.{field_ids, modifiers, slots, Item, part, many, event_kind, policy, items_at}
use Rattle.jdwp_commands.specs.Items.{Saying, says, spell_sayings, FitsSayings, InRangeSayings}
use Rattle.jdwp_commands.specs.Kinds.{numbers, kind_of_numbers}
use Rattle.jdwp_commands.specs.Table.{question_table, effect_table}

-- which question it is
abbrev pub kind_of_question : Question → QuestionKind
kind_of_question (questions.ClassesBySignature _) = question_kinds.ClassesBySignature
kind_of_question questions.AllClasses = question_kinds.AllClasses
kind_of_question questions.AllThreads = question_kinds.AllThreads
kind_of_question questions.IdSizes = question_kinds.IdSizes
kind_of_question (questions.Signature _) = question_kinds.Signature
kind_of_question (questions.Fields _) = question_kinds.Fields
kind_of_question (questions.Methods _) = question_kinds.Methods
kind_of_question (questions.SourceFile _) = question_kinds.SourceFile
kind_of_question (questions.Superclass _) = question_kinds.Superclass
kind_of_question (questions.LineTable _ _) = question_kinds.LineTable
kind_of_question (questions.VariableTable _ _) = question_kinds.VariableTable
kind_of_question (questions.ObjectType _) = question_kinds.ObjectType
kind_of_question (questions.GetFields _ _) = question_kinds.GetFields
kind_of_question (questions.StringValue _) = question_kinds.StringValue
kind_of_question (questions.ThreadName _) = question_kinds.ThreadName
kind_of_question (questions.Frames _ _ _) = question_kinds.Frames
kind_of_question (questions.FrameCount _) = question_kinds.FrameCount
kind_of_question (questions.ArrayLength _) = question_kinds.ArrayLength
kind_of_question (questions.GetElements _ _ _) = question_kinds.GetElements
kind_of_question (questions.GetSlots _ _ _) = question_kinds.GetSlots
kind_of_question (questions.ThisObject _ _) = question_kinds.ThisObject

-- which effect it is
abbrev pub kind_of_effect : Effect → EffectKind
kind_of_effect effects.Dispose = effect_kinds.Dispose
kind_of_effect effects.Suspend = effect_kinds.Suspend
kind_of_effect effects.Resume = effect_kinds.Resume
kind_of_effect (effects.Exit _) = effect_kinds.Exit
kind_of_effect (effects.SetField _ _ _) = effect_kinds.SetField
kind_of_effect (effects.SetElement _ _ _) = effect_kinds.SetElement
kind_of_effect (effects.Set _ _ _) = effect_kinds.Set
kind_of_effect (effects.Clear _ _) = effect_kinds.Clear
kind_of_effect (effects.SetSlot _ _ _ _) = effect_kinds.SetSlot

-- which command it is
abbrev pub kind_of : Asked → CommandKind
kind_of (a_question q) = commands.Question (kind_of_question q)
kind_of (an_effect e) = commands.Effect (kind_of_effect e)

-- the numbers of a command: that of its set, and its own in there
abbrev pub number_of : Asked → ℕ × ℕ
number_of asked = numbers (kind_of asked)

-- the items of each question's body
abbrev pub question_row : QuestionKind → List Item
question_row kind = (question_table kind).body

-- the items of each effect's body
abbrev pub effect_row : EffectKind → List Item
effect_row kind = (effect_table kind).body

-- a question read by its row
abbrev pub question_at : QuestionKind → Place → Result (Question × Place) RowFault
question_at question_kinds.ClassesBySignature =
    items_at (question_row question_kinds.ClassesBySignature) questions.ClassesBySignature
question_at question_kinds.AllClasses = items_at (question_row question_kinds.AllClasses) questions.AllClasses
question_at question_kinds.AllThreads = items_at (question_row question_kinds.AllThreads) questions.AllThreads
question_at question_kinds.IdSizes = items_at (question_row question_kinds.IdSizes) questions.IdSizes
question_at question_kinds.Signature = items_at (question_row question_kinds.Signature) questions.Signature
question_at question_kinds.Fields = items_at (question_row question_kinds.Fields) questions.Fields
question_at question_kinds.Methods = items_at (question_row question_kinds.Methods) questions.Methods
question_at question_kinds.SourceFile = items_at (question_row question_kinds.SourceFile) questions.SourceFile
question_at question_kinds.Superclass = items_at (question_row question_kinds.Superclass) questions.Superclass
question_at question_kinds.LineTable = items_at (question_row question_kinds.LineTable) questions.LineTable
question_at question_kinds.VariableTable = items_at (question_row question_kinds.VariableTable) questions.VariableTable
question_at question_kinds.ObjectType = items_at (question_row question_kinds.ObjectType) questions.ObjectType
question_at question_kinds.GetFields = items_at (question_row question_kinds.GetFields) questions.GetFields
question_at question_kinds.StringValue = items_at (question_row question_kinds.StringValue) questions.StringValue
question_at question_kinds.ThreadName = items_at (question_row question_kinds.ThreadName) questions.ThreadName
question_at question_kinds.Frames = items_at (question_row question_kinds.Frames) questions.Frames
question_at question_kinds.FrameCount = items_at (question_row question_kinds.FrameCount) questions.FrameCount
question_at question_kinds.ArrayLength = items_at (question_row question_kinds.ArrayLength) questions.ArrayLength
question_at question_kinds.GetElements = items_at (question_row question_kinds.GetElements) questions.GetElements
question_at question_kinds.GetSlots = items_at (question_row question_kinds.GetSlots) questions.GetSlots
question_at question_kinds.ThisObject = items_at (question_row question_kinds.ThisObject) questions.ThisObject

-- an effect read by its row
abbrev pub effect_at : EffectKind → Place → Result (Effect × Place) RowFault
effect_at effect_kinds.Dispose = items_at (effect_row effect_kinds.Dispose) effects.Dispose
effect_at effect_kinds.Suspend = items_at (effect_row effect_kinds.Suspend) effects.Suspend
effect_at effect_kinds.Resume = items_at (effect_row effect_kinds.Resume) effects.Resume
effect_at effect_kinds.Exit = items_at (effect_row effect_kinds.Exit) effects.Exit
effect_at effect_kinds.SetField = items_at (effect_row effect_kinds.SetField) (λ o one f v. effects.SetField o f v)
effect_at effect_kinds.SetElement =
    items_at (effect_row effect_kinds.SetElement) (λ a first one v. effects.SetElement a first v)
effect_at effect_kinds.Set = items_at (effect_row effect_kinds.Set) effects.Set
effect_at effect_kinds.Clear = items_at (effect_row effect_kinds.Clear) effects.Clear
effect_at effect_kinds.SetSlot =
    items_at (effect_row effect_kinds.SetSlot) (λ t f one slot v. effects.SetSlot t f slot v)

-- what a question says in the items of its row
abbrev pub told_question : Question → List Saying
told_question (questions.ClassesBySignature s) = says (part text) s ∷ []
told_question questions.AllClasses = []
told_question questions.AllThreads = []
told_question questions.IdSizes = []
told_question (questions.Signature c) = says (part class) c ∷ []
told_question (questions.Fields c) = says (part class) c ∷ []
told_question (questions.Methods c) = says (part class) c ∷ []
told_question (questions.SourceFile c) = says (part class) c ∷ []
told_question (questions.Superclass c) = says (part class) c ∷ []
told_question (questions.LineTable c m) = says (part class) c ∷ says (part method) m ∷ []
told_question (questions.VariableTable c m) = says (part class) c ∷ says (part method) m ∷ []
told_question (questions.ObjectType o) = says (part object) o ∷ []
told_question (questions.GetFields o fs) = says (part object) o ∷ says (many Any field_ids) fs ∷ []
told_question (questions.StringValue o) = says (part object) o ∷ []
told_question (questions.ThreadName t) = says (part thread) t ∷ []
told_question (questions.Frames t first n) = says (part thread) t ∷ says (part int) first ∷ says (part int) n ∷ []
told_question (questions.FrameCount t) = says (part thread) t ∷ []
told_question (questions.ArrayLength a) = says (part object) a ∷ []
told_question (questions.GetElements a first n) = says (part object) a ∷ says (part int) first ∷ says (part int) n ∷ []
told_question (questions.GetSlots t f ss) = says (part thread) t ∷ says (part frame) f ∷ says (many Any slots) ss ∷ []
told_question (questions.ThisObject t f) = says (part thread) t ∷ says (part frame) f ∷ []

-- what an effect says in the items of its row
abbrev pub told_effect : Effect → List Saying
told_effect effects.Dispose = []
told_effect effects.Suspend = []
told_effect effects.Resume = []
told_effect (effects.Exit n) = says (part int) n ∷ []
told_effect (effects.SetField o f v) =
    says (part object) o ∷ says (part (count (Exactly 1))) 1 ∷ says (part field) f ∷ says (part tail) v ∷ []
told_effect (effects.SetElement a first v) =
    says (part object) a ∷ says (part int) first ∷ says (part (count (Exactly 1))) 1 ∷ says (part tail) v ∷ []
told_effect (effects.Set k p ms) = says event_kind k ∷ says policy p ∷ says (many Any modifiers) ms ∷ []
told_effect (effects.Clear k r) = says event_kind k ∷ says (part number) r ∷ []
told_effect (effects.SetSlot t f slot v) =
    says (part thread) t ∷ says (part frame) f ∷ says (part (count (Exactly 1))) 1 ∷ says (part int) slot
    ∷ says (part value) v ∷ []

-- what a command says in the items of its row
abbrev pub told : Asked → List Saying
told (a_question q) = told_question q
told (an_effect e) = told_effect e

-- the body of a command
unfoldable pub spell_command : IdSizes → Asked → List ℕ
spell_command sizes asked = spell_sayings sizes (told asked)

-- a command whose body has a spelling: its ids fit, its texts and lists have fewer than 2 ^ 31 bytes and items
abbrev pub FitsCommand : IdSizes → Asked → Type 0
FitsCommand sizes asked = FitsSayings sizes (told asked)

abbrev pub InRangeCommand : Asked → Type 0
InRangeCommand asked = InRangeSayings (told asked)

-- a command read by its row
abbrev pub asked_at : CommandKind → Place → Result (Asked × Place) RowFault
asked_at (commands.Question kind) place = question_at kind place >>= λ q. Ok (a_question q.0, q.1)
asked_at (commands.Effect kind) place = effect_at kind place >>= λ e. Ok (an_effect e.0, e.1)

-- the command of this kind that a body spells, if there is such a kind
abbrev pub of_kind_at : Option CommandKind → IdSizes → List ℕ → Result Asked BodyFault
of_kind_at (Some kind) sizes body = whole (asked_at kind) sizes body
of_kind_at None sizes body = Err UnknownCommand

-- the command with these numbers that a body spells, or the first fault from the left
unfoldable pub command_at : IdSizes → ℕ → ℕ → List ℕ → Result Asked BodyFault
command_at sizes set command body = of_kind_at (kind_of_numbers set command) sizes body
