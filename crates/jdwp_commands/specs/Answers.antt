-- What the answers are made of (JDWP, Detailed Command Information): for each command the items of its answer's body.
--
-- `answer_at` reads an answer, `spell_answer` is its body, `FitsAnswer` says that it has a spelling, and
-- `InRangeAnswer` that its numbers are of their types.
use Rattle.std.specs.Prelude.{◌≡◌, ℕ, ℤ, pos, negsuc, nat_abs, int_lt, List, [], ◌∷◌, length, Result, if◌then◌else◌}
use Rattle.jdwp_values.specs.declared.class.Line.{Line}
use Rattle.jdwp_values.specs.declared.fault.RowFault.{RowFault}
use Rattle.jdwp_values.specs.declared.limit.Limit.{Limit}
use Rattle.jdwp_values.specs.declared.limit.Limit.TheVariants.{Any, Exactly, AtMost, Never}
use Rattle.jdwp_values.specs.declared.sizes.IdSizes.{IdSizes}
use Rattle.jdwp_values.specs.Parts.{int, long, number, class, type_tag, count, text, reference}
use Rattle.jdwp_values.specs.Reading.{Place}
use Rattle.jdwp_commands.specs.declared.answer.Answer.{Answer}
use Rattle.jdwp_commands.specs.declared.answer.Answer.TheVariants as answers
use Rattle.jdwp_commands.specs.declared.asked.Asked.{Asked}
use Rattle.jdwp_commands.specs.declared.asked.Asked.TheVariants.{Question as a_question, Effect as an_effect}
use Rattle.jdwp_commands.specs.declared.fault.BodyFault.{BodyFault}
use Rattle.jdwp_commands.specs.declared.kind.CommandKind.{CommandKind}
use Rattle.jdwp_commands.specs.declared.kind.CommandKind.TheVariants as commands
use Rattle.jdwp_commands.specs.declared.kind.EffectKind.{EffectKind}
use Rattle.jdwp_commands.specs.declared.kind.EffectKind.TheVariants as effect_kinds
use Rattle.jdwp_commands.specs.declared.kind.QuestionKind.{QuestionKind}
use Rattle.jdwp_commands.specs.declared.kind.QuestionKind.TheVariants as question_kinds
use Rattle.jdwp_commands.specs.declared.question.Question.{Question}
use Rattle.jdwp_commands.specs.declared.question.Question.TheVariants as questions
use Rattle.jdwp_commands.specs.Bodies.{whole}
use Rattle.jdwp_commands.specs.Commands.{kind_of}
use Rattle.jdwp_commands.specs.Items.{threads, values, methods, fields, lines, variables, class_statuses}
use Rattle.jdwp_commands.specs.Items.{loaded_classes, frames, Item, part, many, region, items_at, Saying, says}
use Rattle.jdwp_commands.specs.Items.{spell_sayings, FitsSayings, InRangeSayings}
use Rattle.jdwp_commands.specs.Table.{question_table, effect_table}

-- which command it answers
abbrev pub kind_of_answer : Answer → CommandKind
kind_of_answer (answers.ClassesBySignature _) = commands.Question question_kinds.ClassesBySignature
kind_of_answer (answers.AllClasses _) = commands.Question question_kinds.AllClasses
kind_of_answer (answers.AllThreads _) = commands.Question question_kinds.AllThreads
kind_of_answer (answers.IdSizes _ _ _ _ _) = commands.Question question_kinds.IdSizes
kind_of_answer (answers.Signature _) = commands.Question question_kinds.Signature
kind_of_answer (answers.Fields _) = commands.Question question_kinds.Fields
kind_of_answer (answers.Methods _) = commands.Question question_kinds.Methods
kind_of_answer (answers.SourceFile _) = commands.Question question_kinds.SourceFile
kind_of_answer (answers.Superclass _) = commands.Question question_kinds.Superclass
kind_of_answer (answers.LineTable _) = commands.Question question_kinds.LineTable
kind_of_answer (answers.VariableTable _ _) = commands.Question question_kinds.VariableTable
kind_of_answer (answers.ObjectType _ _) = commands.Question question_kinds.ObjectType
kind_of_answer (answers.GetFields _) = commands.Question question_kinds.GetFields
kind_of_answer (answers.StringValue _) = commands.Question question_kinds.StringValue
kind_of_answer (answers.ThreadName _) = commands.Question question_kinds.ThreadName
kind_of_answer (answers.Frames _) = commands.Question question_kinds.Frames
kind_of_answer (answers.FrameCount _) = commands.Question question_kinds.FrameCount
kind_of_answer (answers.ArrayLength _) = commands.Question question_kinds.ArrayLength
kind_of_answer (answers.GetElements _) = commands.Question question_kinds.GetElements
kind_of_answer (answers.GetSlots _) = commands.Question question_kinds.GetSlots
kind_of_answer (answers.ThisObject _) = commands.Question question_kinds.ThisObject
kind_of_answer answers.Dispose = commands.Effect effect_kinds.Dispose
kind_of_answer answers.Suspend = commands.Effect effect_kinds.Suspend
kind_of_answer answers.Resume = commands.Effect effect_kinds.Resume
kind_of_answer answers.Exit = commands.Effect effect_kinds.Exit
kind_of_answer answers.SetField = commands.Effect effect_kinds.SetField
kind_of_answer answers.SetElement = commands.Effect effect_kinds.SetElement
kind_of_answer (answers.Set _) = commands.Effect effect_kinds.Set
kind_of_answer answers.Clear = commands.Effect effect_kinds.Clear
kind_of_answer answers.SetSlot = commands.Effect effect_kinds.SetSlot

-- at most so many frames where the length isn't -1, and none at all below that (JDWP, ThreadReference command set,
-- Frames)
abbrev pub frames_limit : ℤ → Limit
frames_limit n = if int_lt n (negsuc 0) then Never else if int_lt n (pos 0) then Any else AtMost (nat_abs n)

-- as many elements as asked; a negative length has no answer (JDWP, ArrayReference command set, GetValues)
abbrev pub elements_limit : ℤ → Limit
elements_limit n = if int_lt n (pos 0) then Never else Exactly (nat_abs n)

-- how many items the answer to a question may have
abbrev pub limit_of_question : Question → Limit
limit_of_question (questions.ClassesBySignature _) = Any
limit_of_question questions.AllClasses = Any
limit_of_question questions.AllThreads = Any
limit_of_question questions.IdSizes = Any
limit_of_question (questions.Signature _) = Any
limit_of_question (questions.Fields _) = Any
limit_of_question (questions.Methods _) = Any
limit_of_question (questions.SourceFile _) = Any
limit_of_question (questions.Superclass _) = Any
limit_of_question (questions.LineTable _ _) = Any
limit_of_question (questions.VariableTable _ _) = Any
limit_of_question (questions.ObjectType _) = Any
limit_of_question (questions.GetFields _ fs) = Exactly (length fs)
limit_of_question (questions.StringValue _) = Any
limit_of_question (questions.ThreadName _) = Any
limit_of_question (questions.Frames _ _ n) = frames_limit n
limit_of_question (questions.FrameCount _) = Any
limit_of_question (questions.ArrayLength _) = Any
limit_of_question (questions.GetElements _ _ n) = elements_limit n
limit_of_question (questions.GetSlots _ _ ss) = Exactly (length ss)
limit_of_question (questions.ThisObject _ _) = Any

-- how many items an answer may have
abbrev pub limit_of : Asked → Limit
limit_of (a_question q) = limit_of_question q
limit_of (an_effect e) = Any

-- the items of the answer to each question
abbrev pub question_answer_row : QuestionKind → Limit → List Item
question_answer_row kind limit = (question_table kind).answer limit

-- the items of the answer to each effect
abbrev pub effect_answer_row : EffectKind → List Item
effect_answer_row kind = (effect_table kind).answer Any

-- a line table of its parts (JDWP, Method command set, LineTable)
abbrev pub line_table : ℤ → ℤ → List Line → Answer
line_table start end ls = answers.LineTable (record { start = start; end = end; lines = ls })

-- the answer to a question read by its row
abbrev pub question_answer_at : QuestionKind → Limit → Place → Result (Answer × Place) RowFault
question_answer_at question_kinds.ClassesBySignature limit =
    items_at (question_answer_row question_kinds.ClassesBySignature limit) answers.ClassesBySignature
question_answer_at question_kinds.AllClasses limit =
    items_at (question_answer_row question_kinds.AllClasses limit) answers.AllClasses
question_answer_at question_kinds.AllThreads limit =
    items_at (question_answer_row question_kinds.AllThreads limit) answers.AllThreads
question_answer_at question_kinds.IdSizes limit =
    items_at (question_answer_row question_kinds.IdSizes limit) answers.IdSizes
question_answer_at question_kinds.Signature limit =
    items_at (question_answer_row question_kinds.Signature limit) answers.Signature
question_answer_at question_kinds.Fields limit =
    items_at (question_answer_row question_kinds.Fields limit) answers.Fields
question_answer_at question_kinds.Methods limit =
    items_at (question_answer_row question_kinds.Methods limit) answers.Methods
question_answer_at question_kinds.SourceFile limit =
    items_at (question_answer_row question_kinds.SourceFile limit) answers.SourceFile
question_answer_at question_kinds.Superclass limit =
    items_at (question_answer_row question_kinds.Superclass limit) answers.Superclass
question_answer_at question_kinds.LineTable limit =
    items_at (question_answer_row question_kinds.LineTable limit) line_table
question_answer_at question_kinds.VariableTable limit =
    items_at (question_answer_row question_kinds.VariableTable limit) answers.VariableTable
question_answer_at question_kinds.ObjectType limit =
    items_at (question_answer_row question_kinds.ObjectType limit) answers.ObjectType
question_answer_at question_kinds.GetFields limit =
    items_at (question_answer_row question_kinds.GetFields limit) answers.GetFields
question_answer_at question_kinds.StringValue limit =
    items_at (question_answer_row question_kinds.StringValue limit) answers.StringValue
question_answer_at question_kinds.ThreadName limit =
    items_at (question_answer_row question_kinds.ThreadName limit) answers.ThreadName
question_answer_at question_kinds.Frames limit =
    items_at (question_answer_row question_kinds.Frames limit) answers.Frames
question_answer_at question_kinds.FrameCount limit =
    items_at (question_answer_row question_kinds.FrameCount limit) answers.FrameCount
question_answer_at question_kinds.ArrayLength limit =
    items_at (question_answer_row question_kinds.ArrayLength limit) answers.ArrayLength
question_answer_at question_kinds.GetElements limit =
    items_at (question_answer_row question_kinds.GetElements limit) answers.GetElements
question_answer_at question_kinds.GetSlots limit =
    items_at (question_answer_row question_kinds.GetSlots limit) answers.GetSlots
question_answer_at question_kinds.ThisObject limit =
    items_at (question_answer_row question_kinds.ThisObject limit) answers.ThisObject

-- the answer to an effect read by its row
abbrev pub effect_answer_at : EffectKind → Place → Result (Answer × Place) RowFault
effect_answer_at effect_kinds.Dispose = items_at (effect_answer_row effect_kinds.Dispose) answers.Dispose
effect_answer_at effect_kinds.Suspend = items_at (effect_answer_row effect_kinds.Suspend) answers.Suspend
effect_answer_at effect_kinds.Resume = items_at (effect_answer_row effect_kinds.Resume) answers.Resume
effect_answer_at effect_kinds.Exit = items_at (effect_answer_row effect_kinds.Exit) answers.Exit
effect_answer_at effect_kinds.SetField = items_at (effect_answer_row effect_kinds.SetField) answers.SetField
effect_answer_at effect_kinds.SetElement = items_at (effect_answer_row effect_kinds.SetElement) answers.SetElement
effect_answer_at effect_kinds.Set = items_at (effect_answer_row effect_kinds.Set) answers.Set
effect_answer_at effect_kinds.Clear = items_at (effect_answer_row effect_kinds.Clear) answers.Clear
effect_answer_at effect_kinds.SetSlot = items_at (effect_answer_row effect_kinds.SetSlot) answers.SetSlot

-- the answer to a command read by its row
abbrev pub answered_at : CommandKind → Limit → Place → Result (Answer × Place) RowFault
answered_at (commands.Question kind) limit place = question_answer_at kind limit place
answered_at (commands.Effect kind) limit place = effect_answer_at kind place

-- what an answer says in the items of its row
abbrev pub told_answer : Limit → Answer → List Saying
told_answer limit (answers.ClassesBySignature cs) = says (many Any class_statuses) cs ∷ []
told_answer limit (answers.AllClasses cs) = says (many Any loaded_classes) cs ∷ []
told_answer limit (answers.AllThreads ts) = says (many Any threads) ts ∷ []
told_answer limit (answers.IdSizes f m o c r) =
    says (part number) f ∷ says (part number) m ∷ says (part number) o ∷ says (part number) c
    ∷ says (part number) r ∷ []
told_answer limit (answers.Signature s) = says (part text) s ∷ []
told_answer limit (answers.Fields fs) = says (many Any fields) fs ∷ []
told_answer limit (answers.Methods ms) = says (many Any methods) ms ∷ []
told_answer limit (answers.SourceFile s) = says (part text) s ∷ []
told_answer limit (answers.Superclass c) = says (part class) c ∷ []
told_answer limit (answers.LineTable t) =
    says (part long) t.start ∷ says (part long) t.end ∷ says (many Any lines) t.lines ∷ []
told_answer limit (answers.VariableTable n vs) = says (part int) n ∷ says (many Any variables) vs ∷ []
told_answer limit (answers.ObjectType tag c) = says (part type_tag) tag ∷ says (part class) c ∷ []
told_answer limit (answers.GetFields vs) = says (many limit values) vs ∷ []
told_answer limit (answers.StringValue s) = says (part text) s ∷ []
told_answer limit (answers.ThreadName s) = says (part text) s ∷ []
told_answer limit (answers.Frames fs) = says (many limit frames) fs ∷ []
told_answer limit (answers.FrameCount n) = says (part (count Any)) n ∷ []
told_answer limit (answers.ArrayLength n) = says (part (count Any)) n ∷ []
told_answer limit (answers.GetElements r) = says (region limit) r ∷ []
told_answer limit (answers.GetSlots vs) = says (many limit values) vs ∷ []
told_answer limit (answers.ThisObject o) = says (part reference) o ∷ []
told_answer limit answers.Dispose = []
told_answer limit answers.Suspend = []
told_answer limit answers.Resume = []
told_answer limit answers.Exit = []
told_answer limit answers.SetField = []
told_answer limit answers.SetElement = []
told_answer limit (answers.Set r) = says (part number) r ∷ []
told_answer limit answers.Clear = []
told_answer limit answers.SetSlot = []

-- the body of an answer
unfoldable pub spell_answer : IdSizes → Answer → List ℕ
spell_answer sizes answer = spell_sayings sizes (told_answer Any answer)

-- an answer whose body has a spelling: its ids fit, its texts and lists have fewer than 2 ^ 31 bytes and items
abbrev pub FitsAnswer : IdSizes → Answer → Type 0
FitsAnswer sizes answer = FitsSayings sizes (told_answer Any answer)

abbrev pub InRangeAnswer : Answer → Type 0
InRangeAnswer answer = InRangeSayings (told_answer Any answer)

-- an answer to just this command that has a spelling, with as many items as the command allows
pub record IsAnswerTo (sizes : IdSizes) (asked : Asked) (answer : Answer) : Type 0 where
  pub row : kind_of_answer answer ≡ kind_of asked
  pub fits : FitsSayings sizes (told_answer (limit_of asked) answer)

-- the answer to this command that a body spells, or the first fault from the left
unfoldable pub answer_at : IdSizes → Asked → List ℕ → Result Answer BodyFault
answer_at sizes asked body = whole (answered_at (kind_of asked) (limit_of asked)) sizes body
