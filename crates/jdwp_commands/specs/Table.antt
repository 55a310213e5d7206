-- The commands of JDWP, a row each (JDWP, Detailed Command Information): the number of its command set and its own in
-- there, the items of its body, and the items of its answer's body.
use Rattle.std.specs.Prelude.{ℕ, List, [], ◌∷◌}
use Rattle.jdwp_values.specs.declared.limit.Limit.{Limit}
use Rattle.jdwp_values.specs.declared.limit.Limit.TheVariants.{Any, Exactly}
use Rattle.jdwp_values.specs.Parts.{int, long, number, object, thread, class, method, field}
use Rattle.jdwp_values.specs.Parts.{frame, type_tag, count, text}
use Rattle.jdwp_values.specs.Parts.{value, reference, tail}
use Rattle.jdwp_commands.specs.declared.kind.EffectKind.{EffectKind}
use Rattle.jdwp_commands.specs.declared.kind.EffectKind.TheVariants as effects
use Rattle.jdwp_commands.specs.declared.kind.QuestionKind.{QuestionKind}
use Rattle.jdwp_commands.specs.declared.kind.QuestionKind.TheVariants as questions
use Rattle.jdwp_commands.specs.Items.{Item, part, many, region, event_kind, policy}
use Rattle.jdwp_commands.specs.Items.{field_ids, modifiers, slots, threads}
use Rattle.jdwp_commands.specs.Items.{values, methods, fields, lines, variables}
use Rattle.jdwp_commands.specs.Items.{class_statuses, loaded_classes, frames}

-- a command: its numbers, its body, and the body of its answer, where the command may limit how many items that has
pub record Row : Type 0 where
  pub set : ℕ
  pub command : ℕ
  pub body : List Item
  pub answer : Limit → List Item

abbrev numbered : ℕ → ℕ → List Item → (Limit → List Item) → Row
numbered set command body answer = record { set = set; command = command; body = body; answer = answer }

-- each question
abbrev pub question_table : QuestionKind → Row
question_table questions.ClassesBySignature = numbered 1 2 (part text ∷ []) (λ limit. many Any class_statuses ∷ [])
question_table questions.AllClasses = numbered 1 3 [] (λ limit. many Any loaded_classes ∷ [])
question_table questions.AllThreads = numbered 1 4 [] (λ limit. many Any threads ∷ [])
question_table questions.IdSizes =
    numbered 1 7 [] (λ limit. part number ∷ part number ∷ part number ∷ part number ∷ part number ∷ [])
question_table questions.Signature = numbered 2 1 (part class ∷ []) (λ limit. part text ∷ [])
question_table questions.Fields = numbered 2 4 (part class ∷ []) (λ limit. many Any fields ∷ [])
question_table questions.Methods = numbered 2 5 (part class ∷ []) (λ limit. many Any methods ∷ [])
question_table questions.SourceFile = numbered 2 7 (part class ∷ []) (λ limit. part text ∷ [])
question_table questions.Superclass = numbered 3 1 (part class ∷ []) (λ limit. part class ∷ [])
question_table questions.LineTable =
    numbered 6 1 (part class ∷ part method ∷ []) (λ limit. part long ∷ part long ∷ many Any lines ∷ [])
question_table questions.VariableTable =
    numbered 6 2 (part class ∷ part method ∷ []) (λ limit. part int ∷ many Any variables ∷ [])
question_table questions.ObjectType = numbered 9 1 (part object ∷ []) (λ limit. part type_tag ∷ part class ∷ [])
question_table questions.GetFields =
    numbered 9 2 (part object ∷ many Any field_ids ∷ []) (λ limit. many limit values ∷ [])
question_table questions.StringValue = numbered 10 1 (part object ∷ []) (λ limit. part text ∷ [])
question_table questions.ThreadName = numbered 11 1 (part thread ∷ []) (λ limit. part text ∷ [])
question_table questions.Frames =
    numbered 11 6 (part thread ∷ part int ∷ part int ∷ []) (λ limit. many limit frames ∷ [])
question_table questions.FrameCount = numbered 11 7 (part thread ∷ []) (λ limit. part (count Any) ∷ [])
question_table questions.ArrayLength = numbered 13 1 (part object ∷ []) (λ limit. part (count Any) ∷ [])
question_table questions.GetElements =
    numbered 13 2 (part object ∷ part int ∷ part int ∷ []) (λ limit. region limit ∷ [])
question_table questions.GetSlots =
    numbered 16 1 (part thread ∷ part frame ∷ many Any slots ∷ []) (λ limit. many limit values ∷ [])
question_table questions.ThisObject = numbered 16 3 (part thread ∷ part frame ∷ []) (λ limit. part reference ∷ [])

-- each effect: the count of the values that are set is 1, and their bytes in SetField and SetElement are what is left
abbrev pub effect_table : EffectKind → Row
effect_table effects.Dispose = numbered 1 6 [] (λ limit. [])
effect_table effects.Suspend = numbered 1 8 [] (λ limit. [])
effect_table effects.Resume = numbered 1 9 [] (λ limit. [])
effect_table effects.Exit = numbered 1 10 (part int ∷ []) (λ limit. [])
effect_table effects.SetField =
    numbered 9 3 (part object ∷ part (count (Exactly 1)) ∷ part field ∷ part tail ∷ []) (λ limit. [])
effect_table effects.SetElement =
    numbered 13 3 (part object ∷ part int ∷ part (count (Exactly 1)) ∷ part tail ∷ []) (λ limit. [])
effect_table effects.Set = numbered 15 1 (event_kind ∷ policy ∷ many Any modifiers ∷ []) (λ limit. part number ∷ [])
effect_table effects.Clear = numbered 15 2 (event_kind ∷ part number ∷ []) (λ limit. [])
effect_table effects.SetSlot =
    numbered 16 2 (part thread ∷ part frame ∷ part (count (Exactly 1)) ∷ part int ∷ part value ∷ []) (λ limit. [])
