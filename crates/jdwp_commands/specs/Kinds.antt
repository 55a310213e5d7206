-- Which command it is, and its numbers: that of its command set, and its own in there (JDWP, Detailed Command
-- Information).
use Rattle.std.specs.Prelude.{ℕ, List, [], ◌∷◌, Option, find, ◌==◌, ◌&&◌}
use Rattle.jdwp_commands.specs.declared.kind.CommandKind.{CommandKind}
use Rattle.jdwp_commands.specs.declared.kind.CommandKind.TheVariants.{Question, Effect}
use Rattle.jdwp_commands.specs.declared.kind.EffectKind.{EffectKind}
use Rattle.jdwp_commands.specs.declared.kind.EffectKind.TheVariants as effects
use Rattle.jdwp_commands.specs.declared.kind.QuestionKind.{QuestionKind}
use Rattle.jdwp_commands.specs.declared.kind.QuestionKind.TheVariants as questions
use Rattle.jdwp_commands.specs.Table.{question_table, effect_table}

-- set and number of each question
abbrev pub question_numbers : QuestionKind → ℕ × ℕ
question_numbers kind = ((question_table kind).set, (question_table kind).command)

-- set and number of each effect
abbrev pub effect_numbers : EffectKind → ℕ × ℕ
effect_numbers kind = ((effect_table kind).set, (effect_table kind).command)

-- and so of each command
abbrev pub numbers : CommandKind → ℕ × ℕ
numbers (Question kind) = question_numbers kind
numbers (Effect kind) = effect_numbers kind

-- all commands
abbrev pub kinds : List CommandKind
kinds = Question questions.ClassesBySignature ∷ Question questions.AllClasses ∷ Question questions.AllThreads ∷
    Effect effects.Dispose ∷ Question questions.IdSizes ∷ Effect effects.Suspend ∷ Effect effects.Resume ∷
    Effect effects.Exit ∷ Question questions.Signature ∷ Question questions.Fields ∷ Question questions.Methods ∷
    Question questions.SourceFile ∷ Question questions.Superclass ∷ Question questions.LineTable ∷
    Question questions.VariableTable ∷ Question questions.ObjectType ∷ Question questions.GetFields ∷
    Effect effects.SetField ∷ Question questions.StringValue ∷ Question questions.ThreadName ∷
    Question questions.Frames ∷ Question questions.FrameCount ∷ Question questions.ArrayLength ∷
    Question questions.GetElements ∷ Effect effects.SetElement ∷ Effect effects.Set ∷ Effect effects.Clear ∷
    Question questions.GetSlots ∷ Effect effects.SetSlot ∷ Question questions.ThisObject ∷ []

-- the command that has these numbers
abbrev pub kind_of_numbers : ℕ → ℕ → Option CommandKind
kind_of_numbers set command = find (λ kind. (numbers kind).0 == set && (numbers kind).1 == command) kinds
