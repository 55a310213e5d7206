-- The numbers of a command are those of the one command that has them.
use Rattle.std.proofs.Common.{◌≡◌, ℕ, ◌==◌, ◌&&◌, Some, refl, ap, ◌∙◌}
use Rattle.std.proofs.lemmas.Bool.{eqb-true, and_parts}
use Rattle.jdwp_values.proofs.PartLaws.{found_passes}
use Rattle.jdwp_commands.specs.declared.kind.CommandKind.{CommandKind}
use Rattle.jdwp_commands.specs.declared.kind.CommandKind.TheVariants.{Question, Effect}
use Rattle.jdwp_commands.specs.declared.kind.EffectKind.TheVariants as effects
use Rattle.jdwp_commands.specs.declared.kind.QuestionKind.TheVariants as questions
use Rattle.jdwp_commands.specs.Kinds.{numbers, kinds, kind_of_numbers}

pub kind_back : (set command : ℕ) (kind : CommandKind) → kind_of_numbers set command ≡ Some kind
    → numbers kind ≡ (set, command)
kind_back set command kind e =
    let both = and_parts ((numbers kind).0 == set) ((numbers kind).1 == command)
    (found_passes (λ k. (numbers k).0 == set && (numbers k).1 == command) kinds kind e) in
    ap (λ (n : ℕ). (n, (numbers kind).1)) (eqb-true _ _ both.0) ∙ ap (λ (n : ℕ). (set, n)) (eqb-true _ _ both.1)

pub kind_of-numbers : (kind : CommandKind) → kind_of_numbers (numbers kind).0 (numbers kind).1 ≡ Some kind
kind_of-numbers (Question questions.ClassesBySignature) = refl
kind_of-numbers (Question questions.AllClasses) = refl
kind_of-numbers (Question questions.AllThreads) = refl
kind_of-numbers (Question questions.IdSizes) = refl
kind_of-numbers (Question questions.Signature) = refl
kind_of-numbers (Question questions.Fields) = refl
kind_of-numbers (Question questions.Methods) = refl
kind_of-numbers (Question questions.SourceFile) = refl
kind_of-numbers (Question questions.Superclass) = refl
kind_of-numbers (Question questions.LineTable) = refl
kind_of-numbers (Question questions.VariableTable) = refl
kind_of-numbers (Question questions.ObjectType) = refl
kind_of-numbers (Question questions.GetFields) = refl
kind_of-numbers (Question questions.StringValue) = refl
kind_of-numbers (Question questions.ThreadName) = refl
kind_of-numbers (Question questions.Frames) = refl
kind_of-numbers (Question questions.FrameCount) = refl
kind_of-numbers (Question questions.ArrayLength) = refl
kind_of-numbers (Question questions.GetElements) = refl
kind_of-numbers (Question questions.GetSlots) = refl
kind_of-numbers (Question questions.ThisObject) = refl
kind_of-numbers (Effect effects.Dispose) = refl
kind_of-numbers (Effect effects.Suspend) = refl
kind_of-numbers (Effect effects.Resume) = refl
kind_of-numbers (Effect effects.Exit) = refl
kind_of-numbers (Effect effects.SetField) = refl
kind_of-numbers (Effect effects.SetElement) = refl
kind_of-numbers (Effect effects.Set) = refl
kind_of-numbers (Effect effects.Clear) = refl
kind_of-numbers (Effect effects.SetSlot) = refl
