-- The body of an answer that is read was spelled, and one that is spelled is read.
use Rattle.std.proofs.Common.{◌≡◌, ℕ, List, [], ◌++◌, Ok, refl, sym, ap, subst, ◌∙◌}
use Rattle.std.proofs.lemmas.List.{append-nil}
use Rattle.jdwp_values.specs.declared.limit.Limit.{Limit}
use Rattle.jdwp_values.specs.declared.limit.Limit.TheVariants.{Any}
use Rattle.jdwp_values.specs.declared.sizes.IdSizes.{IdSizes}
use Rattle.jdwp_values.specs.Bytes.{IsBytes}
use Rattle.jdwp_values.specs.Reading.{Place, behind}
use Rattle.jdwp_commands.specs.declared.answer.Answer.{Answer}
use Rattle.jdwp_commands.specs.declared.answer.Answer.TheVariants as answers
use Rattle.jdwp_commands.specs.declared.asked.Asked.{Asked}
use Rattle.jdwp_commands.specs.declared.kind.CommandKind.{CommandKind}
use Rattle.jdwp_commands.specs.declared.kind.CommandKind.TheVariants as commands
use Rattle.jdwp_commands.specs.declared.kind.EffectKind.{EffectKind}
use Rattle.jdwp_commands.specs.declared.kind.EffectKind.TheVariants as effect_kinds
use Rattle.jdwp_commands.specs.declared.kind.QuestionKind.{QuestionKind}
use Rattle.jdwp_commands.specs.declared.kind.QuestionKind.TheVariants as question_kinds
use Rattle.jdwp_commands.specs.Answers.{kind_of_answer, limit_of, question_answer_row, effect_answer_row, line_table}
use Rattle.jdwp_commands.specs.Answers.{question_answer_at, effect_answer_at, answered_at, told_answer, spell_answer}
use Rattle.jdwp_commands.specs.Answers.{FitsAnswer, InRangeAnswer, IsAnswerTo, answer_at}
use Rattle.jdwp_commands.specs.Bodies.{start, whole}
use Rattle.jdwp_commands.specs.Commands.{kind_of}
use Rattle.jdwp_commands.specs.Items.{spell_sayings, FitsSayings, InRangeSayings}
use Rattle.jdwp_commands.proofs.BodyLaws.{whole_found, whole_again, all_taken}
use Rattle.jdwp_commands.proofs.ItemLaws.{TakesSayings, told_takes, of_items, items_again}

question_takes : (kind : QuestionKind) (limit : Limit) (place : Place) (x : Answer × Place) → IsBytes place.rest
    → question_answer_at kind limit place ≡ Ok x → TakesSayings place (told_answer limit x.0) x.1
question_takes question_kinds.ClassesBySignature limit =
    told_takes (told_answer limit) (question_answer_row question_kinds.ClassesBySignature limit)
    answers.ClassesBySignature (λ sizes held fits. refl)
question_takes question_kinds.AllClasses limit =
    told_takes (told_answer limit) (question_answer_row question_kinds.AllClasses limit) answers.AllClasses
    (λ sizes held fits. refl)
question_takes question_kinds.AllThreads limit =
    told_takes (told_answer limit) (question_answer_row question_kinds.AllThreads limit) answers.AllThreads
    (λ sizes held fits. refl)
question_takes question_kinds.IdSizes limit =
    told_takes (told_answer limit) (question_answer_row question_kinds.IdSizes limit) answers.IdSizes
    (λ sizes held fits. refl)
question_takes question_kinds.Signature limit =
    told_takes (told_answer limit) (question_answer_row question_kinds.Signature limit) answers.Signature
    (λ sizes held fits. refl)
question_takes question_kinds.Fields limit =
    told_takes (told_answer limit) (question_answer_row question_kinds.Fields limit) answers.Fields
    (λ sizes held fits. refl)
question_takes question_kinds.Methods limit =
    told_takes (told_answer limit) (question_answer_row question_kinds.Methods limit) answers.Methods
    (λ sizes held fits. refl)
question_takes question_kinds.SourceFile limit =
    told_takes (told_answer limit) (question_answer_row question_kinds.SourceFile limit) answers.SourceFile
    (λ sizes held fits. refl)
question_takes question_kinds.Superclass limit =
    told_takes (told_answer limit) (question_answer_row question_kinds.Superclass limit) answers.Superclass
    (λ sizes held fits. refl)
question_takes question_kinds.LineTable limit =
    told_takes (told_answer limit) (question_answer_row question_kinds.LineTable limit) line_table
    (λ sizes held fits. refl)
question_takes question_kinds.VariableTable limit =
    told_takes (told_answer limit) (question_answer_row question_kinds.VariableTable limit) answers.VariableTable
    (λ sizes held fits. refl)
question_takes question_kinds.ObjectType limit =
    told_takes (told_answer limit) (question_answer_row question_kinds.ObjectType limit) answers.ObjectType
    (λ sizes held fits. refl)
question_takes question_kinds.GetFields limit =
    told_takes (told_answer limit) (question_answer_row question_kinds.GetFields limit) answers.GetFields
    (λ sizes held fits. refl)
question_takes question_kinds.StringValue limit =
    told_takes (told_answer limit) (question_answer_row question_kinds.StringValue limit) answers.StringValue
    (λ sizes held fits. refl)
question_takes question_kinds.ThreadName limit =
    told_takes (told_answer limit) (question_answer_row question_kinds.ThreadName limit) answers.ThreadName
    (λ sizes held fits. refl)
question_takes question_kinds.Frames limit =
    told_takes (told_answer limit) (question_answer_row question_kinds.Frames limit) answers.Frames
    (λ sizes held fits. refl)
question_takes question_kinds.FrameCount limit =
    told_takes (told_answer limit) (question_answer_row question_kinds.FrameCount limit) answers.FrameCount
    (λ sizes held fits. refl)
question_takes question_kinds.ArrayLength limit =
    told_takes (told_answer limit) (question_answer_row question_kinds.ArrayLength limit) answers.ArrayLength
    (λ sizes held fits. refl)
question_takes question_kinds.GetElements limit =
    told_takes (told_answer limit) (question_answer_row question_kinds.GetElements limit) answers.GetElements
    (λ sizes held fits. refl)
question_takes question_kinds.GetSlots limit =
    told_takes (told_answer limit) (question_answer_row question_kinds.GetSlots limit) answers.GetSlots
    (λ sizes held fits. refl)
question_takes question_kinds.ThisObject limit =
    told_takes (told_answer limit) (question_answer_row question_kinds.ThisObject limit) answers.ThisObject
    (λ sizes held fits. refl)

effect_takes : (kind : EffectKind) (limit : Limit) (place : Place) (x : Answer × Place) → IsBytes place.rest
    → effect_answer_at kind place ≡ Ok x → TakesSayings place (told_answer limit x.0) x.1
effect_takes effect_kinds.Dispose limit =
    told_takes (told_answer limit) (effect_answer_row effect_kinds.Dispose) answers.Dispose (λ sizes held fits. refl)
effect_takes effect_kinds.Suspend limit =
    told_takes (told_answer limit) (effect_answer_row effect_kinds.Suspend) answers.Suspend (λ sizes held fits. refl)
effect_takes effect_kinds.Resume limit =
    told_takes (told_answer limit) (effect_answer_row effect_kinds.Resume) answers.Resume (λ sizes held fits. refl)
effect_takes effect_kinds.Exit limit =
    told_takes (told_answer limit) (effect_answer_row effect_kinds.Exit) answers.Exit (λ sizes held fits. refl)
effect_takes effect_kinds.SetField limit =
    told_takes (told_answer limit) (effect_answer_row effect_kinds.SetField) answers.SetField (λ sizes held fits. refl)
effect_takes effect_kinds.SetElement limit =
    told_takes (told_answer limit) (effect_answer_row effect_kinds.SetElement) answers.SetElement
    (λ sizes held fits. refl)
effect_takes effect_kinds.Set limit =
    told_takes (told_answer limit) (effect_answer_row effect_kinds.Set) answers.Set (λ sizes held fits. refl)
effect_takes effect_kinds.Clear limit =
    told_takes (told_answer limit) (effect_answer_row effect_kinds.Clear) answers.Clear (λ sizes held fits. refl)
effect_takes effect_kinds.SetSlot limit =
    told_takes (told_answer limit) (effect_answer_row effect_kinds.SetSlot) answers.SetSlot (λ sizes held fits. refl)

takes : (kind : CommandKind) (limit : Limit) (place : Place) (x : Answer × Place) → IsBytes place.rest
    → answered_at kind limit place ≡ Ok x → TakesSayings place (told_answer limit x.0) x.1
takes (commands.Question kind) limit place x fits e = question_takes kind limit place x fits e
takes (commands.Effect kind) limit place x fits e = effect_takes kind limit place x fits e

question_kind : (kind : QuestionKind) (limit : Limit) (place : Place) (x : Answer × Place) → IsBytes place.rest
    → question_answer_at kind limit place ≡ Ok x → kind_of_answer x.0 ≡ commands.Question kind
question_kind question_kinds.ClassesBySignature limit =
    of_items (λ a. kind_of_answer a ≡ commands.Question question_kinds.ClassesBySignature)
    (question_answer_row question_kinds.ClassesBySignature limit) answers.ClassesBySignature (λ held. refl)
question_kind question_kinds.AllClasses limit =
    of_items (λ a. kind_of_answer a ≡ commands.Question question_kinds.AllClasses)
    (question_answer_row question_kinds.AllClasses limit) answers.AllClasses (λ held. refl)
question_kind question_kinds.AllThreads limit =
    of_items (λ a. kind_of_answer a ≡ commands.Question question_kinds.AllThreads)
    (question_answer_row question_kinds.AllThreads limit) answers.AllThreads (λ held. refl)
question_kind question_kinds.IdSizes limit =
    of_items (λ a. kind_of_answer a ≡ commands.Question question_kinds.IdSizes)
    (question_answer_row question_kinds.IdSizes limit) answers.IdSizes (λ held. refl)
question_kind question_kinds.Signature limit =
    of_items (λ a. kind_of_answer a ≡ commands.Question question_kinds.Signature)
    (question_answer_row question_kinds.Signature limit) answers.Signature (λ held. refl)
question_kind question_kinds.Fields limit =
    of_items (λ a. kind_of_answer a ≡ commands.Question question_kinds.Fields)
    (question_answer_row question_kinds.Fields limit) answers.Fields (λ held. refl)
question_kind question_kinds.Methods limit =
    of_items (λ a. kind_of_answer a ≡ commands.Question question_kinds.Methods)
    (question_answer_row question_kinds.Methods limit) answers.Methods (λ held. refl)
question_kind question_kinds.SourceFile limit =
    of_items (λ a. kind_of_answer a ≡ commands.Question question_kinds.SourceFile)
    (question_answer_row question_kinds.SourceFile limit) answers.SourceFile (λ held. refl)
question_kind question_kinds.Superclass limit =
    of_items (λ a. kind_of_answer a ≡ commands.Question question_kinds.Superclass)
    (question_answer_row question_kinds.Superclass limit) answers.Superclass (λ held. refl)
question_kind question_kinds.LineTable limit =
    of_items (λ a. kind_of_answer a ≡ commands.Question question_kinds.LineTable)
    (question_answer_row question_kinds.LineTable limit) line_table (λ held. refl)
question_kind question_kinds.VariableTable limit =
    of_items (λ a. kind_of_answer a ≡ commands.Question question_kinds.VariableTable)
    (question_answer_row question_kinds.VariableTable limit) answers.VariableTable (λ held. refl)
question_kind question_kinds.ObjectType limit =
    of_items (λ a. kind_of_answer a ≡ commands.Question question_kinds.ObjectType)
    (question_answer_row question_kinds.ObjectType limit) answers.ObjectType (λ held. refl)
question_kind question_kinds.GetFields limit =
    of_items (λ a. kind_of_answer a ≡ commands.Question question_kinds.GetFields)
    (question_answer_row question_kinds.GetFields limit) answers.GetFields (λ held. refl)
question_kind question_kinds.StringValue limit =
    of_items (λ a. kind_of_answer a ≡ commands.Question question_kinds.StringValue)
    (question_answer_row question_kinds.StringValue limit) answers.StringValue (λ held. refl)
question_kind question_kinds.ThreadName limit =
    of_items (λ a. kind_of_answer a ≡ commands.Question question_kinds.ThreadName)
    (question_answer_row question_kinds.ThreadName limit) answers.ThreadName (λ held. refl)
question_kind question_kinds.Frames limit =
    of_items (λ a. kind_of_answer a ≡ commands.Question question_kinds.Frames)
    (question_answer_row question_kinds.Frames limit) answers.Frames (λ held. refl)
question_kind question_kinds.FrameCount limit =
    of_items (λ a. kind_of_answer a ≡ commands.Question question_kinds.FrameCount)
    (question_answer_row question_kinds.FrameCount limit) answers.FrameCount (λ held. refl)
question_kind question_kinds.ArrayLength limit =
    of_items (λ a. kind_of_answer a ≡ commands.Question question_kinds.ArrayLength)
    (question_answer_row question_kinds.ArrayLength limit) answers.ArrayLength (λ held. refl)
question_kind question_kinds.GetElements limit =
    of_items (λ a. kind_of_answer a ≡ commands.Question question_kinds.GetElements)
    (question_answer_row question_kinds.GetElements limit) answers.GetElements (λ held. refl)
question_kind question_kinds.GetSlots limit =
    of_items (λ a. kind_of_answer a ≡ commands.Question question_kinds.GetSlots)
    (question_answer_row question_kinds.GetSlots limit) answers.GetSlots (λ held. refl)
question_kind question_kinds.ThisObject limit =
    of_items (λ a. kind_of_answer a ≡ commands.Question question_kinds.ThisObject)
    (question_answer_row question_kinds.ThisObject limit) answers.ThisObject (λ held. refl)

effect_kind : (kind : EffectKind) (place : Place) (x : Answer × Place) → IsBytes place.rest
    → effect_answer_at kind place ≡ Ok x → kind_of_answer x.0 ≡ commands.Effect kind
effect_kind effect_kinds.Dispose =
    of_items (λ a. kind_of_answer a ≡ commands.Effect effect_kinds.Dispose) (effect_answer_row effect_kinds.Dispose)
    answers.Dispose (λ held. refl)
effect_kind effect_kinds.Suspend =
    of_items (λ a. kind_of_answer a ≡ commands.Effect effect_kinds.Suspend) (effect_answer_row effect_kinds.Suspend)
    answers.Suspend (λ held. refl)
effect_kind effect_kinds.Resume =
    of_items (λ a. kind_of_answer a ≡ commands.Effect effect_kinds.Resume) (effect_answer_row effect_kinds.Resume)
    answers.Resume (λ held. refl)
effect_kind effect_kinds.Exit =
    of_items (λ a. kind_of_answer a ≡ commands.Effect effect_kinds.Exit) (effect_answer_row effect_kinds.Exit)
    answers.Exit (λ held. refl)
effect_kind effect_kinds.SetField =
    of_items (λ a. kind_of_answer a ≡ commands.Effect effect_kinds.SetField) (effect_answer_row effect_kinds.SetField)
    answers.SetField (λ held. refl)
effect_kind effect_kinds.SetElement =
    of_items (λ a. kind_of_answer a ≡ commands.Effect effect_kinds.SetElement)
    (effect_answer_row effect_kinds.SetElement) answers.SetElement (λ held. refl)
effect_kind effect_kinds.Set =
    of_items (λ a. kind_of_answer a ≡ commands.Effect effect_kinds.Set) (effect_answer_row effect_kinds.Set) answers.Set
    (λ held. refl)
effect_kind effect_kinds.Clear =
    of_items (λ a. kind_of_answer a ≡ commands.Effect effect_kinds.Clear) (effect_answer_row effect_kinds.Clear)
    answers.Clear (λ held. refl)
effect_kind effect_kinds.SetSlot =
    of_items (λ a. kind_of_answer a ≡ commands.Effect effect_kinds.SetSlot) (effect_answer_row effect_kinds.SetSlot)
    answers.SetSlot (λ held. refl)

is_of_kind : (kind : CommandKind) (limit : Limit) (place : Place) (x : Answer × Place) → IsBytes place.rest
    → answered_at kind limit place ≡ Ok x → kind_of_answer x.0 ≡ kind
is_of_kind (commands.Question kind) limit place x fits e = question_kind kind limit place x fits e
is_of_kind (commands.Effect kind) limit place x fits e = effect_kind kind place x fits e

-- what an answer spells is the same whatever its command allows
spelled_same : (limit : Limit) (sizes : IdSizes) (a : Answer)
    → spell_sayings sizes (told_answer limit a) ≡ spell_sayings sizes (told_answer Any a)
spelled_same limit sizes (answers.ClassesBySignature cs) = refl
spelled_same limit sizes (answers.AllClasses cs) = refl
spelled_same limit sizes (answers.AllThreads ts) = refl
spelled_same limit sizes (answers.IdSizes f m o c r) = refl
spelled_same limit sizes (answers.Signature s) = refl
spelled_same limit sizes (answers.Fields fs) = refl
spelled_same limit sizes (answers.Methods ms) = refl
spelled_same limit sizes (answers.SourceFile s) = refl
spelled_same limit sizes (answers.Superclass c) = refl
spelled_same limit sizes (answers.LineTable t) = refl
spelled_same limit sizes (answers.VariableTable n vs) = refl
spelled_same limit sizes (answers.ObjectType tag c) = refl
spelled_same limit sizes (answers.GetFields vs) = refl
spelled_same limit sizes (answers.StringValue s) = refl
spelled_same limit sizes (answers.ThreadName s) = refl
spelled_same limit sizes (answers.Frames fs) = refl
spelled_same limit sizes (answers.FrameCount n) = refl
spelled_same limit sizes (answers.ArrayLength n) = refl
spelled_same limit sizes (answers.GetElements r) = refl
spelled_same limit sizes (answers.GetSlots vs) = refl
spelled_same limit sizes (answers.ThisObject o) = refl
spelled_same limit sizes answers.Dispose = refl
spelled_same limit sizes answers.Suspend = refl
spelled_same limit sizes answers.Resume = refl
spelled_same limit sizes answers.Exit = refl
spelled_same limit sizes answers.SetField = refl
spelled_same limit sizes answers.SetElement = refl
spelled_same limit sizes (answers.Set r) = refl
spelled_same limit sizes answers.Clear = refl
spelled_same limit sizes answers.SetSlot = refl

in_range_same : (limit : Limit) (a : Answer) → InRangeAnswer a → InRangeSayings (told_answer limit a)
in_range_same limit (answers.ClassesBySignature cs) range = range
in_range_same limit (answers.AllClasses cs) range = range
in_range_same limit (answers.AllThreads ts) range = range
in_range_same limit (answers.IdSizes f m o c r) range = range
in_range_same limit (answers.Signature s) range = range
in_range_same limit (answers.Fields fs) range = range
in_range_same limit (answers.Methods ms) range = range
in_range_same limit (answers.SourceFile s) range = range
in_range_same limit (answers.Superclass c) range = range
in_range_same limit (answers.LineTable t) range = range
in_range_same limit (answers.VariableTable n vs) range = range
in_range_same limit (answers.ObjectType tag c) range = range
in_range_same limit (answers.GetFields vs) range = range
in_range_same limit (answers.StringValue s) range = range
in_range_same limit (answers.ThreadName s) range = range
in_range_same limit (answers.Frames fs) range = range
in_range_same limit (answers.FrameCount n) range = range
in_range_same limit (answers.ArrayLength n) range = range
in_range_same limit (answers.GetElements r) range = range
in_range_same limit (answers.GetSlots vs) range = range
in_range_same limit (answers.ThisObject o) range = range
in_range_same limit answers.Dispose range = range
in_range_same limit answers.Suspend range = range
in_range_same limit answers.Resume range = range
in_range_same limit answers.Exit range = range
in_range_same limit answers.SetField range = range
in_range_same limit answers.SetElement range = range
in_range_same limit (answers.Set r) range = range
in_range_same limit answers.Clear range = range
in_range_same limit answers.SetSlot range = range

-- what its command allows has a spelling
pub fits_same : (limit : Limit) (sizes : IdSizes) (a : Answer) → FitsSayings sizes (told_answer limit a)
    → FitsAnswer sizes a
fits_same limit sizes (answers.ClassesBySignature cs) fits = fits
fits_same limit sizes (answers.AllClasses cs) fits = fits
fits_same limit sizes (answers.AllThreads ts) fits = fits
fits_same limit sizes (answers.IdSizes f m o c r) fits = fits
fits_same limit sizes (answers.Signature s) fits = fits
fits_same limit sizes (answers.Fields fs) fits = fits
fits_same limit sizes (answers.Methods ms) fits = fits
fits_same limit sizes (answers.SourceFile s) fits = fits
fits_same limit sizes (answers.Superclass c) fits = fits
fits_same limit sizes (answers.LineTable t) fits = fits
fits_same limit sizes (answers.VariableTable n vs) fits = fits
fits_same limit sizes (answers.ObjectType tag c) fits = fits
fits_same limit sizes (answers.GetFields vs) fits = ((fits.0.0, refl), tt)
fits_same limit sizes (answers.StringValue s) fits = fits
fits_same limit sizes (answers.ThreadName s) fits = fits
fits_same limit sizes (answers.Frames fs) fits = ((fits.0.0, refl), tt)
fits_same limit sizes (answers.FrameCount n) fits = fits
fits_same limit sizes (answers.ArrayLength n) fits = fits
fits_same limit sizes (answers.GetElements r) fits =
    (record { tag = fits.0.tag; values = fits.0.values; count = refl }, tt)
fits_same limit sizes (answers.GetSlots vs) fits = ((fits.0.0, refl), tt)
fits_same limit sizes (answers.ThisObject o) fits = fits
fits_same limit sizes answers.Dispose fits = fits
fits_same limit sizes answers.Suspend fits = fits
fits_same limit sizes answers.Resume fits = fits
fits_same limit sizes answers.Exit fits = fits
fits_same limit sizes answers.SetField fits = fits
fits_same limit sizes answers.SetElement fits = fits
fits_same limit sizes (answers.Set r) fits = fits
fits_same limit sizes answers.Clear fits = fits
fits_same limit sizes answers.SetSlot fits = fits

answer_again : (limit : Limit) (a : Answer) (place : Place) → FitsSayings place.sizes (told_answer limit a)
    → InRangeSayings (told_answer limit a) → place.rest ≡ spell_sayings place.sizes (told_answer limit a) ++ []
    → answered_at (kind_of_answer a) limit place ≡ Ok (a, behind place [])
answer_again limit (answers.ClassesBySignature cs) place fits range is =
    items_again (question_answer_row question_kinds.ClassesBySignature limit) answers.ClassesBySignature place (cs, tt)
    fits range (tt, tt) is
answer_again limit (answers.AllClasses cs) place fits range is =
    items_again (question_answer_row question_kinds.AllClasses limit) answers.AllClasses place (cs, tt) fits range
    (tt, tt) is
answer_again limit (answers.AllThreads ts) place fits range is =
    items_again (question_answer_row question_kinds.AllThreads limit) answers.AllThreads place (ts, tt) fits range
    (tt, tt) is
answer_again limit (answers.IdSizes f m o c r) place fits range is =
    items_again (question_answer_row question_kinds.IdSizes limit) answers.IdSizes place (f, (m, (o, (c, (r, tt)))))
    fits range (tt, (tt, (tt, (tt, (tt, tt))))) is
answer_again limit (answers.Signature s) place fits range is =
    items_again (question_answer_row question_kinds.Signature limit) answers.Signature place (s, tt) fits range
    (tt, tt) is
answer_again limit (answers.Fields fs) place fits range is =
    items_again (question_answer_row question_kinds.Fields limit) answers.Fields place (fs, tt) fits range (tt, tt) is
answer_again limit (answers.Methods ms) place fits range is =
    items_again (question_answer_row question_kinds.Methods limit) answers.Methods place (ms, tt) fits range (tt, tt) is
answer_again limit (answers.SourceFile s) place fits range is =
    items_again (question_answer_row question_kinds.SourceFile limit) answers.SourceFile place (s, tt) fits range
    (tt, tt) is
answer_again limit (answers.Superclass c) place fits range is =
    items_again (question_answer_row question_kinds.Superclass limit) answers.Superclass place (c, tt) fits range
    (tt, tt) is
answer_again limit (answers.LineTable t) place fits range is =
    items_again (question_answer_row question_kinds.LineTable limit) line_table place (t.start, (t.end, (t.lines, tt)))
    fits range (tt, (tt, (tt, tt))) is
answer_again limit (answers.VariableTable n vs) place fits range is =
    items_again (question_answer_row question_kinds.VariableTable limit) answers.VariableTable place (n, (vs, tt)) fits
    range (tt, (tt, tt)) is
answer_again limit (answers.ObjectType tag c) place fits range is =
    items_again (question_answer_row question_kinds.ObjectType limit) answers.ObjectType place (tag, (c, tt)) fits range
    (tt, (tt, tt)) is
answer_again limit (answers.GetFields vs) place fits range is =
    items_again (question_answer_row question_kinds.GetFields limit) answers.GetFields place (vs, tt) fits range
    (tt, tt) is
answer_again limit (answers.StringValue s) place fits range is =
    items_again (question_answer_row question_kinds.StringValue limit) answers.StringValue place (s, tt) fits range
    (tt, tt) is
answer_again limit (answers.ThreadName s) place fits range is =
    items_again (question_answer_row question_kinds.ThreadName limit) answers.ThreadName place (s, tt) fits range
    (tt, tt) is
answer_again limit (answers.Frames fs) place fits range is =
    items_again (question_answer_row question_kinds.Frames limit) answers.Frames place (fs, tt) fits range (tt, tt) is
answer_again limit (answers.FrameCount n) place fits range is =
    items_again (question_answer_row question_kinds.FrameCount limit) answers.FrameCount place (n, tt) fits range
    (tt, tt) is
answer_again limit (answers.ArrayLength n) place fits range is =
    items_again (question_answer_row question_kinds.ArrayLength limit) answers.ArrayLength place (n, tt) fits range
    (tt, tt) is
answer_again limit (answers.GetElements r) place fits range is =
    items_again (question_answer_row question_kinds.GetElements limit) answers.GetElements place (r, tt) fits range
    (tt, tt) is
answer_again limit (answers.GetSlots vs) place fits range is =
    items_again (question_answer_row question_kinds.GetSlots limit) answers.GetSlots place (vs, tt) fits range
    (tt, tt) is
answer_again limit (answers.ThisObject o) place fits range is =
    items_again (question_answer_row question_kinds.ThisObject limit) answers.ThisObject place (o, tt) fits range
    (tt, tt) is
answer_again limit answers.Dispose place fits range is =
    items_again (effect_answer_row effect_kinds.Dispose) answers.Dispose place tt fits range tt is
answer_again limit answers.Suspend place fits range is =
    items_again (effect_answer_row effect_kinds.Suspend) answers.Suspend place tt fits range tt is
answer_again limit answers.Resume place fits range is =
    items_again (effect_answer_row effect_kinds.Resume) answers.Resume place tt fits range tt is
answer_again limit answers.Exit place fits range is =
    items_again (effect_answer_row effect_kinds.Exit) answers.Exit place tt fits range tt is
answer_again limit answers.SetField place fits range is =
    items_again (effect_answer_row effect_kinds.SetField) answers.SetField place tt fits range tt is
answer_again limit answers.SetElement place fits range is =
    items_again (effect_answer_row effect_kinds.SetElement) answers.SetElement place tt fits range tt is
answer_again limit (answers.Set r) place fits range is =
    items_again (effect_answer_row effect_kinds.Set) answers.Set place (r, tt) fits range (tt, tt) is
answer_again limit answers.Clear place fits range is =
    items_again (effect_answer_row effect_kinds.Clear) answers.Clear place tt fits range tt is
answer_again limit answers.SetSlot place fits range is =
    items_again (effect_answer_row effect_kinds.SetSlot) answers.SetSlot place tt fits range tt is

pub record IsSpelled (sizes : IdSizes) (asked : Asked) (body : List ℕ) (a : Answer) : Type 0 where
  pub answers : IsAnswerTo sizes asked a
  pub spelled : body ≡ spell_answer sizes a

pub answer_takes : (sizes : IdSizes) (asked : Asked) (body : List ℕ) (a : Answer) → IsBytes body
    → answer_at sizes asked body ≡ Ok a → IsSpelled sizes asked body a
unfolding answer_at spell_answer
answer_takes sizes asked body a fits e =
    let limit = limit_of asked in
    let w = whole_found (answered_at (kind_of asked) limit) sizes body a e in
    let t = takes (kind_of asked) limit (start sizes body) w.found fits w.reads in
    let here : IsSpelled sizes asked body w.found.0 = record {
      answers =
          record { row = is_of_kind (kind_of asked) limit (start sizes body) w.found fits w.reads; fits = t.fits };
      spelled =
          all_taken sizes body (spell_sayings sizes (told_answer limit w.found.0)) w.found.1 t.takes w.nothing ∙
          spelled_same limit sizes w.found.0;
    } in
    subst (λ (y : Answer). IsSpelled sizes asked body y) w.is here

pub answer_is_read : (sizes : IdSizes) (asked : Asked) (a : Answer) → IsAnswerTo sizes asked a → InRangeAnswer a
    → answer_at sizes asked (spell_answer sizes a) ≡ Ok a
unfolding answer_at spell_answer
answer_is_read sizes asked a answers range =
    let limit = limit_of asked in
    let body = spell_sayings sizes (told_answer Any a) in
    let is : body ≡ spell_sayings sizes (told_answer limit a) ++ [] =
    sym (spelled_same limit sizes a) ∙ sym (append-nil (spell_sayings sizes (told_answer limit a))) in
    ap (λ (kind : CommandKind). whole (answered_at kind limit) sizes body) (sym answers.row)
    ∙ whole_again (answered_at (kind_of_answer a) limit) sizes body a
    (answer_again limit a (start sizes body) answers.fits (in_range_same limit a range) is)
