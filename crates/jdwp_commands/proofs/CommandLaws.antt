-- The body of a command that is read was spelled, and one that is spelled is read.
use Rattle.std.proofs.Common.{◌≡◌, ℕ, List, [], ◌∷◌, ◌++◌, Option, Some, None, Ok, refl, sym, ap, subst, ◌∙◌}
use Rattle.std.proofs.lemmas.Bool.{eqb-true}
use Rattle.std.proofs.lemmas.List.{append-nil}
use Rattle.jdwp_values.specs.declared.fault.RowFault.{RowFault}
use Rattle.jdwp_values.specs.declared.limit.Limit.TheVariants.{Exactly}
use Rattle.jdwp_values.specs.declared.sizes.IdSizes.{IdSizes}
use Rattle.jdwp_values.specs.Bytes.{IsBytes}
use Rattle.jdwp_values.specs.Parts.{int, object, thread, field, frame, count, value, tail}
use Rattle.jdwp_values.specs.Reading.{Place, behind}
use Rattle.jdwp_values.proofs.RowLaws.{bind_ok, bind_is, ok_is}
use Rattle.jdwp_commands.specs.declared.asked.Asked.{Asked}
use Rattle.jdwp_commands.specs.declared.asked.Asked.TheVariants.{Question as a_question, Effect as an_effect}
use Rattle.jdwp_commands.specs.declared.effect.Effect.{Effect}
use Rattle.jdwp_commands.specs.declared.effect.Effect.TheVariants as effects
use Rattle.jdwp_commands.specs.declared.kind.CommandKind.{CommandKind}
use Rattle.jdwp_commands.specs.declared.kind.CommandKind.TheVariants as commands
use Rattle.jdwp_commands.specs.declared.kind.EffectKind.{EffectKind}
use Rattle.jdwp_commands.specs.declared.kind.EffectKind.TheVariants as effect_kinds
use Rattle.jdwp_commands.specs.declared.kind.QuestionKind.{QuestionKind}
use Rattle.jdwp_commands.specs.declared.kind.QuestionKind.TheVariants as question_kinds
use Rattle.jdwp_commands.specs.declared.question.Question.{Question}
use Rattle.jdwp_commands.specs.declared.question.Question.TheVariants as questions
use Rattle.jdwp_commands.specs.Bodies.{start, whole}
use Rattle.jdwp_commands.specs.Commands.{kind_of_question, kind_of_effect, kind_of, number_of, question_row, effect_row}
use Rattle.jdwp_commands.specs.Commands.{question_at, effect_at, told_question, told_effect, told, spell_command}
use Rattle.jdwp_commands.specs.Commands.{FitsCommand, InRangeCommand, asked_at, of_kind_at, command_at}
use Rattle.jdwp_commands.specs.Items.{part, says, spell_sayings, FitsSayings, InRangeSayings}
use Rattle.jdwp_commands.specs.Kinds.{numbers, kind_of_numbers}
use Rattle.jdwp_commands.proofs.BodyLaws.{whole_found, whole_again, all_taken}
use Rattle.jdwp_commands.proofs.ItemLaws.{TakesSayings, told_takes, of_items, items_again}
use Rattle.jdwp_commands.proofs.KindLaws.{kind_back, kind_of-numbers}

question_takes : (kind : QuestionKind) (place : Place) (x : Question × Place) → IsBytes place.rest
    → question_at kind place ≡ Ok x → TakesSayings place (told_question x.0) x.1
question_takes question_kinds.ClassesBySignature =
    told_takes told_question (question_row question_kinds.ClassesBySignature) questions.ClassesBySignature
    (λ sizes held fits. refl)
question_takes question_kinds.AllClasses =
    told_takes told_question (question_row question_kinds.AllClasses) questions.AllClasses (λ sizes held fits. refl)
question_takes question_kinds.AllThreads =
    told_takes told_question (question_row question_kinds.AllThreads) questions.AllThreads (λ sizes held fits. refl)
question_takes question_kinds.IdSizes =
    told_takes told_question (question_row question_kinds.IdSizes) questions.IdSizes (λ sizes held fits. refl)
question_takes question_kinds.Signature =
    told_takes told_question (question_row question_kinds.Signature) questions.Signature (λ sizes held fits. refl)
question_takes question_kinds.Fields =
    told_takes told_question (question_row question_kinds.Fields) questions.Fields (λ sizes held fits. refl)
question_takes question_kinds.Methods =
    told_takes told_question (question_row question_kinds.Methods) questions.Methods (λ sizes held fits. refl)
question_takes question_kinds.SourceFile =
    told_takes told_question (question_row question_kinds.SourceFile) questions.SourceFile (λ sizes held fits. refl)
question_takes question_kinds.Superclass =
    told_takes told_question (question_row question_kinds.Superclass) questions.Superclass (λ sizes held fits. refl)
question_takes question_kinds.LineTable =
    told_takes told_question (question_row question_kinds.LineTable) questions.LineTable (λ sizes held fits. refl)
question_takes question_kinds.VariableTable =
    told_takes told_question (question_row question_kinds.VariableTable) questions.VariableTable
    (λ sizes held fits. refl)
question_takes question_kinds.ObjectType =
    told_takes told_question (question_row question_kinds.ObjectType) questions.ObjectType (λ sizes held fits. refl)
question_takes question_kinds.GetFields =
    told_takes told_question (question_row question_kinds.GetFields) questions.GetFields (λ sizes held fits. refl)
question_takes question_kinds.StringValue =
    told_takes told_question (question_row question_kinds.StringValue) questions.StringValue (λ sizes held fits. refl)
question_takes question_kinds.ThreadName =
    told_takes told_question (question_row question_kinds.ThreadName) questions.ThreadName (λ sizes held fits. refl)
question_takes question_kinds.Frames =
    told_takes told_question (question_row question_kinds.Frames) questions.Frames (λ sizes held fits. refl)
question_takes question_kinds.FrameCount =
    told_takes told_question (question_row question_kinds.FrameCount) questions.FrameCount (λ sizes held fits. refl)
question_takes question_kinds.ArrayLength =
    told_takes told_question (question_row question_kinds.ArrayLength) questions.ArrayLength (λ sizes held fits. refl)
question_takes question_kinds.GetElements =
    told_takes told_question (question_row question_kinds.GetElements) questions.GetElements (λ sizes held fits. refl)
question_takes question_kinds.GetSlots =
    told_takes told_question (question_row question_kinds.GetSlots) questions.GetSlots (λ sizes held fits. refl)
question_takes question_kinds.ThisObject =
    told_takes told_question (question_row question_kinds.ThisObject) questions.ThisObject (λ sizes held fits. refl)

question_kind : (kind : QuestionKind) (place : Place) (x : Question × Place) → IsBytes place.rest
    → question_at kind place ≡ Ok x → kind_of_question x.0 ≡ kind
question_kind question_kinds.ClassesBySignature =
    of_items (λ q. kind_of_question q ≡ question_kinds.ClassesBySignature)
    (question_row question_kinds.ClassesBySignature) questions.ClassesBySignature (λ held. refl)
question_kind question_kinds.AllClasses =
    of_items (λ q. kind_of_question q ≡ question_kinds.AllClasses) (question_row question_kinds.AllClasses)
    questions.AllClasses (λ held. refl)
question_kind question_kinds.AllThreads =
    of_items (λ q. kind_of_question q ≡ question_kinds.AllThreads) (question_row question_kinds.AllThreads)
    questions.AllThreads (λ held. refl)
question_kind question_kinds.IdSizes =
    of_items (λ q. kind_of_question q ≡ question_kinds.IdSizes) (question_row question_kinds.IdSizes) questions.IdSizes
    (λ held. refl)
question_kind question_kinds.Signature =
    of_items (λ q. kind_of_question q ≡ question_kinds.Signature) (question_row question_kinds.Signature)
    questions.Signature (λ held. refl)
question_kind question_kinds.Fields =
    of_items (λ q. kind_of_question q ≡ question_kinds.Fields) (question_row question_kinds.Fields) questions.Fields
    (λ held. refl)
question_kind question_kinds.Methods =
    of_items (λ q. kind_of_question q ≡ question_kinds.Methods) (question_row question_kinds.Methods) questions.Methods
    (λ held. refl)
question_kind question_kinds.SourceFile =
    of_items (λ q. kind_of_question q ≡ question_kinds.SourceFile) (question_row question_kinds.SourceFile)
    questions.SourceFile (λ held. refl)
question_kind question_kinds.Superclass =
    of_items (λ q. kind_of_question q ≡ question_kinds.Superclass) (question_row question_kinds.Superclass)
    questions.Superclass (λ held. refl)
question_kind question_kinds.LineTable =
    of_items (λ q. kind_of_question q ≡ question_kinds.LineTable) (question_row question_kinds.LineTable)
    questions.LineTable (λ held. refl)
question_kind question_kinds.VariableTable =
    of_items (λ q. kind_of_question q ≡ question_kinds.VariableTable) (question_row question_kinds.VariableTable)
    questions.VariableTable (λ held. refl)
question_kind question_kinds.ObjectType =
    of_items (λ q. kind_of_question q ≡ question_kinds.ObjectType) (question_row question_kinds.ObjectType)
    questions.ObjectType (λ held. refl)
question_kind question_kinds.GetFields =
    of_items (λ q. kind_of_question q ≡ question_kinds.GetFields) (question_row question_kinds.GetFields)
    questions.GetFields (λ held. refl)
question_kind question_kinds.StringValue =
    of_items (λ q. kind_of_question q ≡ question_kinds.StringValue) (question_row question_kinds.StringValue)
    questions.StringValue (λ held. refl)
question_kind question_kinds.ThreadName =
    of_items (λ q. kind_of_question q ≡ question_kinds.ThreadName) (question_row question_kinds.ThreadName)
    questions.ThreadName (λ held. refl)
question_kind question_kinds.Frames =
    of_items (λ q. kind_of_question q ≡ question_kinds.Frames) (question_row question_kinds.Frames) questions.Frames
    (λ held. refl)
question_kind question_kinds.FrameCount =
    of_items (λ q. kind_of_question q ≡ question_kinds.FrameCount) (question_row question_kinds.FrameCount)
    questions.FrameCount (λ held. refl)
question_kind question_kinds.ArrayLength =
    of_items (λ q. kind_of_question q ≡ question_kinds.ArrayLength) (question_row question_kinds.ArrayLength)
    questions.ArrayLength (λ held. refl)
question_kind question_kinds.GetElements =
    of_items (λ q. kind_of_question q ≡ question_kinds.GetElements) (question_row question_kinds.GetElements)
    questions.GetElements (λ held. refl)
question_kind question_kinds.GetSlots =
    of_items (λ q. kind_of_question q ≡ question_kinds.GetSlots) (question_row question_kinds.GetSlots)
    questions.GetSlots (λ held. refl)
question_kind question_kinds.ThisObject =
    of_items (λ q. kind_of_question q ≡ question_kinds.ThisObject) (question_row question_kinds.ThisObject)
    questions.ThisObject (λ held. refl)

question_again : (q : Question) (place : Place) → FitsSayings place.sizes (told_question q)
    → InRangeSayings (told_question q) → place.rest ≡ spell_sayings place.sizes (told_question q) ++ []
    → question_at (kind_of_question q) place ≡ Ok (q, behind place [])
question_again (questions.ClassesBySignature s) place fits range is =
    items_again (question_row question_kinds.ClassesBySignature) questions.ClassesBySignature place (s, tt) fits range
    (tt, tt) is
question_again questions.AllClasses place fits range is =
    items_again (question_row question_kinds.AllClasses) questions.AllClasses place tt fits range tt is
question_again questions.AllThreads place fits range is =
    items_again (question_row question_kinds.AllThreads) questions.AllThreads place tt fits range tt is
question_again questions.IdSizes place fits range is =
    items_again (question_row question_kinds.IdSizes) questions.IdSizes place tt fits range tt is
question_again (questions.Signature c) place fits range is =
    items_again (question_row question_kinds.Signature) questions.Signature place (c, tt) fits range (tt, tt) is
question_again (questions.Fields c) place fits range is =
    items_again (question_row question_kinds.Fields) questions.Fields place (c, tt) fits range (tt, tt) is
question_again (questions.Methods c) place fits range is =
    items_again (question_row question_kinds.Methods) questions.Methods place (c, tt) fits range (tt, tt) is
question_again (questions.SourceFile c) place fits range is =
    items_again (question_row question_kinds.SourceFile) questions.SourceFile place (c, tt) fits range (tt, tt) is
question_again (questions.Superclass c) place fits range is =
    items_again (question_row question_kinds.Superclass) questions.Superclass place (c, tt) fits range (tt, tt) is
question_again (questions.LineTable c m) place fits range is =
    items_again (question_row question_kinds.LineTable) questions.LineTable place (c, (m, tt)) fits range
    (tt, (tt, tt)) is
question_again (questions.VariableTable c m) place fits range is =
    items_again (question_row question_kinds.VariableTable) questions.VariableTable place (c, (m, tt)) fits range
    (tt, (tt, tt)) is
question_again (questions.ObjectType o) place fits range is =
    items_again (question_row question_kinds.ObjectType) questions.ObjectType place (o, tt) fits range (tt, tt) is
question_again (questions.GetFields o fs) place fits range is =
    items_again (question_row question_kinds.GetFields) questions.GetFields place (o, (fs, tt)) fits range
    (tt, (tt, tt)) is
question_again (questions.StringValue o) place fits range is =
    items_again (question_row question_kinds.StringValue) questions.StringValue place (o, tt) fits range (tt, tt) is
question_again (questions.ThreadName t) place fits range is =
    items_again (question_row question_kinds.ThreadName) questions.ThreadName place (t, tt) fits range (tt, tt) is
question_again (questions.Frames t first n) place fits range is =
    items_again (question_row question_kinds.Frames) questions.Frames place (t, (first, (n, tt))) fits range
    (tt, (tt, (tt, tt))) is
question_again (questions.FrameCount t) place fits range is =
    items_again (question_row question_kinds.FrameCount) questions.FrameCount place (t, tt) fits range (tt, tt) is
question_again (questions.ArrayLength a) place fits range is =
    items_again (question_row question_kinds.ArrayLength) questions.ArrayLength place (a, tt) fits range (tt, tt) is
question_again (questions.GetElements a first n) place fits range is =
    items_again (question_row question_kinds.GetElements) questions.GetElements place (a, (first, (n, tt))) fits range
    (tt, (tt, (tt, tt))) is
question_again (questions.GetSlots t f ss) place fits range is =
    items_again (question_row question_kinds.GetSlots) questions.GetSlots place (t, (f, (ss, tt))) fits range
    (tt, (tt, (tt, tt))) is
question_again (questions.ThisObject t f) place fits range is =
    items_again (question_row question_kinds.ThisObject) questions.ThisObject place (t, (f, tt)) fits range
    (tt, (tt, tt)) is

effect_takes : (kind : EffectKind) (place : Place) (x : Effect × Place) → IsBytes place.rest
    → effect_at kind place ≡ Ok x → TakesSayings place (told_effect x.0) x.1
effect_takes effect_kinds.Dispose =
    told_takes told_effect (effect_row effect_kinds.Dispose) effects.Dispose (λ sizes held fits. refl)
effect_takes effect_kinds.Suspend =
    told_takes told_effect (effect_row effect_kinds.Suspend) effects.Suspend (λ sizes held fits. refl)
effect_takes effect_kinds.Resume =
    told_takes told_effect (effect_row effect_kinds.Resume) effects.Resume (λ sizes held fits. refl)
effect_takes effect_kinds.Exit =
    told_takes told_effect (effect_row effect_kinds.Exit) effects.Exit (λ sizes held fits. refl)
effect_takes effect_kinds.SetField =
    told_takes told_effect (effect_row effect_kinds.SetField) (λ o one f v. effects.SetField o f v)
    (λ sizes held fits. ap
    (λ (n : ℕ). says (part object) held.0 ∷ says (part (count (Exactly 1))) n ∷ says (part field) held.1.1.0 ∷
    says (part tail) held.1.1.1.0 ∷ []) (sym (eqb-true _ _ fits.1.0.1)))
effect_takes effect_kinds.SetElement =
    told_takes told_effect (effect_row effect_kinds.SetElement) (λ a first one v. effects.SetElement a first v)
    (λ sizes held fits. ap
    (λ (n : ℕ). says (part object) held.0 ∷ says (part int) held.1.0 ∷ says (part (count (Exactly 1))) n ∷ says
    (part tail) held.1.1.1.0 ∷ []) (sym (eqb-true _ _ fits.1.1.0.1)))
effect_takes effect_kinds.Set =
    told_takes told_effect (effect_row effect_kinds.Set) effects.Set (λ sizes held fits. refl)
effect_takes effect_kinds.Clear =
    told_takes told_effect (effect_row effect_kinds.Clear) effects.Clear (λ sizes held fits. refl)
effect_takes effect_kinds.SetSlot =
    told_takes told_effect (effect_row effect_kinds.SetSlot) (λ t f one slot v. effects.SetSlot t f slot v)
    (λ sizes held fits. ap
    (λ (n : ℕ). says (part thread) held.0 ∷ says (part frame) held.1.0 ∷ says (part (count (Exactly 1))) n ∷
    says (part int) held.1.1.1.0 ∷ says (part value) held.1.1.1.1.0 ∷ []) (sym (eqb-true _ _ fits.1.1.0.1)))

effect_kind : (kind : EffectKind) (place : Place) (x : Effect × Place) → IsBytes place.rest
    → effect_at kind place ≡ Ok x → kind_of_effect x.0 ≡ kind
effect_kind effect_kinds.Dispose =
    of_items (λ e. kind_of_effect e ≡ effect_kinds.Dispose) (effect_row effect_kinds.Dispose) effects.Dispose
    (λ held. refl)
effect_kind effect_kinds.Suspend =
    of_items (λ e. kind_of_effect e ≡ effect_kinds.Suspend) (effect_row effect_kinds.Suspend) effects.Suspend
    (λ held. refl)
effect_kind effect_kinds.Resume =
    of_items (λ e. kind_of_effect e ≡ effect_kinds.Resume) (effect_row effect_kinds.Resume) effects.Resume
    (λ held. refl)
effect_kind effect_kinds.Exit =
    of_items (λ e. kind_of_effect e ≡ effect_kinds.Exit) (effect_row effect_kinds.Exit) effects.Exit (λ held. refl)
effect_kind effect_kinds.SetField =
    of_items (λ e. kind_of_effect e ≡ effect_kinds.SetField) (effect_row effect_kinds.SetField)
    (λ o one f v. effects.SetField o f v) (λ held. refl)
effect_kind effect_kinds.SetElement =
    of_items (λ e. kind_of_effect e ≡ effect_kinds.SetElement) (effect_row effect_kinds.SetElement)
    (λ a first one v. effects.SetElement a first v) (λ held. refl)
effect_kind effect_kinds.Set =
    of_items (λ e. kind_of_effect e ≡ effect_kinds.Set) (effect_row effect_kinds.Set) effects.Set (λ held. refl)
effect_kind effect_kinds.Clear =
    of_items (λ e. kind_of_effect e ≡ effect_kinds.Clear) (effect_row effect_kinds.Clear) effects.Clear (λ held. refl)
effect_kind effect_kinds.SetSlot =
    of_items (λ e. kind_of_effect e ≡ effect_kinds.SetSlot) (effect_row effect_kinds.SetSlot)
    (λ t f one slot v. effects.SetSlot t f slot v) (λ held. refl)

effect_again : (e : Effect) (place : Place) → FitsSayings place.sizes (told_effect e) → InRangeSayings (told_effect e)
    → place.rest ≡ spell_sayings place.sizes (told_effect e) ++ []
    → effect_at (kind_of_effect e) place ≡ Ok (e, behind place [])
effect_again effects.Dispose place fits range is =
    items_again (effect_row effect_kinds.Dispose) effects.Dispose place tt fits range tt is
effect_again effects.Suspend place fits range is =
    items_again (effect_row effect_kinds.Suspend) effects.Suspend place tt fits range tt is
effect_again effects.Resume place fits range is =
    items_again (effect_row effect_kinds.Resume) effects.Resume place tt fits range tt is
effect_again (effects.Exit n) place fits range is =
    items_again (effect_row effect_kinds.Exit) effects.Exit place (n, tt) fits range (tt, tt) is
effect_again (effects.SetField o f v) place fits range is =
    items_again (effect_row effect_kinds.SetField) (λ o one f v. effects.SetField o f v) place (o, (1, (f, (v, tt))))
    fits range (tt, (tt, (tt, (refl, tt)))) is
effect_again (effects.SetElement a first v) place fits range is =
    items_again (effect_row effect_kinds.SetElement) (λ a first one v. effects.SetElement a first v) place
    (a, (first, (1, (v, tt)))) fits range (tt, (tt, (tt, (refl, tt)))) is
effect_again (effects.Set k p ms) place fits range is =
    items_again (effect_row effect_kinds.Set) effects.Set place (k, (p, (ms, tt))) fits range (tt, (tt, (tt, tt))) is
effect_again (effects.Clear k r) place fits range is =
    items_again (effect_row effect_kinds.Clear) effects.Clear place (k, (r, tt)) fits range (tt, (tt, tt)) is
effect_again (effects.SetSlot t f slot v) place fits range is =
    items_again (effect_row effect_kinds.SetSlot) (λ t f one slot v. effects.SetSlot t f slot v) place
    (t, (f, (1, (slot, (v, tt))))) fits range (tt, (tt, (tt, (tt, (tt, tt))))) is

-- what was read is of its kind, and what was taken says it
record TakesAsked (kind : CommandKind) (place : Place) (x : Asked × Place) : Type 0 where
  kind_is : kind_of x.0 ≡ kind
  takes : TakesSayings place (told x.0) x.1

asked_takes : (kind : CommandKind) (place : Place) (x : Asked × Place) → IsBytes place.rest → asked_at kind place ≡ Ok x
    → TakesAsked kind place x
asked_takes (commands.Question kind) place x fits e =
    let q = bind_ok (question_at kind place) (λ q. Ok (a_question q.0, q.1)) x e in
    let here : Asked × Place = (a_question q.0.0, q.0.1) in
    subst (λ (y : Asked × Place). TakesAsked (commands.Question kind) place y) (ok_is {E = RowFault} here x q.2)
    (record {
      kind_is = ap commands.Question (question_kind kind place q.0 fits q.1);
      takes = question_takes kind place
          q.0 fits q.1;
    })
asked_takes (commands.Effect kind) place x fits e =
    let q = bind_ok (effect_at kind place) (λ q. Ok (an_effect q.0, q.1)) x e in
    let here : Asked × Place = (an_effect q.0.0, q.0.1) in
    subst (λ (y : Asked × Place). TakesAsked (commands.Effect kind) place y) (ok_is {E = RowFault} here x q.2)
    (record {
      kind_is = ap commands.Effect (effect_kind kind place q.0 fits q.1);
      takes = effect_takes kind place q.0
          fits q.1;
    })

asked_again : (x : Asked) (place : Place) → FitsSayings place.sizes (told x) → InRangeSayings (told x)
    → place.rest ≡ spell_sayings place.sizes (told x) ++ [] → asked_at (kind_of x) place ≡ Ok (x, behind place [])
asked_again (a_question q) place fits range is =
    bind_is (question_at (kind_of_question q) place) (λ y. Ok (a_question y.0, y.1)) (q, behind place [])
    (question_again q place fits range is)
asked_again (an_effect e) place fits range is =
    bind_is (effect_at (kind_of_effect e) place) (λ y. Ok (an_effect y.0, y.1)) (e, behind place [])
    (effect_again e place fits range is)

of_kind_ok : (o : Option CommandKind) (sizes : IdSizes) (body : List ℕ) (c : Asked) → of_kind_at o sizes body ≡ Ok c
    → (kind : CommandKind) × (o ≡ Some kind) × (whole (asked_at kind) sizes body ≡ Ok c)
of_kind_ok (Some kind) sizes body c e = (kind, refl, e)
of_kind_ok None sizes body c e = absurd cc

pub record IsCommand (sizes : IdSizes) (set command : ℕ) (body : List ℕ) (c : Asked) : Type 0 where
  pub number : number_of c ≡ (set, command)
  pub fits : FitsCommand sizes c
  pub spelled : body ≡ spell_command sizes c

pub command_takes : (sizes : IdSizes) (set command : ℕ) (body : List ℕ) (c : Asked) → IsBytes body
    → command_at sizes set command body ≡ Ok c → IsCommand sizes set command body c
unfolding command_at spell_command
command_takes sizes set command body c fits e =
    let k = of_kind_ok (kind_of_numbers set command) sizes body c e in
    let w = whole_found (asked_at k.0) sizes body c k.2 in
    let t = asked_takes k.0 (start sizes body) w.found fits w.reads in
    let here : IsCommand sizes set command body w.found.0 = record {
      number = ap numbers t.kind_is ∙ kind_back set command k.0 k.1;
      fits = t.takes.fits;
      spelled = all_taken sizes body (spell_sayings sizes (told w.found.0)) w.found.1 t.takes.takes w.nothing;
    } in
    subst (λ (y : Asked). IsCommand sizes set command body y) w.is here

pub command_again : (sizes : IdSizes) (c : Asked) → FitsCommand sizes c → InRangeCommand c
    → command_at sizes (number_of c).0 (number_of c).1 (spell_command sizes c) ≡ Ok c
unfolding command_at spell_command
command_again sizes c fits range =
    let body = spell_sayings sizes (told c) in
    ap (λ (o : Option CommandKind). of_kind_at o sizes body) (kind_of-numbers (kind_of c))
    ∙ whole_again (asked_at (kind_of c)) sizes body c
    (asked_again c (start sizes body) fits range (sym (append-nil body)))
