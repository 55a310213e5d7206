-- The sizes of ids are replied once, and each command has a spelling with them.
use Rattle.std.proofs.Common.{◌≡◌, ◌<◌, ◌^◌, ℕ, Bool, true, false, cond, List, [], ◌∷◌, ◌++◌, Option, Some, None, refl}
use Rattle.std.proofs.Common.{sym, ap, subst, ◌∙◌, arith}
use Rattle.std.specs.List.{AllByRecursion as All}
use Rattle.jdwp_commands.specs.Answers.{kind_of_answer, limit_of, told_answer}
use Rattle.jdwp_commands.specs.Commands.{kind_of}
use Rattle.jdwp_commands.specs.declared.kind.CommandKind.TheVariants as kinds
use Rattle.jdwp_commands.specs.declared.kind.EffectKind.{EffectKind}
use Rattle.jdwp_commands.specs.declared.question.Question.TheVariants as questions
use Rattle.jdwp_values.specs.declared.sizes.IdSizes.{IdSizes}
use Rattle.machine_model.specs.Due.{Load, asked_first, asked_next, can_read, due, due_by, is_full, load_of, queued}
use Rattle.machine_model.specs.Ids.{Id, class, field, frame, ids_answered, ids_given, ids_replied, method, ids_asked}
use Rattle.machine_model.specs.Ids.{ids_of_composite, no_thread, object, thread_of}
use Rattle.machine_model.specs.Replying.{IsReply, SizesFor, any_sizes, is_waiting, sizes_of, sizes_read, wire}
use Rattle.machine_model.specs.Runs.{Allows, Message, Run, Takes, said}
use Rattle.machine_model.specs.Spelling.{AreSpelled, IsSpelled, all_sizes, first_sizes, sizes_replied}
use Rattle.machine_model.specs.State.{Hand, Machine, SizesRead, is_empty, is_gone, is_some}
use Rattle.machine_model.proofs.IdRows.{FitsId, all_weak, composite_ids, fitting_ids, same_ids}
use Rattle.machine_model.proofs.PlanIds.{IsAsked}
use Rattle.machine_model.proofs.WriteIds.{power}
use Rattle.machine_steps.specs.Names.{Answer, Composite, Effect, Question, Replied, TargetCommand, Want, a_question}
use Rattle.machine_steps.specs.Names.{an_effect}
use Rattle.machine_steps.proofs.IdLaws.{IsIdTest, Sends, all_sent, sends_may}
use Rattle.machine_steps.proofs.Standing.{IsKept, asked_in, sizes_more}
use Rattle.machine_steps.proofs.StandingReplies.{not_empty, only_sizes, sizes_is}
use Rattle.machine_steps.proofs.Stepping.{Moves, moved}
use Rattle.machine_steps.proofs.Testing.{same_replied}
use Rattle.machine_steps.proofs.WishIds.{MaySend}

-- The ids that an answer brings ---------------------------------------------------------------------------------------

-- an id fits the sizes that were replied; before that it fits any
abbrev Fits : Option SizesRead → Id → Type 0
Fits sizes id = (used : IdSizes) → SizesFor sizes used → FitsId used id

first_grows : (all more : List SizesRead) (used : IdSizes) → SizesFor (first_sizes (all ++ more)) used
    → SizesFor (first_sizes all) used
first_grows [] more used serves = any_sizes
first_grows (one ∷ all) more used serves = serves

is_read : (sizes : Option SizesRead) (used : IdSizes) → SizesFor sizes used → is_some sizes ≡ true
    → sizes ≡ Some (sizes_of used)
is_read None used any_sizes is = cc
is_read (Some sizes) used sizes_read is = refl

-- the sizes that serve are the same for ids
as_used : (a b : IdSizes) (id : Id) → sizes_of a ≡ sizes_of b → FitsId a id → FitsId b id
as_used a b (object id) same h = subst (λ (size : ℕ). id < 256 ^ size) (ap (λ (s : SizesRead). s.object) same) h
as_used a b (class id) same h = subst (λ (size : ℕ). id < 256 ^ size) (ap (λ (s : SizesRead). s.class) same) h
as_used a b (method id) same h = subst (λ (size : ℕ). id < 256 ^ size) (ap (λ (s : SizesRead). s.method) same) h
as_used a b (field id) same h = subst (λ (size : ℕ). id < 256 ^ size) (ap (λ (s : SizesRead). s.field) same) h
as_used a b (frame thread id) same h = subst (λ (size : ℕ). id < 256 ^ size) (ap (λ (s : SizesRead). s.frame) same) h

fits_read : (sizes : Option SizesRead) (used : IdSizes) → SizesFor sizes used → is_some sizes ≡ true → (id : Id)
    → FitsId used id → Fits sizes id
fits_read sizes used serves is id h other also =
    let same : sizes_of used ≡ sizes_of other =
    let one : Some (sizes_of used) ≡ Some (sizes_of other) = sym
    (is_read sizes used serves is) ∙ is_read sizes other also is in cc in
    as_used used other id same h

-- what answers to IDSizes and to effects say has no ids
no_ids : (answer : Answer) → kind_of_answer answer ≡ kind_of (wire (a_question questions.IdSizes))
    → ids_answered no_thread answer ≡ []
no_ids answer is = grind (arith, is)

effect_ids : (answer : Answer) (kind : EffectKind) → kind_of_answer answer ≡ kinds.Effect kind
    → ids_answered no_thread answer ≡ []
effect_ids answer kind is = grind (arith, is)

answer_fits : {messages : List Message} (m : Machine) {hand : Hand} (question : Question) (replied : Replied)
    (sized : Bool)
    → IsKept (Fits (sizes_replied messages)) messages m → is_gone m.state.phase ≡ false → m.hand ≡ Some hand
    → is_waiting question hand.asked ≡ true → IsReply m.state.sizes (a_question question) replied
    → is_some m.state.sizes ≡ sized → All (Fits m.state.sizes) (ids_replied (thread_of question) replied)
answer_fits m question replied sized k near is waits (IsReply.with_error some tolerated) known = tt
answer_fits m question replied true k near is waits (IsReply.with_answer {answer} used serves answers good) known =
    all_weak (FitsId used) (Fits m.state.sizes) (fits_read m.state.sizes used serves known)
    (ids_answered (thread_of question) answer)
    (subst (λ ids. All (FitsId used) ids) (same_ids (limit_of (wire (a_question question))) (thread_of question) answer)
    (fitting_ids used (thread_of question) (told_answer (limit_of (wire (a_question question))) answer) answers.fits))
answer_fits {messages} m {hand} question replied false k near is waits
    (IsReply.with_answer {answer} used serves answers good) known =
    let asked = subst (λ sized. All (IsAsked (Fits (sizes_replied messages)) sized) hand.asked) known
    (subst (λ held. All (IsAsked (Fits (sizes_replied messages)) (is_some m.state.sizes)) (asked_in held)) is
    (k.near near).replies) in
    let one = sizes_is question (only_sizes (Fits (sizes_replied messages)) question hand.asked asked waits) in
    subst (λ ids. All (Fits m.state.sizes) ids)
    (sym (ap (λ q. ids_answered (thread_of q) answer) one
    ∙ no_ids answer (answers.row ∙ ap (λ q. kind_of (wire (a_question q))) one))) tt

effect_fits : (P : Id → Type 0) {sizes : Option SizesRead} {effect : Effect} {replied : Replied}
    → IsReply sizes (an_effect effect) replied → All P (ids_replied no_thread replied)
effect_fits P (IsReply.with_error some tolerated) = tt
effect_fits P (IsReply.with_answer {answer} used serves answers good) =
    subst (λ ids. All P ids) (sym (effect_ids answer _ answers.row)) tt

-- the ids of a composite that is taken fit the sizes that were replied
taken_fits : {messages : List Message} (m : Machine) (composite : Composite)
    → IsKept (Fits (sizes_replied messages)) messages m → is_gone m.state.phase ≡ false
    → is_some m.state.sizes ≡ true → Takes m.state composite
    → All (Fits (sizes_replied messages)) (ids_of_composite composite)
taken_fits {messages} m composite k near known taken =
    all_weak (FitsId taken.used) (Fits (sizes_replied messages))
    (λ id h. subst (λ sizes. Fits sizes id) (k.sizes near)
    (fits_read m.state.sizes taken.used taken.serves known id h))
    (ids_of_composite composite) (composite_ids taken.used composite taken.fits)

-- what can be read is read with sizes
sized_to_read : (m : Machine) → can_read m ≡ true → is_some m.state.sizes ≡ true
sized_to_read m read = grind (arith, read)

spelled : IsIdTest (λ (messages : List Message). Fits (sizes_replied messages))
spelled = record {
  null = λ messages used serves. power used.class;
  grows = λ messages message id h. longer messages message id h;
  brings = brought;
}
  where
    longer : (messages : List Message) (message : Message) (id : Id) → Fits (sizes_replied messages) id
        → Fits (sizes_replied (messages ++ message ∷ [])) id
    longer messages message id h used serves = h used (first_grows (all_sizes messages) _ used
        (subst (λ all. SizesFor (first_sizes all) used) (sizes_more messages (Some message)) serves))

    given : (messages : List Message) (message : Message) (composite : Composite)
        → All (Fits (sizes_replied messages)) (ids_of_composite composite)
        → All (Fits (sizes_replied (messages ++ message ∷ []))) (ids_of_composite composite)
    given messages message composite h =
        all_weak (Fits (sizes_replied messages)) (Fits (sizes_replied (messages ++ message ∷ [])))
        (longer messages message) (ids_of_composite composite) h

    brought : (messages : List Message) (m next : Machine) (message : Message)
        → IsKept (Fits (sizes_replied messages)) messages m → Moves m (Some message) next
        → is_gone next.state.phase ≡ false → All (Fits (sizes_replied (messages ++ message ∷ []))) (ids_given message)
    brought messages m next message k (Moves.answers {question} {replied} is waits reply last) near =
        let known = ap is_gone (sym (same_replied (a_question question) replied m.state)) in
        let was : is_gone m.state.phase ≡ false = known ∙ near in
        all_weak (Fits m.state.sizes) (Fits (sizes_replied (messages ++ message ∷ [])))
        (λ id h. longer messages message id (subst (λ sizes. Fits sizes id) (k.sizes was) h))
        (ids_replied (thread_of question) replied)
        (answer_fits m question replied (is_some m.state.sizes) k was is waits reply refl)
    brought messages m next message k (Moves.replies is flying reply last) near = effect_fits _ reply
    brought messages m next message k (Moves.late before after is reply) near =
        absurd (not_empty before _ after (sym (k.none_late near) ∙ is))
    brought messages m next message k (Moves.loses late far why) near = let no : true ≡ false = near in cc
    brought messages m next message k (Moves.comes {composite = composite} read sized taken) near =
        given messages message composite (taken_fits m composite k near sized taken)
    brought messages m next message k (Moves.reads {composite = composite} before after read is none taken) near =
        given messages message composite (taken_fits m composite k near (sized_to_read m read) taken)
    brought messages m next message k _ near = tt

-- Commands that are due -----------------------------------------------------------------------------------------------

-- a full window lets no question go, and is nothing to the rest
due_first : (full : Bool) (m : Machine) (wants : List Want) (message : Message)
    → said (asked_first true m wants).act ≡ Some message → said (asked_first full m wants).act ≡ Some message
due_first full m wants message is = grind (arith, is)

due_next : (full : Bool) (m : Machine) (hand : Option Hand) (message : Message)
    → said (asked_next true m hand).act ≡ Some message → said (asked_next full m hand).act ≡ Some message
due_next full m None message is = cc
due_next full m (Some hand) message is = due_first full m hand.queue message is

due_load : (full : Bool) (m : Machine) (load : Load) (message : Message)
    → said (due_by true load m).act ≡ Some message → said (due_by full load m).act ≡ Some message
due_load full m queued message is = due_next full m m.hand message is
due_load full m _ message is = is

due_any : (id_pending : Bool) (m : Machine) (message : Message) → said (due id_pending m).act ≡ Some message
    → said (due false m).act ≡ Some message
unfolding due
due_any false m message is = is
due_any true m message is = due_load (is_full false m) m (load_of m) message is

-- The law -------------------------------------------------------------------------------------------------------------

may_spell : (messages : List Message) (m : Machine) (command : TargetCommand) → IsKept (Fits
    (sizes_replied messages)) messages m
    → is_gone m.state.phase ≡ false → MaySend (Fits (sizes_replied messages)) (is_some m.state.sizes) command
    → IsSpelled (sizes_replied messages) command
may_spell messages m command k near may = record {
  sized = subst (λ sizes. cond (is_empty (ids_asked (wire command))) true (is_some sizes) ≡ true)
      (k.sizes near) may.sized_first;
  fits = λ used serves. may.fits used (all_weak (Fits (sizes_replied messages)) (FitsId used) (λ id h. h used serves)
      (ids_asked (wire command)) may.ids);
}

pub are_spelled : (messages : List Message) (m : Machine) → Run messages m → AreSpelled messages m
are_spelled messages m r = record {
  once = let once = all.stands.kept.once in omega (arith, once);
  sent = all.sent;
  due = λ id_pending command is. is_due command (due_any id_pending m (Message.sends command) is);
}
  where
    all : Sends (λ (messages : List Message). Fits (sizes_replied messages)) (λ before command. IsSpelled
        (sizes_replied before) command)
        messages m
    all = all_sent {Good = λ before command. IsSpelled (sizes_replied before) command} spelled may_spell r

    is_due : (command : TargetCommand) → said (due false m).act ≡ Some (Message.sends command)
        → IsSpelled m.state.sizes command
    is_due command is =
        let may = sends_may command (spelled.null messages) all.stands.kept (moved (Allows.acts is)) in
        subst (λ sizes. IsSpelled sizes command) (sym (all.stands.kept.sizes may.0))
        (may_spell messages m command all.stands.kept may.0 may.1)
