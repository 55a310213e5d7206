-- What an item lacks is due: a question for it is new, or awaits its reply. The sizes of ids are known once they were
-- asked for and replied to.
use Rattle.std.proofs.Common.{◌≡◌, Bool, true, false, cond, not, ◌||◌, List, [], ◌∷◌, ◌++◌, Option, Some, None, refl}
use Rattle.std.proofs.Common.{sym, ap, ◌∙◌, arith}
use Rattle.jdwp_commands.specs.declared.question.Question.TheVariants as questions
use Rattle.machine_model.specs.Apart.{was_asked}
use Rattle.machine_model.specs.Due.{asked_by, lacked_by, sized_by, way}
use Rattle.machine_model.specs.Keys.{same_question}
use Rattle.machine_model.specs.Lookups.{plan, sight_of}
use Rattle.machine_model.specs.Names.{Guard, Handshake, IdSizes, Part, Question, Replied, Sent, Want}
use Rattle.machine_model.specs.Plans.{asks_for, question_of}
use Rattle.machine_model.specs.Replying.{filled, is_waiting}
use Rattle.machine_model.specs.State.{Hand, SizesRead, State, is_none, is_some}
use Rattle.machine_model.proofs.AskedLaws.{all_due, need_due, was_more, waits_more}
use Rattle.machine_model.proofs.KeyLaws.{is_one}

-- the sizes of ids are known once they were asked and answered
abbrev pub sizes_kept : Option SizesRead → List Sent → Bool
sizes_kept sizes asked =
    is_some sizes || (is_waiting questions.IdSizes asked || not (was_asked questions.IdSizes asked))

-- what is lacking is due
way_due : (guard : Guard) (state : State) (asked : List Sent) → sizes_kept state.sizes asked ≡ true
    → all_due asked (asked_by (way guard state)) ≡ true
way_due Handshake state asked h = grind arith
way_due IdSizes state asked h = by_sizes state.sizes h
  where
    by_sizes : (sizes : Option SizesRead) → sizes_kept sizes asked ≡ true
        → all_due asked (asked_by (sized_by sizes)) ≡ true
    by_sizes sizes h = grind (arith, h)

pub lacked_due : (state : State) (hand : Hand) (parts : List Part) → sizes_kept state.sizes hand.asked ≡ true
    → all_due hand.asked (lacked_by state hand parts) ≡ true
lacked_due state hand (Part.Looks lookup ∷ rest) h = need_due (sight_of state hand) (plan lookup state)
lacked_due state hand (Part.Awaits guard ∷ rest) h = way_due guard state hand.asked h
lacked_due state hand _ h = refl

-- a question is asked
pub asked_kept : (sizes : Option SizesRead) (asked : List Sent) (want : Want) → sizes_kept sizes asked ≡ true
    → sizes_kept sizes (asked ++ record { want = want; reply = None } ∷ []) ≡ true
asked_kept sizes asked want h =
    rw (was_more questions.IdSizes want asked, waits_more questions.IdSizes want asked)
    (by_bools (is_some sizes) (is_waiting questions.IdSizes asked) (was_asked questions.IdSizes asked)
    (same_question (question_of want) questions.IdSizes) h)
  where
    by_bools : (known waits was one : Bool) → (known || (waits || not was)) ≡ true
        → (known || ((waits || one) || not (was || one))) ≡ true
    by_bools known waits was one h = grind (arith, h)

-- the reply to another question leaves this one pending
pub waits_other : (question other : Question) (replied : Replied) (asked : List Sent)
    → same_question other question ≡ false → is_waiting question asked ≡ true → is_waiting question (filled other replied asked) ≡ true
waits_other question other replied [] differ is = cc
waits_other question other replied (sent ∷ asked) differ is =
    by_tests (is_none sent.reply) (asks_for sent other) (asks_for sent question)
    (is_waiting question asked) refl refl refl
    is (λ there. one_only there) (λ later. waits_other question other replied asked differ later)
  where
    one_only : asks_for sent other ≡ true → asks_for sent question ≡ false
    one_only there =
        ap (λ (q : Question). same_question q question) (is_one (question_of sent.want) other there) ∙ differ

    by_tests : (none there here rest : Bool) → is_none sent.reply ≡ none → asks_for sent question ≡ here
        → is_waiting question asked ≡ rest → (cond none here false || rest) ≡ true
        → (there ≡ true → asks_for sent question ≡ false)
        → (rest ≡ true → is_waiting question (filled other replied asked) ≡ true)
        → is_waiting question (cond (cond none there false) (record sent { reply = Some replied } ∷ asked)
        (sent ∷ filled other replied asked)) ≡ true
    by_tests true true true rest was is later h only k = let no : true ≡ false = sym is ∙ only refl in cc
    by_tests true true false true was is later h only k = later
    by_tests true true false false was is later h only k = cc
    by_tests true false true rest was is later h only k = rw (was, is) refl
    by_tests true false false rest was is later h only k = rw (was, is) (k h)
    by_tests false there here rest was is later h only k = rw was (k h)
