-- What a talk lacks is due, since the sizes of ids are known once they were asked for and replied to.
use Rattle.std.proofs.Common.{◌≡◌, Bool, true, false, cond, not, ◌||◌, List, [], ◌∷◌, refl, sym}
use Rattle.std.proofs.Common.{subst}
use Rattle.std.proofs.Common.{arith}
use Rattle.jdwp_commands.specs.declared.asked.Replied.{Replied}
use Rattle.jdwp_commands.specs.declared.question.Question.{Question}
use Rattle.jdwp_commands.specs.declared.question.Question.TheVariants as questions
use Rattle.machine_model.specs.Apart.{was_asked}
use Rattle.machine_model.specs.Due.{lacked_by}
use Rattle.machine_model.specs.Keys.{same_question}
use Rattle.machine_model.specs.Replying.{filled, hand_replied, is_waiting, told_by}
use Rattle.machine_model.specs.State.{Hand, State, is_gone, is_some}
use Rattle.machine_model.specs.declared.acts.Sent.{Sent}
use Rattle.machine_model.specs.declared.acts.TargetCommand.TheVariants.{Question as a_question}
use Rattle.machine_model.specs.declared.acts.Want.{Want}
use Rattle.machine_model.proofs.AskedLaws.{all_due, was_filled}
use Rattle.machine_model.proofs.DueWants.{asked_kept, lacked_due, waits_other}
use Rattle.machine_model.proofs.KeyLaws.{is_one}
use Rattle.talk_look_ups.specs.Asking.{with_first}
use Rattle.talk_plans.specs.Talking.{AreSized, SaysSizes, StaysSized, sizes_kept}

-- what the part in front lacks wasn't replied to
pub talk_due : (state : State) (hand : Hand) → AreSized state hand → is_gone state.phase ≡ false
    → all_due hand.asked (lacked_by state hand hand.parts) ≡ true
talk_due state hand sized near =
    lacked_due state hand hand.parts
    (subst (λ (gone : Bool). cond gone true (sizes_kept state.sizes hand.asked) ≡ true) near sized)

pub stays_sized : (state : State) (hand : Hand) (later : State) (left : Hand) → AreSized state hand
    → StaysSized state hand later left → AreSized later left
stays_sized state hand later left sized stays = by_gone (is_gone later.phase) refl
  where
    by_gone : (gone : Bool) → is_gone later.phase ≡ gone
        → cond gone true (sizes_kept later.sizes left.asked) ≡ true
    by_gone true is = refl
    by_gone false is = rw (stays.sizes, stays.asked)
        (subst (λ (gone : Bool). cond gone true (sizes_kept state.sizes hand.asked) ≡ true) (stays.near is) sized)

-- the first of what is to be asked is asked
pub first_sized : (state : State) (hand : Hand) (asked : List Sent) → AreSized state hand
    → asked ≡ with_first hand.queue hand.asked → AreSized state (record hand { asked = asked })
first_sized state hand asked sized is = rw is (by_gone (is_gone state.phase) hand.queue sized)
  where
    by_gone : (gone : Bool) (queue : List Want) → cond gone true (sizes_kept state.sizes hand.asked) ≡ true
        → cond gone true (sizes_kept state.sizes (with_first queue hand.asked)) ≡ true
    by_gone true queue h = refl
    by_gone false [] h = h
    by_gone false (want ∷ wants) h = asked_kept state.sizes hand.asked want h

same_phase : (question : Question) (replied : Replied) (state : State)
    → (told_by question replied state).phase ≡ state.phase
same_phase question replied state = grind arith

other_sizes : (question : Question) (replied : Replied) (state : State)
    → same_question question questions.IdSizes ≡ false → (told_by question replied state).sizes ≡ state.sizes
other_sizes question replied state other = grind (arith, other)

pub answered_sized : (state : State) (hand : Hand) (question : Question) (replied : Replied) → AreSized state hand
    → SaysSizes question replied
    → AreSized (told_by question replied state) (hand_replied (a_question question) replied hand)
answered_sized state hand question replied sized says =
    rw (same_phase question replied state) (by_gone (is_gone state.phase) sized)
  where
    by_bools : (known waits was waits_now : Bool) → (known || (waits || not was)) ≡ true
        → (waits ≡ true → waits_now ≡ true) → (known || (waits_now || not was)) ≡ true
    by_bools known waits was waits_now h stays = grind (arith, h, stays)

    by_same : (same_one : Bool) → same_question question questions.IdSizes ≡ same_one
        → sizes_kept state.sizes hand.asked ≡ true
        → sizes_kept (told_by question replied state).sizes (filled question replied hand.asked) ≡ true
    by_same true is h =
        let one : question ≡ questions.IdSizes = is_one question questions.IdSizes is in
        let now : is_some (told_by question replied state).sizes ≡ true =
        subst (λ (q : Question). is_some (told_by q replied state).sizes ≡ true) (sym one) (says is) in
        rw now refl
    by_same false is h =
        rw (was_filled questions.IdSizes question replied hand.asked, other_sizes question replied state is)
        (by_bools (is_some state.sizes) (is_waiting questions.IdSizes hand.asked)
        (was_asked questions.IdSizes hand.asked)
        (is_waiting questions.IdSizes (filled question replied hand.asked)) h
        (waits_other questions.IdSizes question replied hand.asked is))

    by_gone : (gone : Bool) → cond gone true (sizes_kept state.sizes hand.asked) ≡ true
        → cond gone true (sizes_kept (told_by question replied state).sizes (filled question replied hand.asked)) ≡ true
    by_gone true h = refl
    by_gone false h = by_same (same_question question questions.IdSizes) refl h
