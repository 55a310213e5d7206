-- Each question is sent once for an item.
use Rattle.std.proofs.Common.{◌≡◌, ℕ, suc, Bool, true, false, cond, ◌||◌, List, [], ◌∷◌, ◌++◌, Option, Some, None, refl}
use Rattle.std.proofs.Common.{sym, ap, subst, ◌∙◌, arith, not}
use Rattle.std.specs.List.{AllByRecursion as All}
use Rattle.machine_model.specs.Apart.{are_apart, is_new, was_asked}
use Rattle.machine_model.specs.Due.{is_listed}
use Rattle.machine_model.specs.Keys.{same_question}
use Rattle.machine_model.specs.Plans.{Found, asks_for, found_at, found_from, question_of}
use Rattle.machine_model.specs.Replying.{filled, is_waiting, waits_for}
use Rattle.machine_model.specs.State.{is_none}
use Rattle.machine_model.proofs.AskedLaws.{was_filled, was_more}
use Rattle.machine_model.proofs.KeyLaws.{is_one, is_same, same_back}
use Rattle.machine_model.proofs.Bools.{both_hold}
use Rattle.machine_steps.specs.Names.{Question, Replied, Sent, Want}

abbrev pub are_once : List Sent → Bool
are_once [] = true
are_once (sent ∷ asked) = cond (was_asked (question_of sent.want) asked) false (are_once asked)

pub once_asked : (want : Want) (asked : List Sent) → was_asked (question_of want) asked ≡ false → are_once asked ≡ true
    → are_once (asked ++ record { want = want; reply = None } ∷ []) ≡ true
once_asked want [] new once = refl
once_asked want (sent ∷ asked) new once =
    rw (was_more (question_of sent.want) want asked)
    (by_tests (was_asked (question_of sent.want) asked) (same_question (question_of want) (question_of sent.want))
    (same_question (question_of sent.want) (question_of want)) (was_asked (question_of want) asked) (are_once asked)
    (are_once (asked ++ record { want = want; reply = None } ∷ [])) new once
    (same_back (question_of want) (question_of sent.want)) (once_asked want asked))
  where
    by_tests : (was other back later once now : Bool) → (back || later) ≡ false → cond was false once ≡ true
        → other ≡ back → (later ≡ false → once ≡ true → now ≡ true) → cond (was || other) false now ≡ true
    by_tests was other back later once now new is same rest = grind (arith, new, is, same, rest)

pub once_filled : (question : Question) (replied : Replied) (asked : List Sent)
    → are_once (filled question replied asked) ≡ are_once asked
once_filled question replied [] = refl
once_filled question replied (sent ∷ asked) = by_test (waits_for sent question) (once_filled question replied asked)
  where
    by_test : (waits : Bool) → are_once (filled question replied asked) ≡ are_once asked
        → are_once (cond waits (record sent { reply = Some replied } ∷ asked) (sent ∷ filled question replied asked))
        ≡ cond (was_asked (question_of sent.want) asked) false (are_once asked)
    by_test true once = refl
    by_test false once =
        ap (λ (was : Bool). cond was false (are_once (filled question replied asked)))
        (was_filled (question_of sent.want) question replied asked)
        ∙ ap (λ (rest : Bool). cond (was_asked (question_of sent.want) asked) false rest) once

-- what waits was sent
pub waits_was : (question : Question) (asked : List Sent) → is_waiting question asked ≡ true
    → was_asked question asked ≡ true
waits_was question [] waits = cc
waits_was question (sent ∷ asked) waits =
    by_tests (is_none sent.reply) (asks_for sent question) (is_waiting question asked) (was_asked question asked) waits
    (waits_was question asked)
  where
    by_tests : (none asks waits was : Bool) → (cond none asks false || waits) ≡ true → (waits ≡ true → was ≡ true)
        → (asks || was) ≡ true
    by_tests none asks waits was is rest = grind (arith, is, rest)

-- and has no reply
pub waits_unheard : (place : ℕ) (question : Question) (asked : List Sent) → are_once asked ≡ true
    → is_waiting question asked ≡ true → found_from place asked question ≡ None
waits_unheard place question [] once waits = cc
waits_unheard place question (sent ∷ asked) once waits =
    by_asks (asks_for sent question) refl sent.reply waits
    (λ once waits. waits_unheard (suc place) question asked once waits)
  where
    both : (was_asked (question_of sent.want) asked ≡ false) × (are_once asked ≡ true)
    both = grind (arith, once)

    not_again : asks_for sent question ≡ true → is_waiting question asked ≡ true → ⊥
    not_again is waits =
        let same : question_of sent.want ≡ question = is_one (question_of sent.want) question is in
        let no : true ≡ false = sym (waits_was question asked waits)
        ∙ subst (λ (q : Question). was_asked q asked ≡ false) same both.0 in cc

    by_asks : (asks : Bool) → asks_for sent question ≡ asks → (reply : Option Replied)
        → (cond (is_none reply) asks false || is_waiting question asked) ≡ true
        → (are_once asked ≡ true → is_waiting question asked ≡ true → found_from (suc place) asked question ≡ None)
        → cond asks (found_at place reply) (found_from (suc place) asked question) ≡ None
    by_asks true is None waits rest = refl
    by_asks true is (Some replied) waits rest = absurd (not_again is waits)
    by_asks false is None waits rest = rest both.1 waits
    by_asks false is (Some replied) waits rest = rest both.1 waits

-- what wasn't sent has no reply
pub new_unheard : (place : ℕ) (question : Question) (asked : List Sent) → was_asked question asked ≡ false
    → found_from place asked question ≡ None
new_unheard place question [] new = refl
new_unheard place question (sent ∷ asked) new =
    by_asks (asks_for sent question) new (λ new. new_unheard (suc place) question asked new)
  where
    by_asks : (asks : Bool) → (asks || was_asked question asked) ≡ false
        → (was_asked question asked ≡ false → found_from (suc place) asked question ≡ None)
        → cond asks (found_at place sent.reply) (found_from (suc place) asked question) ≡ None
    by_asks true new rest = cc
    by_asks false new rest = rest new

-- what is to be asked wasn't sent
pub all_new : (asked : List Sent) (queue : List Want) → are_apart asked queue ≡ true
    → All (λ want. was_asked (question_of want) asked ≡ false) queue
all_new asked [] apart = tt
all_new asked (want ∷ queue) apart =
    let both : (was_asked (question_of want) asked ≡ false) × (are_apart asked queue ≡ true) =
    by_tests (was_asked (question_of want) asked) (is_listed (question_of want) queue) (are_apart asked queue) apart in
    (both.0, all_new asked queue both.1)
  where
    by_tests : (was listed rest : Bool) → cond (not was) (cond listed false rest) false ≡ true
        → (was ≡ false) × (rest ≡ true)
    by_tests false false true is = (refl, refl)
    by_tests _ _ _ is = cc
