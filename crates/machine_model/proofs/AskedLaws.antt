-- No question is asked twice for an item: what is lacking is new, and stands in the queue once.
use Rattle.std.proofs.Common.{◌≡◌, ℕ, suc, Bool, true, false, cond, not, ◌||◌, List, [], ◌∷◌, ◌++◌, Option, Some, None}
use Rattle.std.proofs.Common.{refl, ap, ◌∙◌, arith}
use Rattle.machine_model.specs.Apart.{are_apart, is_new, was_asked}
use Rattle.machine_model.specs.Due.{is_listed, with_want, with_wants}
use Rattle.machine_model.specs.Facts.{fact_known}
use Rattle.machine_model.specs.Keys.{same_question}
use Rattle.machine_model.specs.Names.{Answer, Question, Replied, Sent, Want}
use Rattle.machine_model.specs.Plans.{Found, Need, Plan, Sight, after, asks_for, beside, fact_heard, fails, found_at}
use Rattle.machine_model.specs.Plans.{found_from, gives, has, heard_of, lacking, lacks, may_hear, must_by, must_hear}
use Rattle.machine_model.specs.Plans.{need, pairs, question_of, tries, try_hear, wants}
use Rattle.machine_model.specs.Replying.{filled, is_waiting, waits_for}
use Rattle.machine_model.specs.State.{is_none}
use Rattle.machine_model.proofs.KeyLaws.{same_back}

-- What is due: it is new, or its question is pending ------------------------------------------------------------------

abbrev pub is_due : List Sent → Want → Bool
is_due asked want = is_waiting (question_of want) asked || is_new want asked

abbrev pub all_due : List Sent → List Want → Bool
all_due asked [] = true
all_due asked (want ∷ others) = cond (is_due asked want) (all_due asked others) false

pub due_joined : (asked : List Sent) (first rest : List Want) → all_due asked first ≡ true → all_due asked rest ≡ true
    → all_due asked (first ++ rest) ≡ true
due_joined asked [] rest h k = k
due_joined asked (want ∷ first) rest h k = by_test (is_due asked want) h
    (λ others. due_joined asked first rest others k)
  where
    by_test : (due : Bool) → cond due (all_due asked first) false ≡ true
        → (all_due asked first ≡ true → all_due asked (first ++ rest) ≡ true)
        → cond due (all_due asked (first ++ rest)) false ≡ true
    by_test true h rest = rest h
    by_test false h rest = cc

-- a question without an answer here wasn't asked, or is pending
unheard : (place : ℕ) (asked : List Sent) (question : Question) → found_from place asked question ≡ None
    → (is_waiting question asked || not (was_asked question asked)) ≡ true
unheard place [] question is = refl
unheard place (sent ∷ asked) question is = by_test (asks_for sent question) sent.reply is
    (λ none. unheard (suc place) asked question none)
  where
    by_test : (asks : Bool) (reply : Option Replied)
        → cond asks (found_at place reply) (found_from (suc place) asked question) ≡ None
        → (found_from (suc place) asked question ≡ None
        → (is_waiting question asked || not (was_asked question asked)) ≡ true)
        → ((cond (is_none reply) asks false || is_waiting question asked)
        || not (asks || was_asked question asked)) ≡ true
    by_test true None is rest = refl
    by_test true (Some replied) is rest = cc
    by_test false None is rest = rest is
    by_test false (Some replied) is rest = rest is

new_or : (waits new : Bool) → (waits || new) ≡ true → cond (waits || new) true false ≡ true
new_or waits new is = grind (arith, is)

-- what isn't heard yet is due
lacks_due : (sight : Sight) (want : Want) → all_due sight.asked (lacking (heard_of sight want)) ≡ true
lacks_due sight (Want.Must question) = by_found (found_from 0 sight.asked question) refl
  where
    by_reply : (place : ℕ) (replied : Replied) → all_due sight.asked (lacking (must_by place replied)) ≡ true
    by_reply place replied = grind arith

    by_found : (found : Option Found) → found_from 0 sight.asked question ≡ found
        → all_due sight.asked (lacking (must_hear question found)) ≡ true
    by_found None is = new_or (is_waiting question sight.asked) (not (was_asked question sight.asked))
        (unheard 0 sight.asked question is)
    by_found (Some found) is = by_reply found.place found.replied
lacks_due sight (Want.May question) = by_found (found_from 0 sight.asked question) refl
  where
    by_found : (found : Option Found) → found_from 0 sight.asked question ≡ found
        → all_due sight.asked (lacking (may_hear question found)) ≡ true
    by_found None is = new_or (is_waiting question sight.asked) (not (was_asked question sight.asked))
        (unheard 0 sight.asked question is)
    by_found (Some found) is = refl
lacks_due sight (Want.Fact question) =
    by_known (fact_known sight.classes question) (found_from 0 sight.asked question) refl
  where
    by_known : (known : Option (Option Answer)) (found : Option Found) → found_from 0 sight.asked question ≡ found
        → all_due sight.asked (lacking (fact_heard question known found)) ≡ true
    by_known None None is = new_or (is_waiting question sight.asked) (not (was_asked question sight.asked))
        (unheard 0 sight.asked question is)
    by_known _ _ is = refl

after_due : {A B : Type 0} (asked : List Sent) (n : Need A) (go : A → Need B) → all_due asked (lacking n) ≡ true
    → ((a : A) → all_due asked (lacking (go a)) ≡ true) → all_due asked (lacking (after n go)) ≡ true
after_due asked (has a) go h rest = rest a
after_due asked (fails fault) go h rest = refl
after_due asked (lacks want others) go h rest = h

beside_due : {A B : Type 0} (asked : List Sent) (n : Need A) (k : Need B) → all_due asked (lacking n) ≡ true
    → all_due asked (lacking k) ≡ true → all_due asked (lacking (beside n k)) ≡ true
beside_due asked (has a) (lacks want others) h k = k
beside_due asked (fails fault) (has b) h k = refl
beside_due asked (lacks want others) (has b) h k = h
beside_due asked (lacks want others) (lacks other more) h k = due_joined asked (want ∷ others) (other ∷ more) h k
beside_due asked _ _ h k = refl

tried_due : (asked : List Sent) (question : Question)
    → all_due asked (lacking (try_hear question (found_from 0 asked question))) ≡ true
tried_due asked question = by_found (found_from 0 asked question) refl
  where
    by_found : (found : Option Found) → found_from 0 asked question ≡ found
        → all_due asked (lacking (try_hear question found)) ≡ true
    by_found None is = new_or (is_waiting question asked) (not (was_asked question asked)) (unheard 0 asked question is)
    by_found (Some found) is = refl

-- what a plan lacks is due
pub need_due : {A : Type 0} (sight : Sight) (plan : Plan A) → all_due sight.asked (lacking (need sight plan)) ≡ true
unfolding need
need_due sight (gives a) = refl
need_due sight (wants want rest) =
    after_due sight.asked (heard_of sight want) (λ heard. need sight (rest heard)) (lacks_due sight want)
    (λ heard. need_due sight (rest heard))
need_due sight (tries question rest) =
    after_due sight.asked (try_hear question (found_from 0 sight.asked question)) (λ heard. need sight (rest heard))
    (tried_due sight.asked question) (λ heard. need_due sight (rest heard))
need_due sight (pairs p q rest) =
    after_due sight.asked (beside (need sight p) (need sight q)) (λ two. need sight (rest two))
    (beside_due sight.asked (need sight p) (need sight q) (need_due sight p) (need_due sight q))
    (λ two. need_due sight (rest two))

-- The queue -----------------------------------------------------------------------------------------------------------

apart_last : (asked : List Sent) (queue : List Want) (want : Want) → are_apart asked queue ≡ true
    → is_listed (question_of want) queue ≡ false → is_new want asked ≡ true → are_apart asked
    (queue ++ want ∷ []) ≡ true
apart_last asked [] want h once new = rw new refl
apart_last asked (first ∷ queue) want h once new =
    by_tests (is_new first asked) (is_listed (question_of first) queue) (are_apart asked queue)
    (same_question (question_of first) (question_of want)) (is_listed (question_of want) queue) h once
    (λ other differ. listed_last queue (question_of first) want other
    (same_back (question_of want) (question_of first) ∙ differ))
    (λ k l. apart_last asked queue want k l new)
  where
    listed_last : (queue : List Want) (question : Question) (want : Want) → is_listed question queue ≡ false
        → same_question (question_of want) question ≡ false → is_listed question (queue ++ want ∷ []) ≡ false
    listed_last [] question want is differ = rw differ refl
    listed_last (other ∷ queue) question want is differ =
        by_bools (same_question (question_of other) question) (is_listed question queue)
        (is_listed question (queue ++ want ∷ [])) is (λ none. listed_last queue question want none differ)
      where
        by_bools : (here rest more : Bool) → (here || rest) ≡ false → (rest ≡ false → more ≡ false)
            → (here || more) ≡ false
        by_bools here rest more is grows = grind (arith, is, grows)

    by_tests : (new_first listed rest same_one others : Bool) → cond new_first (cond listed false rest) false ≡ true
        → (same_one || others) ≡ false
        → (listed ≡ false → same_one ≡ false → is_listed (question_of first) (queue ++ want ∷ []) ≡ false)
        → (rest ≡ true → others ≡ false → are_apart asked (queue ++ want ∷ []) ≡ true)
        → cond new_first (cond (is_listed (question_of first) (queue ++ want ∷ [])) false
        (are_apart asked (queue ++ want ∷ []))) false ≡ true
    by_tests new_first listed rest same_one others h once fits differ = grind (arith, h, once, fits, differ)

apart_one : (asked : List Sent) (queue : List Want) (want : Want) → are_apart asked queue ≡ true
    → is_due asked want ≡ true → are_apart asked (with_want asked queue want) ≡ true
apart_one asked queue want h due = by_test (is_waiting (question_of want) asked) (is_listed
    (question_of want) queue) refl due
  where
    by_test : (waits listed : Bool) → is_listed (question_of want) queue ≡ listed → (waits || is_new want asked) ≡ true
        → are_apart asked (cond (waits || listed) queue (queue ++ want ∷ [])) ≡ true
    by_test false false is due = apart_last asked queue want h is due
    by_test _ _ is due = h

pub with_apart : (asked : List Sent) (queue more : List Want) → are_apart asked queue ≡ true → all_due asked more ≡ true
    → are_apart asked (with_wants asked queue more) ≡ true
with_apart asked queue [] h due = h
with_apart asked queue (want ∷ more) h due =
    by_test (is_due asked want) refl due (λ one others. with_apart asked (with_want asked queue want) more
    (apart_one asked queue want h one) others)
  where
    by_test : (one : Bool) → is_due asked want ≡ one → cond one (all_due asked more) false ≡ true
        → (is_due asked want ≡ true → all_due asked more ≡ true
        → are_apart asked (with_wants asked (with_want asked queue want) more) ≡ true)
        → are_apart asked (with_wants asked (with_want asked queue want) more) ≡ true
    by_test true is k rest = rest is k
    by_test false is k rest = cc

-- A question is asked -------------------------------------------------------------------------------------------------

or_last : (one last : Bool) → (one || (last || false)) ≡ (one || last)
or_last one last = grind arith

or_both : (one other last : Bool) → (one || (other || last)) ≡ ((one || other) || last)
or_both one other last = grind arith

pub was_more : (question : Question) (want : Want) (asked : List Sent)
    → was_asked question (asked ++ record { want = want; reply = None } ∷ [])
    ≡ (was_asked question asked || same_question (question_of want) question)
was_more question want [] = or_last false (same_question (question_of want) question)
was_more question want (sent ∷ asked) =
    ap (λ (b : Bool). asks_for sent question || b) (was_more question want asked)
    ∙ or_both (asks_for sent question) (was_asked question asked) (same_question (question_of want) question)

pub waits_more : (question : Question) (want : Want) (asked : List Sent)
    → is_waiting question (asked ++ record { want = want; reply = None } ∷ [])
    ≡ (is_waiting question asked || same_question (question_of want) question)
waits_more question want [] = or_last false (same_question (question_of want) question)
waits_more question want (sent ∷ asked) =
    ap (λ (b : Bool). waits_for sent question || b) (waits_more question want asked)
    ∙ or_both (waits_for sent question) (is_waiting question asked) (same_question (question_of want) question)

not_either : (one other : Bool) → not one ≡ true → other ≡ false → not (one || other) ≡ true
not_either one other is differ = grind (arith, is, differ)

new_more : (want other : Want) (asked : List Sent) → is_new other asked ≡ true
    → same_question (question_of want) (question_of other) ≡ false
    → is_new other (asked ++ record { want = want; reply = None } ∷ []) ≡ true
new_more want other asked new differ =
    rw (was_more (question_of other) want asked) (not_either (was_asked (question_of other) asked) _ new differ)

apart_behind : (want : Want) (asked : List Sent) (queue : List Want) → is_listed (question_of want) queue ≡ false
    → are_apart asked queue ≡ true → are_apart (asked ++ record { want = want; reply = None } ∷ []) queue ≡ true
apart_behind want asked [] once h = refl
apart_behind want asked (other ∷ queue) once h =
    by_tests (is_new other asked) (is_listed (question_of other) queue) (are_apart asked queue)
    (same_question (question_of other) (question_of want)) (is_listed (question_of want) queue) refl refl h once
    (λ new differ. new_more want other asked new (same_back (question_of want) (question_of other) ∙ differ))
    (λ k l. apart_behind want asked queue l k)
  where
    more : List Sent
    more = asked ++ record { want = want; reply = None } ∷ []

    by_tests : (new listed rest same_one others : Bool) → is_new other asked ≡ new
        → same_question (question_of other) (question_of want) ≡ same_one
        → cond new (cond listed false rest) false ≡ true → (same_one || others) ≡ false
        → (is_new other asked ≡ true → same_question (question_of other) (question_of want) ≡ false
        → is_new other (asked ++ record { want = want; reply = None } ∷ []) ≡ true)
        → (rest ≡ true → others ≡ false → are_apart (asked ++ record { want = want; reply = None } ∷ []) queue ≡ true)
        → cond (is_new other (asked ++ record { want = want; reply = None } ∷ [])) (cond listed false
        (are_apart (asked ++ record { want = want; reply = None } ∷ []) queue)) false ≡ true
    by_tests new listed rest same_one others was differs h once now fits = grind (arith, was, differs, h, once, now, fits)

pub apart_asked : (want : Want) (asked : List Sent) (queue : List Want) → are_apart asked (want ∷ queue) ≡ true
    → (is_new want asked ≡ true) × (are_apart (asked ++ record { want = want; reply = None } ∷ []) queue ≡ true)
apart_asked want asked queue h = by_tests (is_new want asked) (is_listed (question_of want) queue)
    (are_apart asked queue)
    refl h (λ once k. apart_behind want asked queue once k)
  where
    by_tests : (new listed rest : Bool) → is_listed (question_of want) queue ≡ listed
        → cond new (cond listed false rest) false ≡ true
        → (is_listed (question_of want) queue ≡ false → rest ≡ true
        → are_apart (asked ++ record { want = want; reply = None } ∷ []) queue ≡ true)
        → (new ≡ true) × (are_apart (asked ++ record { want = want; reply = None } ∷ []) queue ≡ true)
    by_tests true false true is h behind = (refl, behind is refl)
    by_tests new listed rest is h behind = cc

-- A reply comes -------------------------------------------------------------------------------------------------------

pub was_filled : (question other : Question) (replied : Replied) (asked : List Sent)
    → was_asked question (filled other replied asked) ≡ was_asked question asked
was_filled question other replied [] = refl
was_filled question other replied (sent ∷ asked) = by_test (waits_for sent other)
    (was_filled question other replied asked)
  where
    by_test : (waits : Bool) → was_asked question (filled other replied asked) ≡ was_asked question asked
        → was_asked question (cond waits (record sent { reply = Some replied } ∷ asked)
        (sent ∷ filled other replied asked))
        ≡ (asks_for sent question || was_asked question asked)
    by_test true k = refl
    by_test false k = ap (λ (b : Bool). asks_for sent question || b) k

new_filled : (want : Want) (other : Question) (replied : Replied) (asked : List Sent) → is_new want asked ≡ true
    → is_new want (filled other replied asked) ≡ true
new_filled want other replied asked new = rw (was_filled (question_of want) other replied asked) new

pub apart_filled : (question : Question) (replied : Replied) (asked : List Sent) (queue : List Want)
    → are_apart asked queue ≡ true → are_apart (filled question replied asked) queue ≡ true
apart_filled question replied asked [] h = refl
apart_filled question replied asked (want ∷ queue) h =
    by_tests (is_new want asked) (is_listed (question_of want) queue) (are_apart asked queue) refl h
    (λ new. new_filled want question replied asked new) (λ k. apart_filled question replied asked queue k)
  where
    by_tests : (new listed rest : Bool) → is_new want asked ≡ new → cond new (cond listed false rest) false ≡ true
        → (is_new want asked ≡ true → is_new want (filled question replied asked) ≡ true)
        → (rest ≡ true → are_apart (filled question replied asked) queue ≡ true)
        → cond (is_new want (filled question replied asked)) (cond listed false
        (are_apart (filled question replied asked) queue)) false ≡ true
    by_tests new listed rest was h now fits = grind (arith, was, h, now, fits)
