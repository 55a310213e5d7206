-- What is to be asked: each question once, and none that was asked.
use Rattle.std.proofs.Common.{◌≡◌, Bool, true, false, cond, not, ◌||◌, List, [], ◌∷◌, ◌++◌, map, None, refl, sym, ap}
use Rattle.std.proofs.Common.{subst, arith}
use Rattle.std.specs.List.{list_any}
use Rattle.jdwp_commands.specs.declared.question.Question.{Question}
use Rattle.machine_model.specs.Apart.{are_apart, is_new, was_asked}
use Rattle.machine_model.specs.Due.{is_listed, with_want, with_wants}
use Rattle.machine_model.specs.Keys.{same_question}
use Rattle.machine_model.specs.Plans.{question_of}
use Rattle.machine_model.specs.Replying.{is_waiting}
use Rattle.machine_model.specs.declared.acts.Sent.{Sent}
use Rattle.machine_model.specs.declared.acts.Want.{Want}
use Rattle.machine_model.proofs.AskedLaws.{all_due, apart_asked, with_apart}
use Rattle.machine_model.proofs.KeyLaws.{same_back}
use Rattle.look_ups.specs.Asking.{want_of}
use Rattle.talk_look_ups.specs.Asking.{reason_of}

-- a question is to be asked where its key was seen
pub listed_is : (queue : List Want) (question : Question)
    → list_any (same_question question) (map question_of queue) ≡ is_listed question queue
listed_is [] question = refl
listed_is (want ∷ queue) question =
    by_test (same_question question (question_of want)) (same_question (question_of want) question)
    (same_back question (question_of want)) (listed_is queue question)
  where
    by_test : (one other : Bool) → one ≡ other
        → list_any (same_question question) (map question_of queue) ≡ is_listed question queue
        → (one || list_any (same_question question) (map question_of queue)) ≡ (other || is_listed question queue)
    by_test one other is rest = grind (arith, is, rest)

pub with_new : (asked : List Sent) (queue : List Want) (want : Want) (question : Question)
    → question ≡ question_of want
    → not (is_waiting question asked || list_any (same_question question) (map question_of queue)) ≡ true
    → with_want asked queue want ≡ queue ++ want ∷ []
with_new asked queue want question is new =
    by_test (is_waiting (question_of want) asked) (is_listed (question_of want) queue)
    (subst (λ q. not (is_waiting q asked || list_any (same_question q) (map question_of queue)) ≡ true) is new)
    (listed_is queue (question_of want))
  where
    by_test : (waits listed : Bool)
        → not (waits || list_any (same_question (question_of want)) (map question_of queue)) ≡ true
        → list_any (same_question (question_of want)) (map question_of queue) ≡ listed
        → cond (waits || listed) queue (queue ++ want ∷ []) ≡ queue ++ want ∷ []
    by_test false false new same = refl
    by_test true listed new same = cc
    by_test false true new same = absurd (grind (arith, new, same))

pub with_old : (asked : List Sent) (queue : List Want) (want : Want) (question : Question)
    → question ≡ question_of want
    → not (is_waiting question asked || list_any (same_question question) (map question_of queue)) ≡ false
    → with_want asked queue want ≡ queue
with_old asked queue want question is old =
    by_test (is_waiting (question_of want) asked) (is_listed (question_of want) queue)
    (subst (λ q. not (is_waiting q asked || list_any (same_question q) (map question_of queue)) ≡ false) is old)
    (listed_is queue (question_of want))
  where
    by_test : (waits listed : Bool)
        → not (waits || list_any (same_question (question_of want)) (map question_of queue)) ≡ false
        → list_any (same_question (question_of want)) (map question_of queue) ≡ listed
        → cond (waits || listed) queue (queue ++ want ∷ []) ≡ queue
    by_test true listed old same = refl
    by_test false true old same = refl
    by_test false false old same = absurd (grind (arith, old, same))

-- the keys that were seen are those of the queue
pub seen_new : (queue : List Want) (want : Want)
    → map question_of (queue ++ want ∷ []) ≡ map question_of queue ++ question_of want ∷ []
seen_new [] want = refl
seen_new (first ∷ queue) want = ap (λ rest. question_of first ∷ rest) (seen_new queue want)

same_want : (want : Want) → want_of (reason_of want) (question_of want) ≡ want
same_want (Want.Must question) = refl
same_want (Want.May question) = refl
same_want (Want.Fact question) = refl

-- the first of the queue wasn't asked
pub first_new : (want : Want) (asked : List Sent) (queue rest : List Want) → are_apart asked queue ≡ true
    → queue ≡ want ∷ rest → was_asked (question_of want) asked ≡ false
first_new want asked queue rest apart is =
    by_test (was_asked (question_of want) asked)
    (apart_asked want asked rest (subst (λ q. are_apart asked q ≡ true) is apart)).0
  where
    by_test : (was : Bool) → not was ≡ true → was ≡ false
    by_test true new = cc
    by_test false new = refl

pub apart_next : (want : Want) (asked : List Sent) (queue rest : List Want) → are_apart asked queue ≡ true
    → queue ≡ want ∷ rest
    → are_apart (asked ++ record { want = want_of (reason_of want) (question_of want); reply = None } ∷ []) rest ≡ true
apart_next want asked queue rest apart is =
    subst (λ w. are_apart (asked ++ record { want = w; reply = None } ∷ []) rest ≡ true) (sym (same_want want))
    (apart_asked want asked rest (subst (λ q. are_apart asked q ≡ true) is apart)).1

pub apart_rest : (want : Want) (asked : List Sent) (queue rest : List Want) → are_apart asked queue ≡ true
    → queue ≡ want ∷ rest → are_apart asked rest ≡ true
apart_rest want asked queue rest apart is =
    by_test (is_new want asked) (is_listed (question_of want) rest)
    (subst (λ q. are_apart asked q ≡ true) is apart)
  where
    by_test : (new listed : Bool) → cond new (cond listed false (are_apart asked rest)) false ≡ true
        → are_apart asked rest ≡ true
    by_test true false h = h
    by_test true true h = cc
    by_test false listed h = cc

pub queue_apart : (asked : List Sent) (wants : List Want) → all_due asked wants ≡ true
    → are_apart asked (with_wants asked [] wants) ≡ true
queue_apart asked wants due = with_apart asked [] wants refl due
