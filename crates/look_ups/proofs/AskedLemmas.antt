-- The map of what was asked, as the list that the machine has.
use Rattle.std.proofs.Common.{◌≡◌, ℕ, suc, ◌+◌, Bool, true, false, cond, not, ◌||◌, List, [], ◌∷◌, ◌++◌, map, length}
use Rattle.std.proofs.Common.{position, nat_lt, Option, Some, None, refl, sym, ap, subst, ◌∙◌, arith}
use Rattle.std.specs.List.{AllByRecursion, IsDistinct, list_any, position_or_len}
use Rattle.std.specs.Map.{keys_of, lookup, values_of}
use Rattle.indexmap.specs.IndexMap.{insert_entry}
use Rattle.indexmap.proofs.MapLemmas.{absent_from_lookup, insert_entry-absent}
use Rattle.jdwp_commands.specs.declared.question.Question.{Question}
use Rattle.machine_model.specs.Apart.{was_asked}
use Rattle.machine_model.specs.Keys.{same_question}
use Rattle.jdwp_commands.specs.declared.asked.Replied.{Replied}
use Rattle.machine_model.specs.declared.acts.Sent.{Sent}
use Rattle.machine_model.specs.declared.acts.Want.{Want}
use Rattle.machine_model.specs.Plans.{Found, asks_for, found_at, found_from, question_of}
use Rattle.machine_model.specs.Replying.{fails_by, filled, is_failed, is_waiting, waits_for}
use Rattle.machine_model.specs.State.{has_waiting, is_none, is_some}
use Rattle.machine_model.proofs.KeyLaws.{is_one, same_back}
use Rattle.look_ups.specs.Asking.{reply_in, sent_of, waiting_in, want_of}
use Rattle.look_ups.specs.declared.asked.Reason.{Reason}
use Rattle.look_ups.specs.declared.asked.Reason.TheVariants as reasons
use Rattle.look_ups.specs.declared.asked.Tried.{Tried}

abbrev Entries : Type 0
Entries = List (Question × Tried)

pub same_want : (reason : Reason) (question : Question) → question_of (want_of reason question) ≡ question
same_want reasons.Must question = refl
same_want reasons.May question = refl
same_want reasons.Fact question = refl

-- an entry asks this
asks_is : (entry : Question × Tried) (question : Question)
    → asks_for (sent_of entry) question ≡ same_question question entry.0
asks_is entry question =
    ap (λ (q : Question). same_question q question) (same_want entry.1.reason entry.0)
    ∙ same_back entry.0 question

-- a reply that is found, at its place
abbrev pub found_by : ℕ → Option Tried → Option Found
found_by place None = None
found_by place (Some tried) = found_at place tried.reply

-- what the map finds is what the list has
found_is : (place : ℕ) (entries : Entries) (question : Question)
    → found_from place (map sent_of entries) question
    ≡ found_by (place + position_or_len (same_question question) (keys_of entries))
    (lookup (same_question question) entries)
found_is place [] question = refl
found_is place (entry ∷ entries) question =
    by_test (same_question question entry.0) (asks_for (sent_of entry) question) (asks_is entry question)
    (found_is (suc place) entries question)
  where
    rest : ℕ
    rest = position_or_len (same_question question) (keys_of entries)

    by_test : (one other : Bool) → other ≡ one
        → found_from (suc place) (map sent_of entries) question
        ≡ found_by (suc place + rest) (lookup (same_question question) entries)
        → cond other (found_at place entry.1.reply) (found_from (suc place) (map sent_of entries) question)
        ≡ found_by (place + cond (not one) (1 + rest) 0) (cond one (Some entry.1) (lookup (same_question question)
        entries))
    by_test true true is again = ap (λ n. found_at n entry.1.reply) (omega arith)
    by_test false false is again =
        again ∙ ap (λ n. found_by n (lookup (same_question question) entries)) (omega arith)
    by_test true false is again = cc
    by_test false true is again = cc

pub found_there : (entries : Entries) (question : Question) (place : ℕ) (tried : Tried)
    → position (same_question question) (keys_of entries) ≡ Some place
    → lookup (same_question question) entries ≡ Some tried
    → found_from 0 (map sent_of entries) question ≡ found_at place tried.reply
found_there entries question place tried at is =
    found_is 0 entries question ∙ by_test (nat_lt there (length (keys_of entries))) at
    ∙ ap (found_by place) is
  where
    there : ℕ
    there = position_or_len (same_question question) (keys_of entries)

    by_test : (lower : Bool) → cond lower (Some there) None ≡ Some place
        → found_by (0 + there) (lookup (same_question question) entries)
        ≡ found_by place (lookup (same_question question) entries)
    by_test true at = let one : there ≡ place = cc in
        ap (λ n. found_by n (lookup (same_question question) entries)) (omega (arith, one))
    by_test false at = cc

pub found_none : (entries : Entries) (question : Question) → lookup (same_question question) entries ≡ None
    → found_from 0 (map sent_of entries) question ≡ None
found_none entries question is =
    found_is 0 entries question
    ∙ ap (found_by (0 + position_or_len (same_question question) (keys_of entries))) is

-- the reply that is found is that of the question's entry
reply_at : (place : ℕ) (reply : Option Replied) → reply_in (found_at place reply) ≡ reply
reply_at place None = refl
reply_at place (Some replied) = refl

pub replied_there : (entries : Entries) (question : Question) (tried : Tried)
    → lookup (same_question question) entries ≡ Some tried
    → reply_in (found_from 0 (map sent_of entries) question) ≡ tried.reply
replied_there entries question tried is =
    ap reply_in (found_is 0 entries question ∙ ap (found_by there) is) ∙ reply_at there tried.reply
  where
    there : ℕ
    there = 0 + position_or_len (same_question question) (keys_of entries)

pub replied_none : (entries : Entries) (question : Question) → lookup (same_question question) entries ≡ None
    → reply_in (found_from 0 (map sent_of entries) question) ≡ None
replied_none entries question is = ap reply_in (found_none entries question is)

-- an entry that asks this is its entry
pub replied_here : (entries : Entries) (question key : Question) (tried : Tried)
    → same_question question key ≡ true → lookup (same_question key) entries ≡ Some tried
    → reply_in (found_from 0 (map sent_of entries) question) ≡ tried.reply
replied_here entries question key tried same is =
    replied_there entries question tried
    (subst (λ q. lookup (same_question q) entries ≡ Some tried) (sym (is_one question key same)) is)

-- a question that isn't in the list isn't in the map
pub not_asked : (entries : Entries) (question : Question) → was_asked question (map sent_of entries) ≡ false
    → lookup (same_question question) entries ≡ None
not_asked [] question is = refl
not_asked (entry ∷ entries) question is =
    by_test (same_question question entry.0) (asks_for (sent_of entry) question) (asks_is entry question) is
    (not_asked entries question)
  where
    by_test : (one other : Bool) → other ≡ one → (other || was_asked question (map sent_of entries)) ≡ false
        → (was_asked question (map sent_of entries) ≡ false → lookup (same_question question) entries ≡ None)
        → cond one (Some entry.1) (lookup (same_question question) entries) ≡ None
    by_test true true is none again = cc
    by_test false false is none again = again none
    by_test true false is none again = cc
    by_test false true is none again = cc

pub map_joined : {A B : Type 0} (f : A → B) (xs : List A) (y : A) → map f (xs ++ y ∷ []) ≡ map f xs ++ f y ∷ []
map_joined f [] y = refl
map_joined f (x ∷ xs) y = ap (λ rest. f x ∷ rest) (map_joined f xs y)

-- a question that is new stands behind the others
pub added : (entries : Entries) (question : Question) (tried : Tried)
    → was_asked question (map sent_of entries) ≡ false
    → map sent_of (insert_entry same_question entries question tried)
    ≡ map sent_of entries ++ sent_of (question, tried) ∷ []
added entries question tried new =
    ap (map sent_of) (insert_entry-absent same_question question tried entries
    (absent_from_lookup (same_question question) entries (not_asked entries question new)))
    ∙ map_joined sent_of entries (question, tried)

-- What waits ----------------------------------------------------------------------------------------------------------

abbrev Apart : Question → Entries → Type 0
Apart question entries = AllByRecursion (λ other. same_question question other ≡ false) (keys_of entries)

-- why a question waits that is tried so
abbrev waiting_by : Question → Option Tried → Option Want
waiting_by question None = None
waiting_by question (Some tried) = cond (is_none tried.reply) (Some (want_of tried.reason question)) None

none_waits : (entries : Entries) (question : Question) → Apart question entries
    → waiting_in question (map sent_of entries) ≡ None
none_waits [] question apart = refl
none_waits (entry ∷ entries) question apart =
    by_test (is_none entry.1.reply) (asks_for (sent_of entry) question) (asks_is entry question ∙ apart.0)
    (none_waits entries question apart.1)
  where
    by_test : (none asks : Bool) → asks ≡ false → waiting_in question (map sent_of entries) ≡ None
        → cond (cond none asks false) (Some (want_of entry.1.reason entry.0))
        (waiting_in question (map sent_of entries)) ≡ None
    by_test true false is rest = rest
    by_test false asks is rest = rest
    by_test true true is rest = cc

-- whether a question waits is seen at its entry
waiting_is : (entries : Entries) (question : Question) → IsDistinct same_question (keys_of entries)
    → waiting_in question (map sent_of entries) ≡ waiting_by question (lookup (same_question question) entries)
unfolding IsDistinct
waiting_is [] question once = refl
waiting_is (entry ∷ entries) question once =
    by_test (same_question question entry.0) refl (is_none entry.1.reply) refl (asks_for (sent_of entry) question)
    (asks_is entry question) (waiting_is entries question once.1)
  where
    by_test : (one : Bool) → same_question question entry.0 ≡ one → (none : Bool) → is_none entry.1.reply ≡ none
        → (asks : Bool) → asks ≡ one
        → waiting_in question (map sent_of entries) ≡ waiting_by question (lookup (same_question question) entries)
        → cond (cond none asks false) (Some (want_of entry.1.reason entry.0))
        (waiting_in question (map sent_of entries))
        ≡ waiting_by question (cond one (Some entry.1) (lookup (same_question question) entries))
    by_test true same true is true asks_one rest =
        rw is (ap (λ q. Some (want_of entry.1.reason q)) (sym (is_one question entry.0 same)))
    by_test true same false is true asks_one rest =
        rw is
        (none_waits entries question (subst (λ q. Apart q entries) (sym (is_one question entry.0 same)) once.0))
    by_test false same true is false asks_one rest = rest
    by_test false same false is false asks_one rest = rest
    by_test true same none is false asks_one rest = cc
    by_test false same none is true asks_one rest = cc

pub waiting_none : (entries : Entries) (question : Question) → IsDistinct same_question (keys_of entries)
    → lookup (same_question question) entries ≡ None → waiting_in question (map sent_of entries) ≡ None
waiting_none entries question once is = waiting_is entries question once ∙ ap (waiting_by question) is

pub waiting_there : (entries : Entries) (question : Question) (tried : Tried)
    → IsDistinct same_question (keys_of entries) → lookup (same_question question) entries ≡ Some tried
    → waiting_in question (map sent_of entries)
    ≡ cond (is_none tried.reply) (Some (want_of tried.reason question)) None
waiting_there entries question tried once is = waiting_is entries question once ∙ ap (waiting_by question) is

pub waits_is : (question : Question) (asked : List Sent) → is_waiting question asked
    ≡ is_some (waiting_in question asked)
waits_is question [] = refl
waits_is question (sent ∷ asked) = by_test (waits_for sent question) (waits_is question asked)
  where
    by_test : (waits : Bool) → is_waiting question asked ≡ is_some (waiting_in question asked)
        → (waits || is_waiting question asked) ≡ is_some (cond waits (Some sent.want) (waiting_in question asked))
    by_test true rest = refl
    by_test false rest = rest

-- a reply fails what waits for it
abbrev pub fails_in : Replied → Option Want → Bool
fails_in replied None = false
fails_in replied (Some want) = fails_by want replied

pub fails_is : (question : Question) (replied : Replied) (asked : List Sent)
    → is_failed question replied asked ≡ fails_in replied (waiting_in question asked)
fails_is question replied [] = refl
fails_is question replied (sent ∷ asked) = by_test (waits_for sent question) (fails_is question replied asked)
  where
    by_test : (waits : Bool) → is_failed question replied asked ≡ fails_in replied (waiting_in question asked)
        → cond waits (fails_by sent.want replied) (is_failed question replied asked)
        ≡ fails_in replied (cond waits (Some sent.want) (waiting_in question asked))
    by_test true rest = refl
    by_test false rest = rest

pub filled_none : (question : Question) (replied : Replied) (asked : List Sent)
    → waiting_in question asked ≡ None → filled question replied asked ≡ asked
filled_none question replied [] is = refl
filled_none question replied (sent ∷ asked) is =
    by_test (waits_for sent question) is (filled_none question replied asked)
  where
    by_test : (waits : Bool) → cond waits (Some sent.want) (waiting_in question asked) ≡ None
        → (waiting_in question asked ≡ None → filled question replied asked ≡ asked)
        → cond waits (record sent { reply = Some replied } ∷ asked) (sent ∷ filled question replied asked)
        ≡ sent ∷ asked
    by_test true is rest = cc
    by_test false is rest = ap (λ others. sent ∷ others) (rest is)

pub filled_there : (entries : Entries) (question : Question) (replied : Replied) (reason : Reason)
    → IsDistinct same_question (keys_of entries)
    → waiting_in question (map sent_of entries) ≡ Some (want_of reason question)
    → filled question replied (map sent_of entries)
    ≡ map sent_of (insert_entry same_question entries question (record { reason = reason; reply = Some replied }))
unfolding IsDistinct
filled_there [] question replied reason once is = cc
filled_there (entry ∷ entries) question replied reason once is =
    by_test (same_question question entry.0) refl (is_none entry.1.reply) (asks_for (sent_of entry) question)
    (asks_is entry question) is (filled_there entries question replied reason once.1)
  where
    now : Tried
    now = record { reason = reason; reply = Some replied }

    there : Sent
    there = record { want = want_of entry.1.reason entry.0; reply = Some replied }

    by_test : (one : Bool) → same_question question entry.0 ≡ one → (none asks : Bool) → asks ≡ one
        → cond (cond none asks false) (Some (want_of entry.1.reason entry.0))
        (waiting_in question (map sent_of entries)) ≡ Some (want_of reason question)
        → (waiting_in question (map sent_of entries) ≡ Some (want_of reason question)
        → filled question replied (map sent_of entries)
        ≡ map sent_of (insert_entry same_question entries question now))
        → cond (cond none asks false) (there ∷ map sent_of entries)
        (sent_of entry ∷ filled question replied (map sent_of entries))
        ≡ map sent_of (cond one ((entry.0, now) ∷ entries)
        (entry ∷ insert_entry same_question entries question now))
    by_test true same true true asks_one is rest =
        let here : want_of entry.1.reason entry.0 ≡ want_of reason question = cc in
        ap (λ (want : Want). record { want = want; reply = Some replied } ∷ map sent_of entries)
        (here ∙ ap (want_of reason) (is_one question entry.0 same))
    by_test true same false true asks_one is rest =
        let none = none_waits entries question
        (subst (λ q. Apart q entries) (sym (is_one question entry.0 same)) once.0) in cc
    by_test false same true false asks_one is rest = ap (λ others. sent_of entry ∷ others) (rest is)
    by_test false same false false asks_one is rest = ap (λ others. sent_of entry ∷ others) (rest is)
    by_test true same none false asks_one is rest = cc
    by_test false same none true asks_one is rest = cc

-- Whether anything waits ----------------------------------------------------------------------------------------------

abbrev pub any_left : List Tried → Bool
any_left tried = list_any (λ (one : Tried). is_none one.reply) tried

pub any_waits : (entries : Entries) → has_waiting (map sent_of entries) ≡ any_left (values_of entries)
any_waits [] = refl
any_waits (entry ∷ entries) = ap (λ (b : Bool). is_none entry.1.reply || b) (any_waits entries)
