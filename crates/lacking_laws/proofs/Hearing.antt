-- A reply takes back nothing that was heard, and no question does.
use Rattle.std.proofs.Common.{◌≡◌, ℕ, suc, Bool, true, false, cond, List, [], ◌∷◌, ◌++◌, Option, None, Some, refl}
use Rattle.machine_model.specs.Names.{Question, Replied}
use Rattle.machine_model.specs.Plans.{Found, asks_for, found_at, found_from}
use Rattle.machine_model.specs.Replying.{filled, waits_for}
use Rattle.machine_model.specs.State.{Hand, State, is_none}
use Rattle.machine_model.specs.declared.acts.Sent.{Sent}
use Rattle.lacking_laws.specs.Lacking.{LeadOn}

-- what was found among these is found among those
abbrev FindsOn : ℕ → List Sent → List Sent → Question → Type 0
FindsOn place asked now question = (found : Found) → found_from place asked question ≡ Some found
    → found_from place now question ≡ Some found

-- one more is asked
asks_more : (question : Question) (place : ℕ) (asked : List Sent) (sent : Sent)
    → FindsOn place asked (asked ++ sent ∷ []) question
asks_more question place [] sent = λ found is. cc
asks_more question place (first ∷ asked) sent =
    by (asks_for first question) (asks_more question (suc place) asked sent)
  where
    by : (asks : Bool) → FindsOn (suc place) asked (asked ++ sent ∷ []) question → (found : Found)
        → cond asks (found_at place first.reply) (found_from (suc place) asked question) ≡ Some found
        → cond asks (found_at place first.reply) (found_from (suc place) (asked ++ sent ∷ []) question) ≡ Some found
    by true on = λ found is. is
    by false on = on

-- one reply is put in: what has one already stays
fills : (question : Question) (other : Question) (replied : Replied) (place : ℕ) (asked : List Sent)
    → FindsOn place asked (filled other replied asked) question
fills question other replied place [] = λ found is. is
fills question other replied place (first ∷ asked) =
    by_test (waits_for first other) (none_there first.reply) (fills question other replied (suc place) asked)
  where
    none_there : (reply : Option Replied) → cond (is_none reply) (asks_for first other) false ≡ true → reply ≡ None
    none_there None waits = refl
    none_there (Some some) waits = cc

    not_found : (reply : Option Replied) {found : Found} → reply ≡ None → found_at place reply ≡ Some found → ⊥
    not_found None none is = cc
    not_found (Some some) none is = cc

    later : (asks : Bool) → FindsOn (suc place) asked (filled other replied asked) question → (found : Found)
        → cond asks (found_at place first.reply) (found_from (suc place) asked question) ≡ Some found
        → cond asks (found_at place first.reply) (found_from (suc place) (filled other replied asked) question)
        ≡ Some found
    later true on = λ found is. is
    later false on = on

    first_one : (asks : Bool) → first.reply ≡ None → (found : Found)
        → cond asks (found_at place first.reply) (found_from (suc place) asked question) ≡ Some found
        → cond asks (found_at place (Some replied)) (found_from (suc place) asked question) ≡ Some found
    first_one true none = λ found is. absurd (not_found first.reply none is)
    first_one false none = λ found is. is

    by_test : (waits : Bool) → (waits ≡ true → first.reply ≡ None)
        → FindsOn (suc place) asked (filled other replied asked) question
        → FindsOn place (first ∷ asked)
        (cond waits (record first { reply = Some replied } ∷ asked) (first ∷ filled other replied asked)) question
    by_test true none on = first_one (asks_for first question) (none refl)
    by_test false none on = later (asks_for first question) on

pub leads_on : (state : State) (hand : Hand) → LeadOn state hand
leads_on state hand = record {
  answers = λ question replied. record {
    replies = λ other found is. fills other question replied 0 hand.asked found is;
    facts = λ other heard is. is;
    learns = λ other found heard none is knows. absurd (no_fact none knows);
  };
  asks = λ want. record {
    replies = λ other found is. asks_more other 0 hand.asked (record { want = want; reply = None }) found is;
    facts = λ other heard is. is;
    learns = λ other found heard none is knows. absurd (no_fact none knows);
  };
}
  where
    no_fact : {A : Type 0} {known : Option A} {heard : A} → known ≡ None → known ≡ Some heard → ⊥
    no_fact none knows = cc
