-- The turns of a session, and its last words.
use Rattle.std.specs.Prelude.{ℕ, ◌≡◌, ◌≤◌, ◌<◌, ◌+◌, ◌∷◌, ◌++◌, Bool, true, false, List, [], count_by, length, take}
use Rattle.session_model.specs.Names.{Entry, Failed, In, Limits, Out, Quiet, Shut}
use Rattle.session_model.specs.LastWords.{LastWord, last_words, word_bytes, word_side}
use Rattle.session_model.specs.Session.{EndedState}
use Rattle.wire_core.specs.Outside.{broken_send}

-- what a wait for the outside can give: bytes, an end, a failure, or nothing
abbrev pub comes : Entry → Bool
comes (In side bytes) = true
comes (Out side bytes) = false
comes (Shut side) = true
comes (Failed side) = true
comes Quiet = true

-- Each turn is an entry of the log that was waited for, and there are no more than may be.
pub record AreTurns (limits : Limits) (log : List Entry) (turns : ℕ) : Type 0 where
  pub are_waited : count_by comes log ≡ turns
  pub within : turns ≤ limits.turns

-- Once a session has ended, a send that failed may leave one more, which looks so: at most two do, one of the machine's
-- and one of a last word.
pub record AreTurnsThen (limits : Limits) (log : List Entry) (turns : ℕ) : Type 0 where
  pub broken : ℕ
  pub are_waited : count_by comes log ≡ turns + broken
  pub few_broken : broken ≤ 2
  pub within : turns ≤ limits.turns

-- The last words that were said and those that are left are the ending's; but none is left once the send of the next
-- one failed, with which the log ends.
pub data SaysLast (log : List Entry) (e : EndedState) : Type 0 where
  all_said : e.said ++ e.left ≡ last_words e.ending e.last.machine → SaysLast log e
  cut_short : {kept : ℕ} (before : List Entry) (word : LastWord) (unsaid : List LastWord)
      → e.said ++ word ∷ unsaid ≡ last_words e.ending e.last.machine → e.left ≡ []
      → kept < length (word_bytes e.streams word)
      → log ≡ before ++ broken_send (word_side word) (take kept (word_bytes e.streams word)) → SaysLast log e
