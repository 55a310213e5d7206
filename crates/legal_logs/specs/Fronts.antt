-- What a legal log is, and how far one goes that isn't.
use Rattle.std.specs.Prelude.{ℕ, ◌≡◌, List, [], Option, None, Some}
use Rattle.legal_logs.specs.Endings.{HasPart, HasWordPart, ReadOut}
use Rattle.legal_logs.specs.Readings.{Reading}
use Rattle.machine_model.specs.Runs.{Message}
use Rattle.run_outcomes.specs.Lines.{status_of_ending}
use Rattle.session_model.specs.Names.{Entry, Limits, NoMemory, Side}
use Rattle.session_model.specs.Session.{EndedState}
use Rattle.session_model.specs.States.{SessionState}

-- Some reading goes through these entries: it goes on, or has ended. Behind it may stand a part of a message that may
-- go out, or of the next of the last words.
pub data IsFront (limits : Limits) (log : List Entry) : Type 0 where
  goes_on : {messages : List Message} {turns : ℕ} {s : SessionState} → Reading limits log messages turns s
      → IsFront limits log
  with_part : {messages : List Message} {turns : ℕ} {s : SessionState} {side : Side}
      → HasPart limits log messages turns s side → IsFront limits log
  ended : {messages : List Message} {turns : ℕ} {e : EndedState} → ReadOut limits log messages turns e
      → IsFront limits log
  with_word_part : {e : EndedState} → HasWordPart limits log e → IsFront limits log

-- The log is legal under these limits, with this status of its ending, where it tells one: without one, and where
-- memory ran out, it is legal as far as it goes; else its session has ended by a cause of that status, and no last word
-- is left.
pub data IsLegal (limits : Limits) (log : List Entry) : Option ℕ → Type 0 where
  so_far : IsFront limits log → IsLegal limits log None
  no_memory : IsFront limits log → IsLegal limits log (Some (status_of_ending NoMemory))
  to_the_end : {messages : List Message} {turns : ℕ} {e : EndedState} → ReadOut limits log messages turns e
      → e.left ≡ [] → IsLegal limits log (Some (status_of_ending e.ending))
