-- Where memory ran out.
use Rattle.std.specs.Prelude.{ℕ, ◌≡◌, List}
use Rattle.machine_model.specs.Runs.{Message}
use Rattle.session_laws.specs.Sending.{IsSent, IsSentInAll}
use Rattle.session_model.specs.Names.{Entry, Limits, NoMemory, Side}
use Rattle.session_model.specs.Session.{Ended, EndedState, Going}
use Rattle.session_model.specs.States.{SessionState}

-- An ending for memory cuts a session off. Its log is that of a session that goes on, and each side was sent its
-- messages and nothing else; or of one that has ended for another cause, and each side was sent its messages, and then
-- some of the last words to it.
pub data IsCutOff (limits : Limits) (log : List Entry) (messages : List Message) (turns : ℕ) : Type 0 where
  going : {s : SessionState} → Going limits log messages turns s → ((side : Side) → IsSent side log messages s)
      → IsCutOff limits log messages turns
  ended : {e : EndedState} → Ended limits log messages turns e → ¬ (e.ending ≡ NoMemory)
      → ((side : Side) → IsSentInAll side log messages e) → IsCutOff limits log messages turns
