-- What the outside ends: which ending belongs to the end of the client's stream, and which to the failure of a link.
use Rattle.std.specs.Prelude.{◌≡◌, ◌∷◌, ◌++◌, ℕ, List}
use Rattle.machine_model.specs.Runs.{Message}
use Rattle.session_model.specs.Causes.{link_ending}
use Rattle.session_model.specs.Names.{Client, Ending, Entry, Failed, Limits, NoMemory, Shut, Side}
use Rattle.session_model.specs.Session.{Ended, EndedState}

-- the entry stands in the log
abbrev pub HasEntry : Entry → List Entry → Type 0
HasEntry entry log = (before : List Entry) × (after : List Entry) × (log ≡ before ++ entry ∷ after)

-- the end of the client's stream
abbrev pub client_end : Entry
client_end = Shut Client

-- A session with this log has ended so, and the failure of the side's link stands among its last words.
pub record FailsInWords (limits : Limits) (log : List Entry) (messages : List Message) (turns : ℕ) (side : Side)
    (ending : Ending) : Type 0 where
  pub e : EndedState
  pub ended : Ended limits log messages turns e
  pub is_it : e.ending ≡ ending
  pub among : HasEntry (Failed side) ended.by_words

-- The ending is that of the side's link, or memory ran out; but for a failure in the last words, which changes no
-- ending.
pub data IsLost (limits : Limits) (log : List Entry) (messages : List Message) (turns : ℕ) (side : Side)
    : Ending → Type 0 where
  by_link : IsLost limits log messages turns side (link_ending side)
  by_memory : IsLost limits log messages turns side NoMemory
  in_words : {ending : Ending} → FailsInWords limits log messages turns side ending
      → IsLost limits log messages turns side ending
