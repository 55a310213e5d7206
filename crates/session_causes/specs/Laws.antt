-- What holds of every ending, by the first cause. The laws stand here, each over words of a file of its own.
use Rattle.std.specs.Prelude.{ℕ, ◌≡◌, ◌∷◌, ◌⊎◌, List, []}
use Rattle.machine_model.specs.Runs.{Message}
use Rattle.session_causes.specs.Deciding.{NoCause, NonePassed}
use Rattle.session_causes.specs.Memory.{IsCutOff}
use Rattle.session_causes.specs.Outside.{HasEntry, IsLost, client_end}
use Rattle.session_model.specs.Causes.{Cause}
use Rattle.session_model.specs.Names.{Ending, Entry, Failed, Left, Limits, NoMemory, Side}
use Rattle.session_model.specs.Session.{Going, IsLeft}
use Rattle.session_model.specs.States.{SessionState}

-- A session that went on passed no cause.
abbrev pub FirstDecides : Type 0
FirstDecides = (limits : Limits) (log : List Entry) (messages : List Message) (turns : ℕ) (s : SessionState)
    (g : Going limits log messages turns s) → NonePassed g

-- At one place one cause alone stands.
abbrev pub OneDecides : Type 0
OneDecides = (limits : Limits) (log : List Entry) (messages : List Message) (turns : ℕ) (s : SessionState)
    (one other : Ending) → Going limits log messages turns s → Cause limits turns s one [] 0
    → Cause limits turns s other [] 0 → one ≡ other

-- What comes from the outside, or fails in a send, ends a session only where no other cause stands.
abbrev pub OutsideLast : Type 0
OutsideLast = (limits : Limits) (turns : ℕ) (s : SessionState) (ending : Ending) (entry : Entry)
    (entries : List Entry) (taken : ℕ) → Cause limits turns s ending (entry ∷ entries) taken
    → NoCause limits turns s

-- Where the end of the client's stream is in the log, the session was left, or memory ran out.
abbrev pub ShutIsLeft : Type 0
ShutIsLeft = (limits : Limits) (log : List Entry) (messages : List Message) (turns : ℕ) (ending : Ending)
    → IsLeft limits log messages turns ending → HasEntry client_end log → (ending ≡ Left) ⊎ (ending ≡ NoMemory)

-- Where the failure of a link is in the log, the session ended by it, or memory ran out; but for one in the last words.
abbrev pub FailedIsLost : Type 0
FailedIsLost = (limits : Limits) (log : List Entry) (messages : List Message) (turns : ℕ) (ending : Ending)
    (side : Side) → IsLeft limits log messages turns ending → HasEntry (Failed side) log
    → IsLost limits log messages turns side ending

-- An ending for memory cuts a session off.
abbrev pub ForMemory : Type 0
ForMemory = (limits : Limits) (log : List Entry) (messages : List Message) (turns : ℕ)
    → IsLeft limits log messages turns NoMemory → IsCutOff limits log messages turns
