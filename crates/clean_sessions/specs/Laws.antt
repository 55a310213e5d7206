-- What holds of sessions in which nothing goes wrong. The laws stand here, each over words of files of their own.
use Rattle.std.specs.Prelude.{ℕ, ◌≡◌, ◌⊎◌, List}
use Rattle.clean_sessions.specs.Endings.{EndsWell, IsWhy}
use Rattle.clean_sessions.specs.Premises.{IsClean}
use Rattle.machine_model.specs.Runs.{Message}
use Rattle.run_outcomes.specs.Lines.{status_of_ending}
use Rattle.session_model.specs.Names.{Ending, Entry, Limits}
use Rattle.session_model.specs.Session.{IsLeft}

-- this holds of every session that is left
abbrev pub OnceLeft : (Limits → List Entry → List Message → Ending → Type 0) → Type 0
OnceLeft holds = (limits : Limits) (log : List Entry) (messages : List Message) (turns : ℕ) (ending : Ending)
    → IsLeft limits log messages turns ending → holds limits log messages ending

-- Each ending breaks what is asked of the side, the link or the limit that it names, and it alone.
abbrev pub EachHasItsPremise : Type 0
EachHasItsPremise = OnceLeft IsWhy

-- Where nothing goes wrong, a session is done, or memory ran out.
abbrev pub CleanIsDone : Type 0
CleanIsDone = OnceLeft (λ limits log messages ending. IsClean limits log messages → EndsWell messages ending)

-- Then the program's status is that of one or the other.
abbrev pub CleanStatus : Type 0
CleanStatus = OnceLeft (λ limits log messages ending. IsClean limits log messages
    → (status_of_ending ending ≡ 0) ⊎ (status_of_ending ending ≡ 70))
