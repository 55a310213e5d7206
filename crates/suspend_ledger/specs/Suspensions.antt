-- The suspensions of the whole target that a session holds: the target counts how often it was suspended, and runs once
-- it was resumed as often (JDWP, VirtualMachine command set, Suspend and Resume).
use Rattle.std.specs.Prelude.{ℕ, ◌+◌, ◌-◌, ◌<◌, Bool, true, false, List, [], ◌∷◌}
use Rattle.jdwp_events.specs.declared.kind.Policy.{Policy}
use Rattle.jdwp_events.specs.declared.kind.Policy.TheVariants.{NoThread, EventThread, All}

-- how often a composite suspends the whole target (JDWP, Constants, SuspendPolicy)
abbrev pub suspensions_by : Policy → ℕ
suspensions_by NoThread = 0
suspensions_by EventThread = 0
suspensions_by All = 1

-- what a session enters: a composite came under a policy, the target accepted a Suspend, or a Resume was sent
pub data Happening : Type 0 where
  composite : Policy → Happening
  suspended : Happening
  resumed : Happening

-- how many are held behind a happening, where so many were in front of it
abbrev pub with_happening : Happening → ℕ → ℕ
with_happening (composite policy) held = held + suspensions_by policy
with_happening suspended held = held + 1
with_happening resumed held = held - 1

-- how many are held behind all that happened, the latest first
abbrev pub after : List Happening → ℕ
after [] = 0
after (latest ∷ earlier) = with_happening latest (after earlier)

-- each Resume was sent while something was held
abbrev pub AllHeld : List Happening → Type 0
AllHeld [] = Unit {0}
AllHeld (composite policy ∷ earlier) = AllHeld earlier
AllHeld (suspended ∷ earlier) = AllHeld earlier
AllHeld (resumed ∷ earlier) = (0 < after earlier) × AllHeld earlier

-- whether the whole target was suspended: by a composite under `All`, or by a Suspend
abbrev pub suspends : Happening → Bool
suspends (composite NoThread) = false
suspends (composite EventThread) = false
suspends (composite All) = true
suspends suspended = true
suspends resumed = false

-- whether a Resume was sent
abbrev pub resumes : Happening → Bool
resumes (composite policy) = false
resumes suspended = false
resumes resumed = true
