-- What wires in memory are told to give: steps in order, and sends that fail.
use Rattle.std.specs.Prelude.{ℕ, ◌≡◌, ◌+◌, ◌==◌, ◌&&◌, Bool, true, false, if◌then◌else◌, List, [], ◌∷◌, take, drop}
use Rattle.std.specs.Prelude.{Option, option_map, find}
use Rattle.wire_core.specs.declared.outside.Side.{Side}
use Rattle.wire_core.specs.declared.outside.Side.TheVariants.{Client, Target}
use Rattle.wire_core.specs.declared.outside.Happening.{Happening}
use Rattle.wire_core.specs.declared.outside.Happening.TheVariants.{Bytes as came, Shut as ends, Failed as fails}
use Rattle.wire_core.specs.declared.outside.Happening.TheVariants.{Quiet as nothing}
use Rattle.wire_core.specs.declared.outside.Entry.{Entry}
use Rattle.wire_core.specs.declared.outside.Entry.TheVariants.{In, Shut as logs_end, Failed as logs_failure}
use Rattle.wire_core.specs.declared.outside.Entry.TheVariants.{Quiet as logs_quiet}
use Rattle.wire_core.specs.declared.script.Step.{Step}
use Rattle.wire_core.specs.declared.script.Step.TheVariants.{Bytes, Shut, Failed, Quiet}
use Rattle.wire_core.specs.declared.script.Cut.{Cut}
use Rattle.wire_core.specs.declared.script.Place.{Place}
use Rattle.wire_core.specs.declared.links.Links.{Links}
use Rattle.wire_core.specs.Links.{is_open_in, first_open}

-- a step without its first bytes
abbrev pub step_from : ℕ → Step → Step
step_from n (Bytes side bytes) = Bytes side (drop n bytes)
step_from n (Shut side) = Shut side
step_from n (Failed side) = Failed side
step_from n Quiet = Quiet

-- steps without the first bytes of the first
abbrev pub front_from : ℕ → List Step → List Step
front_from n [] = []
front_from n (step ∷ steps) = step_from n step ∷ steps

-- the steps from a place on
abbrev pub steps_from : Place → List Step → List Step
steps_from place steps = front_from place.byte (drop place.step steps)

-- whether a step gives something: no bytes give nothing, and so does a step of a closed side
abbrev pub gives : Links → Step → Bool
gives links (Bytes side []) = false
gives links (Bytes side (b ∷ bytes)) = is_open_in links side
gives links (Shut side) = is_open_in links side
gives links (Failed side) = is_open_in links side
gives links Quiet = true

-- passes over the steps that give nothing
abbrev pub due : Links → List Step → List Step
due links [] = []
due links (step ∷ steps) = if gives links step then step ∷ steps else due links steps

-- what a step gives to a buffer of this length
abbrev pub given_by : ℕ → Step → Entry
given_by room (Bytes side bytes) = In side (take room bytes)
given_by room (Shut side) = logs_end side
given_by room (Failed side) = logs_failure side
given_by room Quiet = logs_quiet

-- what comes next: what the first step gives; where the steps are used up, the end of the client, then of the target
abbrev pub comes : Links → ℕ → List Step → Entry
comes links room [] = logs_end (first_open links)
comes links room (step ∷ steps) = given_by room step

-- the steps that are left behind what came: of a step of bytes those that were not given yet
abbrev pub behind : Happening → List Step → List Step
behind (came side n) steps = front_from n steps
behind (ends side) steps = drop 1 steps
behind (fails side) steps = drop 1 steps
behind nothing steps = drop 1 steps

-- how many bytes came
abbrev pub taken : Happening → ℕ
taken (came side n) = n
taken (ends side) = 0
taken (fails side) = 0
taken nothing = 0

-- the place behind what came from the step at a place
abbrev pub IsBehind : Place → Happening → Place → Type 0
IsBehind old (came side n) new = (new.step ≡ old.step) × (new.byte ≡ old.byte + n)
IsBehind old (ends side) new = (new.step ≡ old.step + 1) × (new.byte ≡ 0)
IsBehind old (fails side) new = (new.step ≡ old.step + 1) × (new.byte ≡ 0)
IsBehind old nothing new = (new.step ≡ old.step + 1) × (new.byte ≡ 0)

-- the sides are the same
abbrev pub is_same : Side → Side → Bool
is_same Client Client = true
is_same Client Target = false
is_same Target Client = false
is_same Target Target = true

-- whether a cut names the call of this number to this side
abbrev pub names : Side → ℕ → Cut → Bool
names side call cut = is_same cut.side side && (cut.call == call)

-- how many bytes of a send to a side are kept, where it fails; the first cut that names it counts
abbrev pub kept_of : Side → ℕ → List Cut → Option ℕ
kept_of side call failing = option_map (λ cut. cut.kept) (find (names side call) failing)
