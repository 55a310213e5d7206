-- How the window of pending commands stands by the machine.
use Rattle.std.specs.Prelude.{ℕ, ◌≡◌, List, map}
use Rattle.bridge_core.specs.Names.{Asked}
use Rattle.machine_model.specs.Replying.{pending_of, wire}
use Rattle.machine_model.specs.State.{Machine}

-- the commands of a window, without their ids
abbrev pub commands_of : List (ℕ × Asked) → List Asked
commands_of sent = map (λ (s : ℕ × Asked). s.1) sent

-- the window's commands are those that are pending in the machine, in the same order
abbrev pub Aligned : List (ℕ × Asked) → Machine → Type 0
Aligned sent m = commands_of sent ≡ map wire (pending_of m)
