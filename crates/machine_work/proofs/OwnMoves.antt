-- The moves of the machine's own, and those by a message that comes.
use Rattle.std.proofs.Common.{◌≡◌, Bool, true, false, List, Option, Some, None, refl}
use Rattle.machine_work.specs.Names.{TargetCommand}
use Rattle.machine_model.specs.Runs.{Message}
use Rattle.machine_model.specs.State.{Machine}
use Rattle.machine_steps.proofs.Stepping.{Loses}

-- the machine's own message, and not one that comes
abbrev pub is_own_message : Message → Bool
is_own_message (Message.tells told) = true
is_own_message Message.greets = true
is_own_message (Message.sends command) = true
is_own_message _ = false

abbrev pub is_own : Option Message → Bool
is_own None = true
is_own (Some message) = is_own_message message

pub not_lost : (m : Machine) (message : Message) (late : List TargetCommand) → Loses m message late
    → is_own_message message ≡ false
not_lost m message late Loses.by_end = refl
not_lost m message late (Loses.by_question held waits reply last) = refl
not_lost m message late (Loses.by_effect held flying reply last) = refl
