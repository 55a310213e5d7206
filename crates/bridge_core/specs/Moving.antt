-- The machine's moves, in the words of the code that makes them.
use Rattle.bridge_core.specs.Calls.{AreRead}
use Rattle.std.specs.Prelude.{ℕ, ◌≡◌, Bool, Option, None, Some}
use Rattle.machine_model.specs.State.{Hand, Machine, State}
use Rattle.machine_model.specs.declared.acts.Effect.{Effect}
use Rattle.session_model.specs.Faults.{IsKeptFault}
use Rattle.session_endings.specs.declared.ending.Ending.{Ending}
use Rattle.session_endings.specs.declared.ending.Ending.TheVariants.{BadTarget, NoMemory}
use Rattle.session_endings.specs.declared.ending.TargetFault.{TargetFault}
use Rattle.talk_plans.specs.Talking.{step_of, talk_due}
use Rattle.talk_plans.specs.declared.next.Next.{Next}

-- with this item in hand
abbrev pub with_hand : Machine → Hand → Machine
with_hand m hand = record m { hand = Some hand }

-- this effect of this item in hand is in flight
pub record IsFlight (m : Machine) (hand : Hand) (effect : Effect) : Type 0 where
  pub held : m.hand ≡ Some hand
  pub flying : hand.effect ≡ Some (record { effect = effect; reply = None })

-- of the composites that were kept some are read, and then one ends the session
pub data RefusesKept (m next : Machine) : Ending → Type 0 where
  no_memory : RefusesKept m next NoMemory
  faulty : {fault : TargetFault} {offset : ℕ} → AreRead m next → IsKeptFault next fault offset
      → RefusesKept m next (BadTarget fault offset 0)

-- what a talk has next in any machine, and the talk behind it
pub record StepsTo (next : Next) (full : Bool) (state : State) (talk : Hand) (now : State) (held : Option Hand) : Type 0
  where
    pub later : Hand
    pub held_is : held ≡ Some later
    pub is_due : (m : Machine) → step_of m next now later ≡ talk_due full m state talk
