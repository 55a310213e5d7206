-- Where the machine waits for its target, each question that the part in front lacks was asked.
use Rattle.std.specs.Prelude.{◌≡◌, ◌∷◌, ◌||◌, Bool, true, false, cond, List, [], Some}
use Rattle.machine_model.specs.Due.{can_read, due, is_full, lacked_by}
use Rattle.machine_model.specs.Names.{Act, Sent, Want}
use Rattle.machine_model.specs.Plans.{question_of}
use Rattle.machine_model.specs.Replying.{is_waiting}
use Rattle.machine_model.specs.Runs.{Message, Run}
use Rattle.machine_model.specs.State.{Hand, Machine, has_waiting, is_empty, is_flying, is_gone}

-- each of these questions was sent and has no reply
abbrev pub are_asked : List Sent → List Want → Bool
are_asked asked [] = true
are_asked asked (want ∷ wants) = cond (is_waiting (question_of want) asked) (are_asked asked wants) false

-- The machine waits with this item in hand. Its target isn't gone, no composite is to be read, and no effect is in
-- flight.
pub record WaitsWith (id_pending : Bool) (m : Machine) (hand : Hand) : Type 0 where
  pub waits : (due id_pending m).act ≡ Act.Waits
  pub near : is_gone m.state.phase ≡ false
  pub read : can_read m ≡ false
  pub in_hand : m.hand ≡ Some hand
  pub still : is_flying hand.effect ≡ false

-- Something is to be asked, and the window is full or the next id is pending; or all that the part in front lacks was
-- asked, and nothing more is to be.
pub data IsAsked (id_pending : Bool) (m : Machine) (hand : Hand) : Type 0 where
  full : (want : Want) (wants : List Want) → hand.queue ≡ want ∷ wants → is_full id_pending m ≡ true
      → IsAsked id_pending m hand
  all_asked : hand.queue ≡ [] → are_asked hand.asked (lacked_by m.state hand hand.parts) ≡ true
      → IsAsked id_pending m hand

-- And where the part in front lacks anything, a reply is awaited, or the next id is pending: it is never stuck.
pub record IsWait (id_pending : Bool) (m : Machine) (hand : Hand) : Type 0 where
  pub asked : IsAsked id_pending m hand
  pub awaited : is_empty (lacked_by m.state hand hand.parts) ≡ false
      → (has_waiting hand.asked || id_pending) ≡ true

abbrev pub Waits : Type 0
Waits = (messages : List Message) (m : Machine) (id_pending : Bool) (hand : Hand) → Run messages m
    → WaitsWith id_pending m hand → IsWait id_pending m hand
