-- What ties a talk to the machine: the machine does what the talk about the item in hand has next.
use Rattle.std.specs.Prelude.{◌≡◌, Bool, true, false, None, Some}
use Rattle.machine_model.specs.Due.{can_read, due, due_as, is_full, next_item, pick}
use Rattle.machine_model.specs.State.{Hand, Machine, is_gone}
use Rattle.machine_model.specs.declared.acts.Act.{Act}
use Rattle.talk_plans.specs.Talking.{talk_due}

-- With an item in hand, and no composite to be read, what the talk about the item has next is due.
abbrev pub TalkIsDue : Type 0
TalkIsDue = (id_pending : Bool) (m : Machine) (hand : Hand) → m.hand ≡ Some hand → can_read m ≡ false
    → due id_pending m ≡ talk_due (is_full id_pending m) m m.state hand

-- With no item in hand, and no composite to be read, the first item that isn't raw is begun, where one waits; in a
-- target that is gone the first one.
abbrev pub ItemIsDue : Type 0
ItemIsDue = (id_pending : Bool) (m : Machine) → m.hand ≡ None → can_read m ≡ false
    → due id_pending m ≡ next_item m (pick (is_gone m.state.phase) m.waiting)

-- While a composite can be read, nothing else is due.
abbrev pub ReadingIsDue : Type 0
ReadingIsDue = (id_pending : Bool) (m : Machine) → can_read m ≡ true → due id_pending m ≡ due_as Act.Waits m
