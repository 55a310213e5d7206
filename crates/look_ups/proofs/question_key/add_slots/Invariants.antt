use Rattle.std.proofs.Common.{◌≡◌, ◌++◌, take, flat_map}
use Rattle.machine_model.specs.Keys.{slot_key}
use Rattle.look_ups.proofs.question_key.add_slots.Given as goal

abbrev pub invariant-loop-slot : goal.invariant-loop-slot
invariant-loop-slot l = l.key ≡ l.initial.key ++ flat_map slot_key (take l.slot-index l.slots)
