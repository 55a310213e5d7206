use Rattle.std.proofs.Common.{◌≡◌, ◌++◌, drop}
use Rattle.std.specs.Prelude.{filter, not}
use Rattle.slot_values.specs.declared.slot.SlotValue.{SlotValue}
use Rattle.world_model.specs.Moving.{is_named}
use Rattle.world_model.proofs.moving.slots_left.Given as goal

-- the slots that are left of all are those found so far, and those of the rest
abbrev pub invariant-loop-row : goal.invariant-loop-row
invariant-loop-row l =
    let stays = λ (row : SlotValue). not (is_named l.slots row) in
    l.list ++ filter stays (drop l.row-index l.held) ≡ filter stays l.held
