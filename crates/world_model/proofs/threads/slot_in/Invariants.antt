use Rattle.std.proofs.Common.{◌≡◌, drop}
use Rattle.std.specs.Prelude.{option_map}
use Rattle.std.specs.Option.{option_or}
use Rattle.std.specs.Ordering.{int_eq}
use Rattle.slot_values.specs.declared.slot.SlotValue.{SlotValue}
use Rattle.world_model.specs.Scans.{last_of}
use Rattle.world_model.proofs.threads.slot_in.Given as goal

-- the last value of the slot is one among the rows that are left, or else the one found so far
abbrev pub invariant-loop-row : goal.invariant-loop-row
invariant-loop-row l =
    let is = λ (row : SlotValue). int_eq row.slot l.slot in
    let value = λ (row : SlotValue). row.value in
    option_or (option_map value (last_of is (drop l.row-index l.slots))) l.found ≡ option_map value (last_of is l.slots)
