use Rattle.std.proofs.Common.{◌≡◌, ◌++◌, drop}
use Rattle.std.specs.Prelude.{option_map}
use Rattle.world_model.specs.Scans.{all_of}
use Rattle.world_model.specs.Threads.{slot_value}
use Rattle.world_model.proofs.threads.slot_values.Given as goal

-- the values of all slots are those found so far, and those of the slots that are left
abbrev pub invariant-loop-slot : goal.invariant-loop-slot
invariant-loop-slot l = all_of (slot_value l.slots) l.asked
    ≡ option_map (λ rest. l.values ++ rest) (all_of (slot_value l.slots) (drop l.slot-index l.asked))
