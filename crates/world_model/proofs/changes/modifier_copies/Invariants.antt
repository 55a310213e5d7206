use Rattle.std.proofs.Common.{◌≡◌, take}
use Rattle.world_model.proofs.changes.modifier_copies.Given as goal

-- the modifiers so far are copied
abbrev pub invariant-loop-modifier : goal.invariant-loop-modifier
invariant-loop-modifier l = l.copies ≡ take l.modifier-index l.modifiers
