use Rattle.std.proofs.Common.{◌≡◌, true, take}
use Rattle.std.specs.List.{AllByRecursion}
use Rattle.wish_sets.specs.Counts.{HaveRoom}
use Rattle.wish_sets.specs.Forming.{has_its_slot, IsWider}
use Rattle.wish_sets.proofs.forming.add_slots.Given as goal

-- slots were added, and the wishes so far have theirs, and room in them
abbrev pub invariant-loop-wish : goal.invariant-loop-wish
invariant-loop-wish l = record {
  wider : IsWider l.fn.slots.items l.slots.items;
  slotted : AllByRecursion (λ wish. has_its_slot l.slots.items wish ≡ true) (take l.wish-index l.those);
  room : HaveRoom l.most l.slots.items (take l.wish-index l.those);
}
