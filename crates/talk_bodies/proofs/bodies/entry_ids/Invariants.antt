use Rattle.std.proofs.Common.{◌≡◌, map, take}
use Rattle.talk_bodies.proofs.bodies.entry_ids.Given as goal

abbrev pub invariant-loop-entry : goal.invariant-loop-entry
invariant-loop-entry l = l.ids ≡ map (λ entry. entry.id) (take l.entry-index l.entries)
