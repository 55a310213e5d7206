use Rattle.std.proofs.Common.{◌≡◌, map, take}
use Rattle.machine_model.specs.Telling.{thread_told}
use Rattle.talk_bodies.proofs.bodies.threads_told.Given as goal

abbrev pub invariant-loop-first : goal.invariant-loop-first
invariant-loop-first l = l.told ≡ map (thread_told l.threads) (take l.first-index l.named)
