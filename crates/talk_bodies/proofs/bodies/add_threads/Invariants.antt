use Rattle.std.proofs.Common.{◌≡◌, drop}
use Rattle.machine_model.specs.Telling.{with_threads}
use Rattle.talk_bodies.proofs.bodies.add_threads.Given as goal

abbrev pub invariant-loop-first : goal.invariant-loop-first
invariant-loop-first l = with_threads l.threads (drop l.first-index l.named) ≡ with_threads l.initial.threads l.named
