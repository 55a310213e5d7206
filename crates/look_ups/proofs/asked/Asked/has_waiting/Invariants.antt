use Rattle.std.proofs.Common.{◌≡◌}
use Rattle.machine_model.specs.State.{has_waiting}
use Rattle.look_ups.proofs.AskedLemmas.{any_left}
use Rattle.look_ups.proofs.asked.Asked.has_waiting.Given as goal

-- what is left waits where anything does
abbrev pub invariant-loop-tried : goal.invariant-loop-tried
invariant-loop-tried l = any_left l.tried-iterator ≡ has_waiting l.self
