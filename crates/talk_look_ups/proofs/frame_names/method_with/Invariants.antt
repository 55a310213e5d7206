use Rattle.std.proofs.Common.{◌≡◌, ◌==◌, drop, find}
use Rattle.talk_look_ups.proofs.frame_names.method_with.Given as goal

abbrev pub invariant-loop-method : goal.invariant-loop-method
invariant-loop-method l =
    find (λ method. method.id.0 == l.id.0) (drop l.method-index l.methods)
    ≡ find (λ method. method.id.0 == l.id.0) l.methods
