use Rattle.std.proofs.Common.{◌≡◌, ◌++◌, map}
use Rattle.std.specs.List.{flat_map}
use Rattle.machine_model.specs.Replying.{unanswered}
use Rattle.look_ups.specs.Asking.{sent_of}
use Rattle.look_ups.proofs.asked.Asked.unanswered.Given as goal

-- what was found, and what is left, is all that waits
abbrev pub invariant-loop-key : goal.invariant-loop-key
invariant-loop-key l =
    l.late.items ++ flat_map unanswered (map sent_of l.key-iterator) ≡ flat_map unanswered l.self
