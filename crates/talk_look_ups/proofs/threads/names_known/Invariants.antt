use Rattle.std.proofs.Common.{◌≡◌, ◌++◌, drop, flat_map}
use Rattle.talk_look_ups.specs.Planning.{name_known}
use Rattle.talk_look_ups.proofs.threads.names_known.Given as goal

abbrev pub invariant-loop-thread : goal.invariant-loop-thread
invariant-loop-thread l =
    l.named ++ flat_map (name_known l.asked) (drop l.thread-index l.threads)
    ≡ flat_map (name_known l.asked) l.threads
