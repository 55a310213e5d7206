use Rattle.std.proofs.Common.{◌≡◌, ◌++◌, drop, flat_map}
use Rattle.talk_look_ups.specs.Planning.{lacking_name}
use Rattle.talk_look_ups.proofs.threads.lacking_names.Given as goal

abbrev pub invariant-loop-thread : goal.invariant-loop-thread
invariant-loop-thread l =
    l.wants.items ++ flat_map (lacking_name l.asked) (drop l.thread-index l.threads)
    ≡ flat_map (lacking_name l.asked) l.threads
