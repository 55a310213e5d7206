use Rattle.std.proofs.Common.{◌≡◌, map, take}
use Rattle.serde_json.specs.View.{view}
use Rattle.dap_messages.specs.Bodies.{thread_data}
use Rattle.dap_messages.proofs.bodies.threads_value.Given as goal

abbrev pub invariant-loop-thread : goal.invariant-loop-thread
invariant-loop-thread l = map view l.items.items ≡ map thread_data (take l.thread-index l.threads)
