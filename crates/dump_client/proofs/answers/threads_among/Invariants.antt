use Rattle.std.proofs.Common.{◌≡◌, ◌++◌, drop}
use Rattle.serde_json.specs.View.{items_view}
use Rattle.dump_client.specs.Answers.{threads_among}
use Rattle.dump_client.proofs.answers.threads_among.Given as goal

abbrev pub invariant-loop-thread : goal.invariant-loop-thread
invariant-loop-thread l =
    threads_among (items_view l.threads) ≡ l.headings ++ threads_among (items_view (drop l.thread-index l.threads))
