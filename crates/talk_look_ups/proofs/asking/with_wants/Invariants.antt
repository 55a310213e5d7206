use Rattle.std.proofs.Common.{◌≡◌, [], length, map}
use Rattle.machine_model.specs.Due.{with_wants}
use Rattle.machine_model.specs.Plans.{question_of}
use Rattle.talk_look_ups.proofs.asking.with_wants.Given as goal

-- with those that are left the queue is whole, and the keys that were seen are those of the queue
abbrev pub invariant-loop-want : goal.invariant-loop-want
invariant-loop-want l =
    (with_wants l.asked l.queue.items l.wants.items ≡ with_wants l.asked [] l.fn.wants.items)
    × (l.seen.keys ≡ map question_of l.queue.items)

abbrev pub decreases-loop-want : goal.decreases-loop-want
decreases-loop-want l = length l.wants.items
