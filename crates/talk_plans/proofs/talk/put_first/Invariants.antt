use Rattle.std.proofs.Common.{◌≡◌, ◌++◌, length}
use Rattle.talk_plans.proofs.talk.put_first.Given as goal

abbrev pub invariant-loop-part : goal.invariant-loop-part
invariant-loop-part l = l.parts.items ++ l.others.items ≡ l.fn.parts.items ++ l.initial.others.items

abbrev pub decreases-loop-part : goal.decreases-loop-part
decreases-loop-part l = length l.parts.items
