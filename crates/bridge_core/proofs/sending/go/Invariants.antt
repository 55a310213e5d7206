use Rattle.bridge_core.proofs.GoLaws.{Walks, left_to_do}
use Rattle.bridge_core.proofs.sending.go.Given as goal

abbrev pub invariant-loop-alloc : goal.invariant-loop-alloc
invariant-loop-alloc l = Walks l.initial.core l.next l.core

abbrev pub decreases-loop-alloc : goal.decreases-loop-alloc
decreases-loop-alloc l = left_to_do l.next l.core
