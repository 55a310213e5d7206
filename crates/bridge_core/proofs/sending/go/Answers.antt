use Rattle.std.proofs.Common.{sym}
use Rattle.bridge_core.proofs.GoLaws.{Walks, loop_less, walks_on, walks_ready, walks_to}
use Rattle.bridge_core.proofs.sending.go.Goals as goal

pub loop-alloc-init : goal.loop-alloc-init
loop-alloc-init c = Walks.starts

pub next-requires : goal.next-requires
next-requires c =
    walks_ready c.args.core.now c.loop-alloc.core c.loop-alloc.next c.requires c.loop-alloc.invariant
    (sym c.loop-alloc-test.ensures)

pub loop-alloc-smaller : goal.loop-alloc-smaller
loop-alloc-smaller c =
    loop_less c.loop-alloc.core c.next.new.self c.loop-alloc.next c.in_ok-next.next (sym c.loop-alloc-test.ensures)
    c.in_ok-next.ensures

pub loop-alloc-preserved : goal.loop-alloc-preserved
loop-alloc-preserved c =
    walks_on c.args.core.now c.loop-alloc.core c.next.new.self c.loop-alloc.next c.in_ok-next.next c.requires
    c.loop-alloc.invariant (sym c.loop-alloc-test.ensures) c.in_ok-next.ensures

pub returns-clause-comes : goal.returns-clause-comes
returns-clause-comes c =
    walks_to c.args.core.now c.loop-alloc.core c.loop-alloc.next c.loop-alloc.invariant (sym c.loop-alloc-test.ensures)
