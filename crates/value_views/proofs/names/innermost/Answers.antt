use Rattle.std.proofs.Common.{arith}
use Rattle.value_views.proofs.NamePairs.{pair_seen}
use Rattle.value_views.proofs.names.innermost.Goals as goal

pub loop-rest-preserved : goal.loop-rest-preserved
loop-rest-preserved c =
    let seen = pair_seen c.args.signature.now c.loop-rest.element.now c.in-Some.rest.now c.loop-rest.dimensions
    c.loop-rest.invariant.0 (c.in-Some.ensures {u = tt}) in
    let shorter = seen.1 in (seen.0, omega arith)
