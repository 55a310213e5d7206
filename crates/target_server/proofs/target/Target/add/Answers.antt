use Rattle.std.proofs.Common.{arith}
use Rattle.target_server.proofs.Feeding.{added_end}
use Rattle.target_server.proofs.target.Target.add.Goals as goal

pub invariant_of-self : goal.invariant_of-self
invariant_of-self c =
    let few = c.self.invariant.0 in
    let end = c.in_ok-self-inside.ensures in
    let added = added_end c.feed.result c.self.inside.cutter c.feed.new.self c.args.piece.now c.self.inside.bytes_fed
    few c.feed.ensures.ok c.feed.ensures.err in (
      omega (arith, end.0, added),
      omega (arith, end.0, end.1),
    )
