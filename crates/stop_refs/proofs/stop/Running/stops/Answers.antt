use Rattle.std.proofs.Common.{length, ap, arith}
use Rattle.stop_refs.specs.Numbers.{Past}
use Rattle.stop_refs.proofs.StartLaws.{length-firsts}
use Rattle.stop_refs.proofs.stop.Running.stops.Goals as goal

pub returns : goal.returns
returns c =
    let stops = length-firsts 0 1 c.self.inside.stops c.self.inside.next c.self.inside.starts.items
    c.self.invariant.kept in
    let shown = ap (λ (past : Past). length past.firsts) c.self.view_is in
    omega arith
