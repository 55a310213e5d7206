use Rattle.std.proofs.Common.{length, ap, arith}
use Rattle.stop_refs.specs.Numbers.{Past}
use Rattle.stop_refs.proofs.StartLaws.{length-firsts}
use Rattle.stop_refs.proofs.stop.Running.stop.Goals as goal

pub invariant_of-result : goal.invariant_of-result
invariant_of-result c =
    let stops = length-firsts 0 1 c.self.inside.stops c.self.inside.next c.self.inside.starts.items
    c.self.invariant.kept in
    let shown = ap (λ (past : Past). length past.firsts) c.self.view_is in
    let none = c.new.ensures.len in
    record {
      kept = c.self.invariant.kept;
      within = let below = c.self.invariant.within in omega arith;
      counted = omega arith;
      room = λ told. absurd (omega arith);
    }
