use Rattle.std.proofs.Common.{ℕ, ap, arith}
use Rattle.std.specs.Prelude.{◌==◌}
use Rattle.class_tables.proofs.PackageLaws.{cut_at_last, cut_at_none}
use Rattle.class_tables.proofs.signature.package_of.Goals as goal

pub returns-then-path-end-eq47 : goal.returns-then-path-end-eq47
returns-then-path-end-eq47 c =
    cut_at_last c.args.path.now c.loop-end.end (omega arith) c.loop-end.invariant.0
    (ap (λ (n : ℕ). n == 47) c.if-path-end-eq47.true) c.loop-end.invariant.1

pub returns : goal.returns
returns c = cut_at_none c.args.path.now (λ k from below. c.loop-end.invariant.1 k (omega arith) below)
