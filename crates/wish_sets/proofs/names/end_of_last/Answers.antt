-- The bytes behind the place are others, and the one before it is of the kind.
use Rattle.std.proofs.Common.{◌≡◌, ◌-◌, length, arith}
use Rattle.std.specs.Prelude.{◌==◌, not}
use Rattle.std.specs.List.{suffix_len}
use Rattle.std.proofs.lemmas.List.Sums.{suffix_len_is}
use Rattle.wish_sets.proofs.names.end_of_last.Goals as goal

pub returns-else-bytes-end-clause-place : goal.returns-else-bytes-end-clause-place
returns-else-bytes-end-clause-place c =
    let others : suffix_len (λ byte. not (byte == c.args.last)) c.args.bytes.now
    ≡ length c.args.bytes.now - c.loop-end.end =
    suffix_len_is (λ byte. not (byte == c.args.last)) c.args.bytes.now c.loop-end.end 0 (omega arith)
    c.loop-end.invariant.1 (λ positive. rw c.if-bytes-end.false (grind arith)) in
    omega arith

pub returns-after-loop-end-clause-place : goal.returns-after-loop-end-clause-place
returns-after-loop-end-clause-place c =
    let others : suffix_len (λ byte. not (byte == c.args.last)) c.args.bytes.now
    ≡ length c.args.bytes.now - c.loop-end.end =
    suffix_len_is (λ byte. not (byte == c.args.last)) c.args.bytes.now c.loop-end.end 0 (omega arith)
    c.loop-end.invariant.1 (λ positive. absurd (omega arith)) in
    omega arith
