-- The slot stands at the place to which those before it lead.
use Rattle.std.proofs.Common.{◌∙◌, ap, sym, cond, Some, None, arith, rules}
use Rattle.std.proofs.lemmas.List.Sorted.{IsPartitionPoint-from_clause}
use Rattle.wish_sets.proofs.BoundLaws.{got, got_nothing}
use Rattle.wish_sets.proofs.SortedLaws.{found_at, is_before, its_at, parted}
use Rattle.wish_sets.proofs.standing.slot_of.Goals as goal

pub returns-then-at-slots : goal.returns-then-at-slots
returns-then-at-slots c =
    let point = IsPartitionPoint-from_clause (is_before c.args.wish.now) _ _ c.partition_point-at.ensures.partitioned
    (parted c.args.wish.now c.args.slots.now c.requires) (λ a r q k. search rules) in
    let found = found_at c.args.wish.now c.args.slots.now c.partition_point-at.result c.requires
    (λ k d less within. point.0 k d (omega arith) less) point.1 in
    sym (found ∙ ap (its_at c.args.wish.now) (got_nothing c.args.slots.now c.partition_point-at.result (omega arith)))

pub returns-then-eq : goal.returns-then-eq
returns-then-eq c =
    let point = IsPartitionPoint-from_clause (is_before c.args.wish.now) _ _ c.partition_point-at.ensures.partitioned
    (parted c.args.wish.now c.args.slots.now c.requires) (λ a r q k. search rules) in
    let found = found_at c.args.wish.now c.args.slots.now c.partition_point-at.result c.requires
    (λ k d less within. point.0 k d (omega arith) less) point.1 in
    let here = got c.args.slots.now c.partition_point-at.result c.index-slots-at.result (omega arith)
    c.index-slots-at.is in
    ap (λ b. cond b (Some c.index-slots-at.result) None) c.if-eq.ensures
    ∙ sym (found ∙ ap (its_at c.args.wish.now) here)

pub returns-else-eq : goal.returns-else-eq
returns-else-eq c =
    let point = IsPartitionPoint-from_clause (is_before c.args.wish.now) _ _ c.partition_point-at.ensures.partitioned
    (parted c.args.wish.now c.args.slots.now c.requires) (λ a r q k. search rules) in
    let found = found_at c.args.wish.now c.args.slots.now c.partition_point-at.result c.requires
    (λ k d less within. point.0 k d (omega arith) less) point.1 in
    let here = got c.args.slots.now c.partition_point-at.result c.index-slots-at.result (omega arith)
    c.index-slots-at.is in
    ap (λ b. cond b (Some c.index-slots-at.result) None) c.if-eq.ensures
    ∙ sym (found ∙ ap (its_at c.args.wish.now) here)
