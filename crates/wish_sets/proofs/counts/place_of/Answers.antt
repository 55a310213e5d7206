-- The slot stands at the place to which those before it lead.
use Rattle.std.proofs.Common.{◌≡◌, ◌+◌, ◌∙◌, ap, sym, cond, None, Some, arith, rules}
use Rattle.std.proofs.lemmas.List.Sorted.{IsPartitionPoint-from_clause}
use Rattle.wish_sets.proofs.BoundLaws.{got, got_nothing}
use Rattle.wish_sets.proofs.SortedLaws.{is_before, its_place, parted, stands_at}
use Rattle.wish_sets.proofs.counts.place_of.Goals as goal

pub returns-then-at-slots-clause-place : goal.returns-then-at-slots-clause-place
returns-then-at-slots-clause-place c =
    let point = IsPartitionPoint-from_clause (is_before c.args.wish.now) _ _ c.partition_point-at.ensures.partitioned
    (parted c.args.wish.now c.args.slots.now c.requires) (λ a r q k. search rules) in
    let placed = stands_at c.args.wish.now 0 c.args.slots.now c.partition_point-at.result c.requires
    (λ k d less within. point.0 k d (omega arith) less) point.1 in
    sym (placed ∙ ap (its_place c.args.wish.now (0 + c.partition_point-at.result))
    (got_nothing c.args.slots.now c.partition_point-at.result (omega arith)))

pub returns-then-eq-clause-place : goal.returns-then-eq-clause-place
returns-then-eq-clause-place c =
    let point = IsPartitionPoint-from_clause (is_before c.args.wish.now) _ _ c.partition_point-at.ensures.partitioned
    (parted c.args.wish.now c.args.slots.now c.requires) (λ a r q k. search rules) in
    let placed = stands_at c.args.wish.now 0 c.args.slots.now c.partition_point-at.result c.requires
    (λ k d less within. point.0 k d (omega arith) less) point.1 in
    let here = got c.args.slots.now c.partition_point-at.result c.index-slots-at.result (omega arith)
    c.index-slots-at.is in
    let from : c.partition_point-at.result ≡ 0 + c.partition_point-at.result = omega arith in
    ap Some from ∙ (ap (λ b. cond b (Some (0 + c.partition_point-at.result)) None) c.if-eq.ensures
    ∙ sym (placed ∙ ap (its_place c.args.wish.now (0 + c.partition_point-at.result)) here))

pub returns-else-eq-clause-place : goal.returns-else-eq-clause-place
returns-else-eq-clause-place c =
    let point = IsPartitionPoint-from_clause (is_before c.args.wish.now) _ _ c.partition_point-at.ensures.partitioned
    (parted c.args.wish.now c.args.slots.now c.requires) (λ a r q k. search rules) in
    let placed = stands_at c.args.wish.now 0 c.args.slots.now c.partition_point-at.result c.requires
    (λ k d less within. point.0 k d (omega arith) less) point.1 in
    let here = got c.args.slots.now c.partition_point-at.result c.index-slots-at.result (omega arith)
    c.index-slots-at.is in
    ap (λ b. cond b (Some (0 + c.partition_point-at.result)) None) c.if-eq.ensures
    ∙ sym (placed ∙ ap (its_place c.args.wish.now (0 + c.partition_point-at.result)) here)
