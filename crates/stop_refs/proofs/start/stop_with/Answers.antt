use Rattle.std.proofs.Common.{◌≡◌, ◌-◌, suc, ap, leb, leb-true, leb-false, arith, rules}
use Rattle.std.proofs.lemmas.List.Sorted.{IsPartitionPoint-from_clause, IsPartitionedBy-leb}
use Rattle.stop_refs.specs.declared.start.Start.{Start}
use Rattle.stop_refs.proofs.StartLaws.{IsSplit, counted, firsts_rise, stop_before}
use Rattle.stop_refs.proofs.start.stop_with.Goals as goal

pub returns-then-count-eq0 : goal.returns-then-count-eq0
returns-then-count-eq0 c =
    let parted = IsPartitionedBy-leb (λ (s : Start). s.first) c.args.starts.now c.args.n
    (firsts_rise 0 1 c.args.last c.args.first _ c.requires.kept) in
    let point = IsPartitionPoint-from_clause (λ (s : Start). leb s.first c.args.n) _ _
    c.partition_point-count.ensures.partitioned parted (λ a r q k. search rules) in
    let split : IsSplit c.args.n c.partition_point-count.result c.args.starts.now = record {
      within = c.partition_point-count.ensures.bound;
      below = λ k d before. leb-true _ _ (point.0 k d (omega arith) before);
      above = λ k d behind inside. leb-false _ _ (point.1 k d behind inside);
    } in
    let count = counted c.args.n 0 1 c.args.last c.args.first _ c.args.starts.now c.requires.kept c.requires.below
    split in
    let none = ap (stop_before 0 c.args.starts.now) c.if-count-eq0.true in
    omega arith

pub returns-else-count-eq0 : goal.returns-else-count-eq0
returns-else-count-eq0 c =
    let parted = IsPartitionedBy-leb (λ (s : Start). s.first) c.args.starts.now c.args.n
    (firsts_rise 0 1 c.args.last c.args.first _ c.requires.kept) in
    let point = IsPartitionPoint-from_clause (λ (s : Start). leb s.first c.args.n) _ _
    c.partition_point-count.ensures.partitioned parted (λ a r q k. search rules) in
    let split : IsSplit c.args.n c.partition_point-count.result c.args.starts.now = record {
      within = c.partition_point-count.ensures.bound;
      below = λ k d before. leb-true _ _ (point.0 k d (omega arith) before);
      above = λ k d behind inside. leb-false _ _ (point.1 k d behind inside);
    } in
    let count = counted c.args.n 0 1 c.args.last c.args.first _ c.args.starts.now c.requires.kept c.requires.below
    split in
    let before : c.partition_point-count.result ≡ suc (c.partition_point-count.result - 1) = omega arith in
    let stop = ap (stop_before 0 c.args.starts.now) before in
    omega arith
