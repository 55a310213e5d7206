use Rattle.std.proofs.Common.{◌≤◌, ◌<◌, ◌+◌, List, ℕ, length, take, subst}
use Rattle.field_exprs.specs.Grammar.{BeginsIndex}
use Rattle.field_exprs.proofs.Fronts.{cut_behind_digits, index_before}
use Rattle.field_exprs.proofs.front.split_index.Goals as goal

pub split_at-requires : goal.split_at-requires
split_at-requires c =
    let whole = c.as_bytes.ensures.value in
    let end = c.index_len-end.result.0 in
    cut_behind_digits c.args.text.now end c.utf8.text
    (subst (λ (l : List ℕ). end ≤ length l) whole c.index_len-end.ensures.within)
    (subst (λ (l : List ℕ). BeginsIndex (take end l)) whole c.index_len-end.ensures.begins)

pub returns-clause-parts : goal.returns-clause-parts
returns-clause-parts c =
    let whole = c.as_bytes.ensures.value in
    let end = c.index_len-end.result.0 in
    index_before c.args.text.now c.split_at.result.0.now c.split_at.result.1.now end
    (subst (λ (l : List ℕ). end ≤ length l) whole c.index_len-end.ensures.within)
    c.split_at.ensures.front c.split_at.ensures.back
    (subst (λ (l : List ℕ). BeginsIndex (take end l)) whole c.index_len-end.ensures.begins)
    (subst (λ (l : List ℕ). end < length l → ¬ BeginsIndex (take (end + 1) l)) whole c.index_len-end.ensures.longest)
