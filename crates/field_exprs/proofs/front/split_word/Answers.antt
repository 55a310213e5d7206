use Rattle.std.proofs.Common.{ap, subst, sym, ◌∙◌, List, ℕ}
use Rattle.std.specs.Prelude.{slice_get}
use Rattle.std.specs.List.{prefix_len}
use Rattle.std.specs.Str.{IsCharBoundary}
use Rattle.field_exprs.specs.Grammar.{is_in_name}
use Rattle.field_exprs.proofs.Fronts.{cut_behind_word, word_before}
use Rattle.field_exprs.proofs.front.split_word.Goals as goal

pub split_at-requires : goal.split_at-requires
split_at-requires c =
    subst (IsCharBoundary c.args.text.now)
    (sym (c.word_len.ensures ∙ ap (prefix_len is_in_name) c.as_bytes-then-begins_name.ensures.value))
    (cut_behind_word c.args.text.now)

pub returns-then-begins_name : goal.returns-then-begins_name
returns-then-begins_name c =
    let whole = c.as_bytes-then-begins_name.ensures.value in
    word_before c.args.text.now c.split_at.result.0.now c.split_at.result.1.now c.word_len.result
    c.in_ok-first.field-0.now
    (c.in_ok-first.ensures.value ∙ ap (λ (l : List ℕ). slice_get l 0) c.as_bytes.ensures.value)
    (sym c.if-begins_name.ensures) (c.word_len.ensures ∙ ap (prefix_len is_in_name) whole)
    c.split_at.ensures.front c.split_at.ensures.back
