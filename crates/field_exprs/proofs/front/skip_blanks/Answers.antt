use Rattle.std.proofs.Common.{ap, subst, sym, ◌∙◌}
use Rattle.std.specs.List.{prefix_len}
use Rattle.std.specs.Str.{IsCharBoundary}
use Rattle.field_exprs.specs.Grammar.{is_blank}
use Rattle.field_exprs.proofs.Fronts.{cut_behind_blanks, skips}
use Rattle.field_exprs.proofs.front.skip_blanks.Goals as goal

pub split_at-requires : goal.split_at-requires
split_at-requires c =
    subst (IsCharBoundary c.args.text.now)
    (sym (c.blanks_len.ensures ∙ ap (prefix_len is_blank) c.as_bytes.ensures.value))
    (cut_behind_blanks c.args.text.now c.utf8.text)

pub returns : goal.returns
returns c =
    skips is_blank c.args.text.now c.split_at.result.1.now c.blanks_len.result
    (c.blanks_len.ensures ∙ ap (prefix_len is_blank) c.as_bytes.ensures.value) c.split_at.ensures.back
