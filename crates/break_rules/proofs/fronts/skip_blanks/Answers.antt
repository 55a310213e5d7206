use Rattle.field_exprs.proofs.Fronts.{cut_behind_blanks}
use Rattle.field_exprs.specs.Grammar.{is_blank}
use Rattle.break_rules.proofs.Cuts.{cut_of_bytes}
use Rattle.break_rules.proofs.fronts.skip_blanks.Goals as goal

pub split_at-requires : goal.split_at-requires
split_at-requires c =
    cut_of_bytes is_blank c.args.text.now c.as_bytes.result.now c.blanks_before.result c.blanks_before.ensures
    c.as_bytes.ensures.value (cut_behind_blanks c.args.text.now c.utf8.text)
