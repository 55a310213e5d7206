use Rattle.break_rules.specs.Parsing.{no_sign}
use Rattle.break_rules.proofs.Bytes.{sign_is_low}
use Rattle.break_rules.proofs.Cuts.{cut_before_ascii, cut_of_bytes}
use Rattle.break_rules.proofs.conditions.split_sides.Goals as goal

pub split_at-requires : goal.split_at-requires
split_at-requires c =
    cut_of_bytes no_sign c.args.text.now c.as_bytes.result.now c.side_len.result c.side_len.ensures
    c.as_bytes.ensures.value (cut_before_ascii no_sign sign_is_low c.args.text.now)
