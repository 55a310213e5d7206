use Rattle.break_rules.specs.Parsing.{not_closed}
use Rattle.break_rules.proofs.Bytes.{close_is_low}
use Rattle.break_rules.proofs.Cuts.{cut_before_ascii, cut_of_bytes}
use Rattle.break_rules.proofs.messages.split_inner.Goals as goal

pub split_at-requires : goal.split_at-requires
split_at-requires c =
    cut_of_bytes not_closed c.args.text.now c.as_bytes.result.now c.inner_len.result c.inner_len.ensures
    c.as_bytes.ensures.value (cut_before_ascii not_closed close_is_low c.args.text.now)
