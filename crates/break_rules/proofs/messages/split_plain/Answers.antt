use Rattle.break_rules.specs.Parsing.{not_open}
use Rattle.break_rules.proofs.Bytes.{open_is_low}
use Rattle.break_rules.proofs.Cuts.{cut_before_ascii, cut_of_bytes}
use Rattle.break_rules.proofs.messages.split_plain.Goals as goal

pub split_at-requires : goal.split_at-requires
split_at-requires c =
    cut_of_bytes not_open c.args.text.now c.as_bytes.result.now c.plain_len.result c.plain_len.ensures
    c.as_bytes.ensures.value (cut_before_ascii not_open open_is_low c.args.text.now)
