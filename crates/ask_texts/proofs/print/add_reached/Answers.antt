use Rattle.std.proofs.Common.{ap, ◌∙◌}
use Rattle.serde_json.specs.Written.{has_float}
use Rattle.ask_texts.proofs.PlainLaws.{reached_plain}
use Rattle.ask_texts.proofs.print.add_reached.Goals as goal

pub add_line-requires : goal.add_line-requires
add_line-requires c = ap has_float c.in_ok-value.ensures ∙ reached_plain c.args.n c.args.reached.now
