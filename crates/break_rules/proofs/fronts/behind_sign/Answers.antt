use Rattle.break_rules.proofs.Prefixes.{is_behind}
use Rattle.break_rules.proofs.fronts.behind_sign.Goals as goal

pub returns : goal.returns
returns c = is_behind c.args.sign.now c.args.text.now c.strip_prefix.result c.strip_prefix.ensures.cases
