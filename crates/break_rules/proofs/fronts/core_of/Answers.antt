use Rattle.std.proofs.Common.{arith}
use Rattle.std.proofs.lemmas.List.Sums.{prefix_len-le-length}
use Rattle.field_exprs.specs.Grammar.{is_blank}
use Rattle.break_rules.proofs.Cuts.{fewer_behind}
use Rattle.break_rules.proofs.fronts.core_of.Goals as goal

pub split_at-requires : goal.split_at-requires
split_at-requires c = let within = prefix_len-le-length is_blank c.args.bytes.now in let is = c.blanks_before.ensures in omega arith

pub overflow_sub-rest : goal.overflow_sub-rest
overflow_sub-rest c =
    let within = fewer_behind c.split_at.result.1.now in let is = c.blanks_behind.ensures in omega arith
