use Rattle.std.proofs.Common.{sym, subst}
use Rattle.std.specs.Str.{StartsWithNoChar, IsValidUpTo}
use Rattle.jdwp_values.proofs.LossyLaws.{none_at_end, none_behind}
use Rattle.jdwp_values.proofs.shown.text_at_front.Goals as goal

pub returns-in-Ok-clause-behind : goal.returns-in-Ok-clause-behind
returns-in-Ok-clause-behind c = none_at_end

pub returns-in-Ok-from_utf8-clause-behind : goal.returns-in-Ok-from_utf8-clause-behind
returns-in-Ok-from_utf8-clause-behind c =
    let valid = subst (IsValidUpTo c.args.bytes.now) (sym c.valid_up_to.ensures) c.in-Err.ensures.cases.1 in
    subst StartsWithNoChar (sym c.split_at.ensures.back) (none_behind c.args.bytes.now c.valid_up_to.result valid)
