use Rattle.std.proofs.Common.{◌∙◌, ◌==◌, ap, find, option_copied, sym}
use Rattle.rule_tables.proofs.RuleLaws.{found_here, none_here}
use Rattle.rule_tables.proofs.rules.of_line.Goals as goal

pub returns-in-Some : goal.returns-in-Some
returns-in-Some c =
    found_here (λ ruled. ruled.id == c.args.id) c.args.lists.now c.loop-list.list-index c.list-item.result
    c.in-Some.ruled.now _ c.loop-list-test.true c.list-item.is
    (sym (ap option_copied c.in-Some.is) ∙ c.listed.ensures
    ∙ ap (find (λ ruled. ruled.id == c.args.id)) c.as_slice.ensures)
    c.loop-list.invariant

pub loop-list-preserved : goal.loop-list-preserved
loop-list-preserved c =
    none_here (λ ruled. ruled.id == c.args.id) c.args.lists.now c.loop-list.list-index c.list-item.result _
    c.loop-list-test.true c.list-item.is
    (sym (ap option_copied c.in-None.is) ∙ c.listed.ensures
    ∙ ap (find (λ ruled. ruled.id == c.args.id)) c.as_slice.ensures)
    c.loop-list.invariant
