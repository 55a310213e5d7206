-- Each byte leads from one rest to the next.
use Rattle.std.proofs.Common.{sym, ap, ◌∙◌}
use Rattle.wish_sets.proofs.SpellLaws.{matched, spelled_whole, at_the_end, from_the_start}
use Rattle.wish_sets.proofs.spelling.is_package_name.Goals as goal

pub loop-byte-init : goal.loop-byte-init
loop-byte-init c = from_the_start c.args.name.now c.args.path.now

pub returns-in_default-go_on : goal.returns-in_default-go_on
returns-in_default-go_on c =
    ap (matched c.in-Some.rest.now) c.in_default-go_on.ensures
    ∙ (sym (spelled_whole c.loop-byte.path.now c.in-Some.byte.now c.in-Some.rest.now c.loop-byte.pending
    c.loop-byte.name.now c.in-Some.ensures.cases.0) ∙ c.loop-byte.invariant)

pub loop-byte-preserved : goal.loop-byte-preserved
loop-byte-preserved c =
    ap (matched c.in-Some.rest.now) c.in-Some-go_on.ensures
    ∙ (sym (spelled_whole c.loop-byte.path.now c.in-Some.byte.now c.in-Some.rest.now c.loop-byte.pending
    c.loop-byte.name.now c.in-Some.ensures.cases.0) ∙ c.loop-byte.invariant)

pub returns : goal.returns
returns c =
    c.is_empty.ensures
    ∙ (at_the_end c.loop-byte.path.now c.loop-byte.name.now c.loop-byte.pending c.in_default.ensures.cases
    ∙ c.loop-byte.invariant)
