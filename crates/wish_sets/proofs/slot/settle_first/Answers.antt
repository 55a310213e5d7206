use Rattle.std.proofs.Common.{◌≡◌, ◌+◌, ◌∙◌, sym, ap, Some, arith}
use Rattle.std.proofs.Common.{set}
use Rattle.wish_sets.specs.Slots.{awaits, marked}
use Rattle.wish_sets.proofs.FirstLaws.{first_there, first_nowhere, unchanged, changed_at}
use Rattle.wish_sets.proofs.slot.settle_first.Goals as goal

pub returns-in_default-clause-found : goal.returns-in_default-clause-found
returns-in_default-clause-found c =
    sym (first_nowhere (awaits c.args.outcome) 0 c.args.slots.now (let h = c.place_of.ensures.value in cc))

pub returns-in_default-clause-marked : goal.returns-in_default-clause-marked
returns-in_default-clause-marked c =
    sym (unchanged (awaits c.args.outcome) (marked c.args.outcome) c.args.slots.now
    (first_nowhere (awaits c.args.outcome) 0 c.args.slots.now (let h = c.place_of.ensures.value in cc)))

pub returns-clause-found : goal.returns-clause-found
returns-clause-found c =
    sym (first_there (awaits c.args.outcome) 0 c.args.slots.now c.in-Some.at (sym c.place_of.ensures.value
    ∙ c.in-Some.is))

pub returns-clause-marked : goal.returns-clause-marked
returns-clause-marked c =
    ap (set c.args.slots.now c.in-Some.at) c.mark.ensures
    ∙ changed_at (awaits c.args.outcome) (marked c.args.outcome) 0 c.args.slots.now c.in-Some.at
    c.index-slots-at.result
    (sym c.place_of.ensures.value ∙ (c.in-Some.is ∙ ap Some (let same : c.in-Some.at
    ≡ 0 + c.in-Some.at = omega arith in same)))
