use Rattle.std.proofs.Common.{drop}
use Rattle.value_views.proofs.Lengths.{in_brackets, behind_name}
use Rattle.value_views.proofs.showing.with_length.Goals as goal

pub returns-in-Some : goal.returns-in-Some
returns-in-Some c =
    let name = c.args.name.now in
    let at = c.in-Some.ensures.cases in
    let first = in_brackets c.args.length at.0 name (drop at.1 name) at.2.0 at.2.1.split in
    rw (first, ← at.3, ← at.4) c.bracketed.ensures

pub returns-in-None : goal.returns-in-None
returns-in-None c =
    rw (behind_name c.args.length c.args.name.now c.in-None.ensures.cases) c.bracketed-in-None.ensures
