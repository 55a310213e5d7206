use Rattle.std.proofs.Common.{◌≡◌, ◌+◌, arith}
use Rattle.stop_refs.proofs.StartLaws.{kept-told, kept-untold, firsts-told, firsts-untold}
use Rattle.stop_refs.proofs.start.keep.Goals as goal

pub returns-then-told-gt0-clause-kept : goal.returns-then-told-gt0-clause-kept
returns-then-told-gt0-clause-kept c =
    rw c.put.ensures (kept-told 0 1 c.args.last c.args.first _ _ c.requires.kept (omega arith))

pub returns-then-told-gt0-clause-firsts : goal.returns-then-told-gt0-clause-firsts
returns-then-told-gt0-clause-firsts c =
    rw c.put.ensures (firsts-told 0 1 c.args.last c.args.first _ _ c.requires.kept)

pub returns-else-told-gt0-clause-kept : goal.returns-else-told-gt0-clause-kept
returns-else-told-gt0-clause-kept c =
    let none : c.args.first + c.args.told ≡ c.args.first = omega arith in
    rw none (kept-untold 0 1 c.args.last c.args.first _ c.requires.kept)

pub returns-else-told-gt0-clause-firsts : goal.returns-else-told-gt0-clause-firsts
returns-else-told-gt0-clause-firsts c =
    let none : c.args.first + c.args.told ≡ c.args.first = omega arith in
    rw none (firsts-untold 0 1 c.args.last c.args.first _ c.requires.kept)
