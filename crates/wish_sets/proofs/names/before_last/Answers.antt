-- A text is cut in front of a byte that is a character by itself.
use Rattle.std.proofs.Common.{◌≡◌, ◌-◌, ◌<◌, ◌≤◌, get_or, subst, sym, arith, length}
use Rattle.std.proofs.lemmas.Str.{IsUtf8-take, IsUtf8-nil, IsCharBoundary-before_ascii}
use Rattle.wish_sets.proofs.names.before_last.Goals as goal

pub returns-then-end-eq0-clause-utf8 : goal.returns-then-end-eq0-clause-utf8
returns-then-end-eq0-clause-utf8 c = λ ascii utf8. IsUtf8-nil

pub returns-else-end-eq0-clause-utf8 : goal.returns-else-end-eq0-clause-utf8
returns-else-end-eq0-clause-utf8 c = λ ascii utf8.
    let end = c.end_of_last-end.result in
    let some : 0 < end = omega (arith, c.if-end-eq0.false) in
    let within : end ≤ length c.args.bytes.now = c.end_of_last-end.ensures.within in
    let found : get_or c.args.bytes.now (end - 1) 0 ≡ c.args.last = c.end_of_last-end.ensures.found some in
    IsUtf8-take c.args.bytes.now (end - 1) utf8
    (IsCharBoundary-before_ascii c.args.bytes.now (end - 1) (omega arith) (subst (λ byte. byte < 128) (sym found)
    ascii))
