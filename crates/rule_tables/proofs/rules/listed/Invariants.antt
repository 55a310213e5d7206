use Rattle.std.proofs.Common.{◌≡◌, ◌==◌, drop, find}
use Rattle.rule_tables.proofs.rules.listed.Given as goal

abbrev pub invariant-loop-ruled : goal.invariant-loop-ruled
invariant-loop-ruled l =
    find (λ ruled. ruled.id == l.id) (drop l.ruled-index l.rules) ≡ find (λ ruled. ruled.id == l.id) l.rules
