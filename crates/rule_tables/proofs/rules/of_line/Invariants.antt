use Rattle.std.proofs.Common.{◌≡◌, ◌==◌, drop, find}
use Rattle.std.specs.Prelude.{flat_map}
use Rattle.rule_tables.proofs.rules.of_line.Given as goal

abbrev pub invariant-loop-list : goal.invariant-loop-list
invariant-loop-list l =
    find (λ ruled. ruled.id == l.id) (flat_map (λ list. list.1) (drop l.list-index l.lists))
    ≡ find (λ ruled. ruled.id == l.id) (flat_map (λ list. list.1) l.lists)
