use Rattle.std.proofs.Common.{◌≡◌, take}
use Rattle.session_facts.proofs.facts.variable_copies.Given as goal

abbrev pub invariant-loop-variable : goal.invariant-loop-variable
invariant-loop-variable l = l.copies ≡ take l.variable-index l.variables
