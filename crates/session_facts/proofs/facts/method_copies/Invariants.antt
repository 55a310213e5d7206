use Rattle.std.proofs.Common.{◌≡◌, take}
use Rattle.session_facts.proofs.facts.method_copies.Given as goal

abbrev pub invariant-loop-method : goal.invariant-loop-method
invariant-loop-method l = l.copies ≡ take l.method-index l.methods
