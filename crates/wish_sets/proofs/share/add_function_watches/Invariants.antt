use Rattle.std.proofs.Common.{◌≡◌, ◌++◌, drop}
use Rattle.wish_sets.specs.Forming.{function_watches}
use Rattle.wish_sets.proofs.share.add_function_watches.Given as goal

-- the packages of all functions are those found so far, and those of the functions that are left
abbrev pub invariant-loop-entry : goal.invariant-loop-entry
invariant-loop-entry l =
    l.found.items ++ function_watches (drop l.entry-index l.functions) ≡ l.fn.found.items ++ function_watches l.functions
