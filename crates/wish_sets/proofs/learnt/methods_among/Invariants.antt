use Rattle.std.proofs.Common.{◌≡◌, ◌++◌, drop}
use Rattle.std.specs.Prelude.{map}
use Rattle.class_tables.specs.Lookups.{found_in}
use Rattle.wish_sets.specs.Wanted.{method_found}
use Rattle.wish_sets.proofs.learnt.methods_among.Given as goal

-- what is found of all methods is what was found so far, and what is found of those that are left
abbrev pub invariant-loop-method : goal.invariant-loop-method
invariant-loop-method l =
    l.found ++ map (method_found (found_in l.classes) l.class) (drop l.method-index l.methods)
    ≡ map (method_found (found_in l.classes) l.class) l.methods
