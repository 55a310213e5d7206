-- the methods so far are known as they are found
use Rattle.std.proofs.Common.{◌≡◌, length, take}
use Rattle.std.specs.Prelude.{map}
use Rattle.class_tables.specs.Lookups.{found_in}
use Rattle.wish_sets.specs.Wanted.{method_found}
use Rattle.wish_sets.proofs.same.are_methods.Given as goal

abbrev pub invariant-loop-at : goal.invariant-loop-at
invariant-loop-at l = (length l.methods ≡ length l.known)
    × (map (method_found (found_in l.classes) l.class) (take l.at l.methods) ≡ take l.at l.known)
