-- those so far are known as they are found
use Rattle.std.proofs.Common.{◌≡◌, drop}
use Rattle.class_tables.specs.Lookups.{found_in}
use Rattle.wish_sets.specs.Tables.{all_known}
use Rattle.wish_sets.proofs.known.are_known.Given as goal

abbrev pub invariant-loop-class : goal.invariant-loop-class
invariant-loop-class l =
    all_known (found_in l.classes) (drop l.class-index l.those) l.known.entries
    ≡ all_known (found_in l.classes) l.those l.known.entries
