-- what is known so far, what would be put back, and what is wished more and less by it
use Rattle.std.proofs.Common.{◌≡◌, drop}
use Rattle.class_tables.specs.Lookups.{found_in}
use Rattle.wish_sets.specs.Counts.{AreEarly, IsTold}
use Rattle.wish_sets.specs.Tables.{all_known, undone}
use Rattle.wish_sets.specs.Wanted.{nothing_wanted}
use Rattle.wish_sets.proofs.known.know_all.Given as goal

abbrev pub invariant-loop-class : goal.invariant-loop-class
invariant-loop-class l = record {
  told : all_known (found_in l.classes) (drop l.class-index l.those) l.known.entries
      ≡ all_known (found_in l.classes) l.those l.fn.known.entries;
  back : undone l.replaced.items l.known.entries ≡ undone l.fn.replaced.items l.fn.known.entries;
  early : AreEarly l.fn.shift.added.items → AreEarly l.shift.added.items;
  shift : IsTold (record nothing_wanted { lists = l.entries.lists.now; functions = l.entries.functions.now })
      l.fn.known.entries l.known.entries l.fn.shift.added.items l.shift.added.items l.fn.shift.taken.items
      l.shift.taken.items;
}
