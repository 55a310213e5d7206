use Rattle.std.proofs.Common.{◌≡◌, ◌++◌, drop}
use Rattle.wish_sets.specs.Counts.{list_entry_watches}
use Rattle.wish_sets.proofs.share.add_list_watches.Given as goal

-- the packages of all entries are those found so far, and those of the entries that are left
abbrev pub invariant-loop-entry : goal.invariant-loop-entry
invariant-loop-entry l =
    l.found.items ++ list_entry_watches (l.key, drop l._entry-index l.entries)
    ≡ l.fn.found.items ++ list_entry_watches (l.key, l.entries)
