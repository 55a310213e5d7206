use Rattle.std.proofs.Common.{◌≡◌, ℕ, List, drop}
use Rattle.std.specs.Prelude.{flat_map, map}
use Rattle.wish_sets.specs.declared.entry.LineEntry.{LineEntry}
use Rattle.wish_sets.specs.declared.entry.VerifiedEntry.{VerifiedEntry}
use Rattle.wish_sets.specs.Entries.{line_seen}
use Rattle.wish_sets.specs.Verified.{with_verified}
use Rattle.wish_sets.proofs.verified.add_lists.Given as goal

-- the breakpoints of some lists
abbrev seen_of : List (List ℕ × List LineEntry) → List VerifiedEntry
seen_of lists = flat_map (λ (list : List ℕ × List LineEntry). map line_seen list.1) lists

-- those of all lists are those found so far with those of the lists that are left
abbrev pub invariant-loop-list : goal.invariant-loop-list
invariant-loop-list l =
    with_verified l.wishes (seen_of (drop l.list-index l.lists)) l.found.items
    ≡ with_verified l.wishes (seen_of l.lists) l.fn.found.items
