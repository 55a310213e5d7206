use Rattle.std.proofs.Common.{◌≡◌, drop}
use Rattle.std.specs.Prelude.{map}
use Rattle.wish_sets.specs.Entries.{line_seen}
use Rattle.wish_sets.specs.Verified.{with_verified}
use Rattle.wish_sets.proofs.verified.add_lines.Given as goal

-- those of all entries are those found so far with those of the entries that are left
abbrev pub invariant-loop-entry : goal.invariant-loop-entry
invariant-loop-entry l =
    with_verified l.wishes (map line_seen (drop l.entry-index l.entries)) l.found.items
    ≡ with_verified l.wishes (map line_seen l.entries) l.fn.found.items
