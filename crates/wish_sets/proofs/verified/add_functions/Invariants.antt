use Rattle.std.proofs.Common.{◌≡◌, drop}
use Rattle.std.specs.Prelude.{map}
use Rattle.wish_sets.specs.Entries.{function_seen}
use Rattle.wish_sets.specs.Verified.{with_verified}
use Rattle.wish_sets.proofs.verified.add_functions.Given as goal

-- those of all functions are those found so far with those of the functions that are left
abbrev pub invariant-loop-entry : goal.invariant-loop-entry
invariant-loop-entry l =
    with_verified l.wishes (map function_seen (drop l.entry-index l.functions)) l.found.items
    ≡ with_verified l.wishes (map function_seen l.functions) l.fn.found.items
