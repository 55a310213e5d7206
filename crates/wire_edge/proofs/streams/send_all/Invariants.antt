-- What is gone from the rest was appended.
use Rattle.std.proofs.Common.{◌≡◌, ℕ, List, ◌++◌}
use Rattle.std.specs.Io.KnownBytes.{Appends}
use Rattle.wire_edge.proofs.streams.send_all.Given as goal

abbrev pub invariant-loop : goal.invariant-loop
invariant-loop g l = (done : List ℕ) × (l.initial.rest ≡ done ++ l.rest)
    × Appends (g.S.Write.contents l.initial.stream) (g.S.Write.contents l.stream) done
