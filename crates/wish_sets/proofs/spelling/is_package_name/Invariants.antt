use Rattle.std.proofs.Common.{◌≡◌, length}
use Rattle.std.specs.Prelude.{bytes_eq}
use Rattle.jdwp_values.specs.Lossy.{lossy_after}
use Rattle.wish_sets.specs.Names.{dotted, package_name}
use Rattle.wish_sets.proofs.spelling.is_package_name.Given as goal

-- the name is that of the path where the rest of it is that of the rest of the path
abbrev pub invariant-loop-byte : goal.invariant-loop-byte
invariant-loop-byte l =
    bytes_eq l.name (lossy_after l.pending (dotted l.path)) ≡ bytes_eq l.fn.name (package_name l.fn.path)

abbrev pub decreases-loop-byte : goal.decreases-loop-byte
decreases-loop-byte l = length l.path
