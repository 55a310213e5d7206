-- What an output tells that isn't read back.
use Rattle.std.specs.Prelude.{ℕ, None}
use Rattle.wire_core.specs.Output.{Printed}

-- an output that tells no bytes
abbrev pub unprinted : ℕ → Printed
unprinted faults = record { bytes = None; faults = faults }
