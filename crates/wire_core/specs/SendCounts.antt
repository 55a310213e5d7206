use Rattle.std.specs.Prelude.{ℕ}
use Rattle.wire_core.specs.declared.outside.Side.{Side}
use Rattle.wire_core.specs.declared.outside.Side.TheVariants.{Client, Target}
use Rattle.wire_core.specs.declared.memory_wires.SendCounts.{SendCounts}

-- how many sends a side had
abbrev pub count_to : Side → SendCounts → ℕ
count_to Client counts = counts.client
count_to Target counts = counts.target
