-- What wires without a log tell of themselves.
use Rattle.std.specs.Prelude.{None}
use Rattle.wire_core.specs.Outside.{Outside}
use Rattle.wire_core.specs.Links.{outside_with}
use Rattle.wire_core.specs.Names.{names_of}
use Rattle.wire_edge.specs.declared.tcp_wires.Tally.{Tally}

-- the counts of waits and of faults, the links and the names of a tally, and no log
abbrev pub told_by : Tally → Outside
told_by tally = outside_with None tally.waits tally.links tally.open_faults (names_of tally.asked)
