use Rattle.std.proofs.Common.{◌≡◌, ◌-◌}
use Rattle.jdwp_values.specs.Rows.{times_at}
use Rattle.jdwp_values.proofs.Times.{with_front}
use Rattle.jdwp_commands.specs.Regions.{element_at}
use Rattle.jdwp_commands.proofs.region.read_elements.Given as goal

abbrev pub invariant-loop : goal.invariant-loop
invariant-loop l =
    with_front l.values (times_at (l.count - l.counter) (element_at l.tag) l.reader) ≡ times_at l.count
    (element_at l.tag) l.fn.reader
