use Rattle.std.proofs.Common.{◌≡◌, ◌-◌}
use Rattle.jdwp_values.specs.Rows.{times_at}
use Rattle.jdwp_values.proofs.Times.{with_front}
use Rattle.jdwp_values.proofs.row.read_times.Given as goal

abbrev pub invariant-loop : goal.invariant-loop
invariant-loop g l =
    with_front l.items (times_at (l.count - l.counter) g.T.Row.read_at l.reader) ≡ times_at l.count g.T.Row.read_at
    l.fn.reader
