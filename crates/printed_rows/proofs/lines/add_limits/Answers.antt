use Rattle.std.proofs.Common.{ap}
use Rattle.serde_json.specs.Written.{has_float}
use Rattle.printed_rows.proofs.lines.add_limits.Goals as goal

-- the numbers have no sign
pub add_line-requires : goal.add_line-requires
add_line-requires c = ap has_float c.in_ok-say_limits.ensures
