use Rattle.std.proofs.Common.{ap, ◌∙◌}
use Rattle.serde_json.specs.Written.{has_float}
use Rattle.script_rows.proofs.PlainLaws.{row_has_no_float}
use Rattle.printed_rows.proofs.lines.add_row.Goals as goal

pub add_line-requires : goal.add_line-requires
add_line-requires g c =
    ap has_float c.in_ok-say.ensures.value ∙ row_has_no_float _ c.in_ok-say.ensures.plain
