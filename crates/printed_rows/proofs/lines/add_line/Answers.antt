use Rattle.std.proofs.Common.{ap, ◌∙◌}
use Rattle.serde_json.specs.Written.{has_float, compact_text}
use Rattle.script_text.proofs.LineLaws.{line_added}
use Rattle.printed_rows.proofs.lines.add_line.Goals as goal

pub returns : goal.returns
returns c =
    line_added _ c.extend_from_slice.new.self _ _ _
    (rw c.as_slice.ensures.value at c.in_ok-extend_from_slice.ensures.ok)
    (c.in_ok-line.ensures.text (ap has_float c.array-value.ensures ∙ c.requires)
    ∙ ap compact_text c.array-value.ensures)
    c.in_ok-push.ensures.ok
