use Rattle.std.proofs.Common.{◌≡◌, ◌++◌, take}
use Rattle.std.specs.List.{flat_map}
use Rattle.script_rows.specs.Printing.{data_of}
use Rattle.script_text.specs.Texts.{line_of}
use Rattle.printed_rows.proofs.lines.add_rows.Given as goal

-- the lines of the rows so far stand behind what was there
abbrev pub invariant-loop-row : goal.invariant-loop-row
invariant-loop-row g l =
    l.text ≡ l.fn.text ++ flat_map (λ row. line_of (data_of (g.T.ScriptRow.row_of row))) (take l.row-index l.rows)
