-- The lines of a summary: the name of each number, a space, and the number in decimal.
use Rattle.std.specs.Prelude.{ℕ, List, ◌++◌, codes, decimal}
use Rattle.session_summaries.specs.declared.summary.Summary.{Summary}

-- the line of a number
abbrev pub summary_line : List ℕ → ℕ → List ℕ
summary_line name number = name ++ (codes " " ++ (decimal number ++ codes "\n"))

-- all lines
abbrev pub summary_text : Summary → List ℕ
summary_text summary =
    summary_line (codes "requests") summary.requests ++ (
    summary_line (codes "responses") summary.responses ++ (
    summary_line (codes "events") summary.events ++ (
    summary_line (codes "stops") summary.stops ++
    summary_line (codes "sum") summary.sum)))
