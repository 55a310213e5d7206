use Rattle.std.proofs.Common.{◌≡◌, true, false}
use Rattle.ask_texts.proofs.LineLaws.{row_in-not_utf8, row_in-not_json, IsLine-value}
use Rattle.ask_texts.proofs.read.row_in.Goals as goal

pub returns-in_default : goal.returns-in_default
returns-in_default c = row_in-not_utf8 _ c.in_default.ensures.cases.0

pub returns-in-Ok-from_str : goal.returns-in-Ok-from_str
returns-in-Ok-from_str c =
    IsLine-value _ _ _ c.shaped.result c.in-Ok.ensures.cases.0 c.in-Ok.ensures.cases.1
    c.in-Ok-from_str.ensures.ok c.shaped.ensures

pub returns-else-is_memory : goal.returns-else-is_memory
returns-else-is_memory c =
    row_in-not_json _ _ c.in-Ok.ensures.cases.0 c.in-Ok.ensures.cases.1 (c.in-Err.ensures.err
    λ memory. let other : false ≡ true = c.if-is_memory.ensures.1 memory in cc)
