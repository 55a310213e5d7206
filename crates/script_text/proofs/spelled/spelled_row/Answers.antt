use Rattle.std.proofs.Common.{Ok, sym, ap, ◌∙◌}
use Rattle.wire_core.specs.declared.outside.Entry.{Entry as Logged}
use Rattle.script_text.specs.declared.rows.Row.TheVariants.{Entry}
use Rattle.script_text.proofs.SpelledLaws.{at_some, row_in-spelled}
use Rattle.script_text.proofs.spelled.spelled_row.Goals as goal

pub returns-in-Some-2 : goal.returns-in-Some-2
returns-in-Some-2 c =
    let is = at_some _ _ _ c.in_ok-bytes.ensures c.in-Some-2.is in
    row_in-spelled c.in-Some.parts.way c.in-Some.parts.side c.in-Some-2.bytes _ _ is.0 is.1 c.in-Some.ensures
    ∙ ap (λ (entry : Logged). Ok (Entry entry)) (sym c.entry_of.ensures)
