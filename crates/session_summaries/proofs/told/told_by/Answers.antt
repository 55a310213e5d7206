use Rattle.std.proofs.Common.{◌≡◌, ◌∙◌, true, false, IfOk, sym, subst}
use Rattle.session_summaries.proofs.TellLaws.{told_utf8, told_none}
use Rattle.session_summaries.proofs.told.told_by.Goals as goal

pub returns-in-Ok : goal.returns-in-Ok
returns-in-Ok c =
    subst (λ told. IfOk c.told_of.result (λ one. one ≡ told))
    (sym (told_utf8 c.args.body.now _ c.in-Ok.ensures.ok.0 c.in-Ok.ensures.ok.1)) c.told_of.ensures

pub returns-else-is_memory : goal.returns-else-is_memory
returns-else-is_memory c =
    c.none_told.ensures ∙ sym (told_none c.args.body.now (c.in-Err.ensures.err
    λ memory. let other : false ≡ true = c.if-is_memory.ensures.1 memory in cc))
