use Rattle.std.proofs.Common.{◌∙◌}
use Rattle.dap_messages.proofs.Tellings.{told_text-compact}
use Rattle.dap_messages.proofs.write.text_of.Goals as goal

pub returns : goal.returns
returns c =
    c.from_vec.ensures ∙ told_text-compact _ c.args.told.now _ _ c.in_ok-value.ensures c.in_ok-text.ensures.text
