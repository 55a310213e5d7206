use Rattle.std.proofs.Common.{◌≡◌, true, false}
use Rattle.dump_client.proofs.MessageLaws.{value_none, value_utf8}
use Rattle.dump_client.proofs.messages.value_in.Goals as goal

pub returns-in-Ok : goal.returns-in-Ok
returns-in-Ok c = value_utf8 c.args.text.now _ c.in-Ok.ensures.ok.0 c.in-Ok.ensures.ok.1

pub returns-else-is_memory : goal.returns-else-is_memory
returns-else-is_memory c =
    value_none c.args.text.now (c.in-Err.ensures.err
    λ memory. let other : false ≡ true = c.if-is_memory.ensures.1 memory in cc)
