use Rattle.std.proofs.Common.{◌≡◌, true, false}
use Rattle.dap_messages.proofs.Readings.{IsReading-value, reading_of-not_json}
use Rattle.dap_messages.proofs.read.read_request.Goals as goal

pub returns-in-Ok : goal.returns-in-Ok
returns-in-Ok c =
    IsReading-value _ _ c.incoming.result c.in-Ok.ensures.ok.0 c.in-Ok.ensures.ok.1 c.incoming.ensures

pub returns-else-is_memory : goal.returns-else-is_memory
returns-else-is_memory c =
    reading_of-not_json _ (c.in-Err.ensures.err
    λ memory. let other : false ≡ true = c.if-is_memory.ensures.1 memory in cc)
