use Rattle.std.proofs.Common.{rules, Ok, Err}
use Rattle.script_wires.specs.ScriptWires.{IsOver}
use Rattle.script_wires.proofs.wires.ScriptWiresWires.send.Goals as goal

pub returns-in-Ok-clause-stays : goal.returns-in-Ok-clause-stays
returns-in-Ok-clause-stays c = λ script over.
    IsOver.sends c.args.side c.args.bytes.now (Ok c.in-Ok.field-0) over c.in-Ok.ensures.ok

pub returns-in-Err-clause-stays : goal.returns-in-Err-clause-stays
returns-in-Err-clause-stays c = λ script over.
    IsOver.sends c.args.side c.args.bytes.now (Err (record {})) over (Prim.search rules)
