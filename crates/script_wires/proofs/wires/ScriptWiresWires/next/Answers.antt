use Rattle.std.proofs.Common.{rules, refl, ap, inl}
use Rattle.wire_core.specs.declared.links.Links.{Links}
use Rattle.wire_core.specs.declared.outside.Happening.TheVariants.{Failed as fails}
use Rattle.script_wires.specs.declared.wires.ScriptWires.{ScriptWires}
use Rattle.script_wires.specs.Plays.{playing}
use Rattle.script_wires.specs.ScriptWires.{IsOver}
use Rattle.script_wires.proofs.WaitLaws.{HasWaited, next_over, refused_over}
use Rattle.script_wires.proofs.wires.ScriptWiresWires.next.Goals as goal

-- that the wait was counted changes nothing of the session
pub returns-in-Ok-clause-comes : goal.returns-in-Ok-clause-comes
returns-in-Ok-clause-comes c =
    let waited : ScriptWires = record c.args.self.now { journal = c.wait.new.self } in
    next_over c.args.self.now waited c.hear.new.self c.hear.new.buffer c.in-Ok.happening (record {
      log = c.wait.ensures.log;
      links = c.wait.ensures.links;
      kept = c.wait.ensures.kept;
      playing = ap (λ (links : Links). playing c.args.self.now.play links) c.wait.ensures.links;
      refused = refl;
    }) (inl c.in-Ok.ensures.ok)

pub returns-in-Ok-clause-stays : goal.returns-in-Ok-clause-stays
returns-in-Ok-clause-stays c = λ script over.
    IsOver.hears c.hear.new.buffer c.in-Ok.happening over (returns-in-Ok-clause-comes c)

pub returns-in-Err-clause-comes : goal.returns-in-Err-clause-comes
returns-in-Err-clause-comes c =
    let waited : ScriptWires = record c.args.self.now { journal = c.wait.new.self } in
    refused_over c.args.self.now waited c.hear.new.self c.refuse.new.self c.hear.new.buffer c.first-side.result (record {
      log = c.wait.ensures.log;
      links = c.wait.ensures.links;
      kept = c.wait.ensures.kept;
      playing = ap (λ (links : Links). playing c.args.self.now.play links) c.wait.ensures.links;
      refused = refl;
    }) c.in-Err.ensures.err c.in-Err.ensures.kept (Prim.search rules) c.refuse.ensures.refuses

pub returns-in-Err-clause-stays : goal.returns-in-Err-clause-stays
returns-in-Err-clause-stays c = λ script over.
    IsOver.hears c.hear.new.buffer (fails c.first-side.result) over (returns-in-Err-clause-comes c)
