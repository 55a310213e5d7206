use Rattle.std.proofs.Common.{◌∙◌, refl, sym, ap}
use Rattle.wire_core.specs.declared.links.Links.{Links}
use Rattle.script_wires.specs.Plays.{playing}
use Rattle.script_wires.specs.ScriptWires.{IsOver, is_alone}
use Rattle.script_wires.proofs.wires.ScriptWiresWires.connect.Goals as goal

pub returns-clause-stays : goal.returns-clause-stays
returns-clause-stays c = λ script over. IsOver.connects over (record {
  log = c.connect.ensures.log;
  playing = ap (λ (links : Links). playing c.args.self.now.play links) c.connect.ensures.links;
  refused = refl;
  alone = ap is_alone c.connect.ensures.asked ∙ sym (ap is_alone c.requires);
})
