use Rattle.std.proofs.Common.{[], refl, ap}
use Rattle.wire_core.specs.declared.outside.Side.TheVariants.{Client}
use Rattle.wire_core.specs.declared.outside.Happening.TheVariants.{Shut}
use Rattle.script_wires.specs.ScriptWires.{IsOver, is_alone}
use Rattle.script_wires.proofs.WireLaws.{closes_by}
use Rattle.script_wires.proofs.wires.ScriptWiresWires.reach.Goals as goal

pub returns-clause-stays : goal.returns-clause-stays
returns-clause-stays c = λ script over. IsOver.reaches over (record {
  log = c.reach.ensures.log;
  playing = closes_by c.args.self.now.play c.args.self.now.journal.links c.reach.new.self.links [] (Shut Client)
      c.reach.ensures.client c.reach.ensures.same;
  refused = refl;
  was_none = c.requires;
  alone = ap is_alone c.reach.ensures.asked;
})
