use Rattle.std.proofs.Common.{refl, subst}
use Rattle.wire_core.specs.declared.links.Links.{Links}
use Rattle.wire_core.specs.Outside.{entry_of}
use Rattle.script_wires.specs.Plays.{playing}
use Rattle.script_wires.specs.Schedules.{Reaches}
use Rattle.script_wires.proofs.WireLaws.{comes_by}
use Rattle.script_wires.proofs.wires.ScriptWires.hear.Goals as goal

pub returns-clause-ok : goal.returns-clause-ok
returns-clause-ok c =
    let old = c.args.self.now in
    let happening = c.in_ok-happening.happening in
    record {
      comes = comes_by old.play c.next.new.self old.journal c.hear.new.self c.next.new.buffer happening
          (subst (λ (links : Links). Reaches (playing old.play links) (entry_of c.next.new.buffer happening)
          (playing c.next.new.self links)) c.links-links.ensures c.in_ok-happening.ensures.reaches)
          c.in_ok-hear.ensures.links;
      log = c.in_ok-hear.ensures.log;
      links = c.in_ok-hear.ensures.links;
      refused = refl;
    }
