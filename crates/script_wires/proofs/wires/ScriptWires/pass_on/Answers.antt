use Rattle.std.proofs.Common.{refl, sym, subst}
use Rattle.wire_core.specs.declared.links.Links.{Links}
use Rattle.script_wires.specs.Played.{SendsTo}
use Rattle.script_wires.specs.Plays.{playing}
use Rattle.script_wires.proofs.wires.ScriptWires.pass_on.Goals as goal

pub returns-clause-ok : goal.returns-clause-ok
returns-clause-ok c =
    let old = c.args.self.now in
    record {
      sends = subst (λ (links : Links). SendsTo c.args.side (playing old.play old.journal.links) c.args.bytes.now
          (playing c.take_in.new.self links)) (sym c.send.ensures.kept)
          (c.in_ok-take_in.ensures old.journal.links);
      log = c.in_ok-send.ensures.log;
      links = c.in_ok-send.ensures.links;
      refused = refl;
    }
