use Rattle.std.proofs.Common.{OnOk, sym, subst}
use Rattle.wire_core.specs.declared.links.Links.{Links}
use Rattle.wire_core.specs.declared.outside.Side.{Side}
use Rattle.script_wires.specs.Played.{SendsTo}
use Rattle.script_wires.specs.Plays.{playing}
use Rattle.script_wires.proofs.play.Play.take_in.Goals as goal

pub returns-in-Target : goal.returns-in-Target
returns-in-Target c =
    subst (λ (side : Side). OnOk c.feed.result ((links : Links)
    → SendsTo side (playing c.args.self.now links) c.args.bytes.now (playing c.feed.new.self links)))
    (sym c.in-Target.is) c.feed.ensures
