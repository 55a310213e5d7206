use Rattle.std.proofs.Common.{Bool, ap}
use Rattle.std.specs.Prelude.{Ok}
use Rattle.script_wires.specs.declared.play.Play.{Play}
use Rattle.script_wires.specs.Lines.{lines_left}
use Rattle.script_wires.specs.Plays.{playing}
use Rattle.script_wires.proofs.PlayLaws.{done_by, works_by}
use Rattle.script_wires.proofs.play.Play.settle.Goals as goal

pub returns-then-not-branch-clause-settles : goal.returns-then-not-branch-clause-settles
returns-then-not-branch-clause-settles c =
    let idle = ap (λ (b : Bool). Ok b) c.if-not-branch.true in
    done_by c.args.moving (playing c.args.self.now c.args.links) (playing c.give_first.new.self c.args.links)
    (playing c.work.new.self c.args.links) (lines_left c.pass.new.self) c.in-None.ensures.still c.in-None.ensures.same
    (c.in_ok-work-in-None.ensures.idle idle c.args.links)
    (ap (λ (p : Play). playing p c.args.links) (c.in_ok-work-in-None.ensures.same idle)) c.pass.ensures

pub returns-else-not-branch-clause-settles : goal.returns-else-not-branch-clause-settles
returns-else-not-branch-clause-settles c =
    let works = ap (λ (b : Bool). Ok b) c.if-not-branch.false in
    works_by c.args.moving _ (playing c.args.self.now c.args.links) (playing c.give_first.new.self c.args.links)
    (playing c.work.new.self c.args.links) c.in-None.ensures.still c.in-None.ensures.same
    (c.in_ok-work-in-None.ensures.works works c.args.links)
