use Rattle.script_wires.specs.Lines.{lines_left}
use Rattle.script_wires.specs.Plays.{playing}
use Rattle.wire_core.specs.Links.{is_open_in}
use Rattle.script_wires.proofs.PlayLaws.{serve_by, move_by, shut_by}
use Rattle.script_wires.proofs.WireLaws.{open_same}
use Rattle.script_wires.proofs.play.Play.step.Goals as goal

pub returns-in_ok-serve-in-Serve-clause-steps : goal.returns-in_ok-serve-in-Serve-clause-steps
returns-in_ok-serve-in-Serve-clause-steps c =
    serve_by (playing c.args.self.now c.args.links) (playing c.serve.new.self c.args.links) c.in-Some.line.now
    (lines_left c.pass-in-Serve.new.self) c.in-Serve.place c.in-Some.ensures c.in-Serve.is c.pass-in-Serve.ensures
    (c.in_ok-serve-in-Serve.ensures c.args.links)

pub returns-in_ok-advance-in-Move-clause-steps : goal.returns-in_ok-advance-in-Move-clause-steps
returns-in_ok-advance-in-Move-clause-steps c =
    move_by (playing c.args.self.now c.args.links) (playing c.advance.new.self c.args.links) c.in-Some.line.now
    (lines_left c.pass-in-Move.new.self) c.in-Some.ensures c.in-Move.is c.pass-in-Move.ensures
    (c.in_ok-advance-in-Move.ensures c.args.links)

pub returns-in-Shut-clause-steps : goal.returns-in-Shut-clause-steps
returns-in-Shut-clause-steps c =
    shut_by (playing c.args.self.now c.args.links) c.in-Some.line.now (lines_left c.pass-in-Shut.new.self)
    c.in-Shut.side (is_open_in c.args.links c.in-Shut.side) _ c.in-Some.ensures c.in-Shut.is c.pass-in-Shut.ensures
    (open_same c.in-Shut.side c.args.self.now c.args.links) (c.end_of.ensures.entry c.args.buffer.now)
