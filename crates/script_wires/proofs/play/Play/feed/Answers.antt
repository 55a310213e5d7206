use Rattle.std.proofs.Common.{subst}
use Rattle.target_server.specs.declared.trouble.TargetTrouble.{TargetTrouble}
use Rattle.target_server.specs.declared.trouble.TargetTrouble.TheVariants.{Packet, NotACommand, Body}
use Rattle.target_server.specs.Hearing.{IfSaid}
use Rattle.script_wires.specs.Plays.{playing}
use Rattle.script_wires.proofs.PlayLaws.{MayFeed, takes_in}
use Rattle.script_wires.proofs.play.Play.feed.Goals as goal

pub returns-in-Err-Packet : goal.returns-in-Err-Packet
returns-in-Err-Packet c = λ links.
    let e = c.in-Err-Packet in
    takes_in (playing c.args.self.now links) c.feed.new.self c.args.bytes.now (Packet e.field-0-0)
    (subst (λ (t : TargetTrouble). IfSaid (MayFeed c.args.self.now.target c.args.bytes.now c.feed.new.self) t)
    e.field-0-is e.ensures.err)
    (λ other is. (e.ensures.again other is).1)

pub returns-in-Err-NotACommand : goal.returns-in-Err-NotACommand
returns-in-Err-NotACommand c = λ links.
    let e = c.in-Err-NotACommand in
    takes_in (playing c.args.self.now links) c.feed.new.self c.args.bytes.now (NotACommand e.field-0-0)
    (subst (λ (t : TargetTrouble). IfSaid (MayFeed c.args.self.now.target c.args.bytes.now c.feed.new.self) t)
    e.field-0-is e.ensures.err)
    (λ other is. (e.ensures.again other is).1)

pub returns-in-Err-Body : goal.returns-in-Err-Body
returns-in-Err-Body c = λ links.
    let e = c.in-Err-Body in
    takes_in (playing c.args.self.now links) c.feed.new.self c.args.bytes.now (Body e.field-0-0 e.field-0-1)
    (subst (λ (t : TargetTrouble). IfSaid (MayFeed c.args.self.now.target c.args.bytes.now c.feed.new.self) t)
    e.field-0-is e.ensures.err)
    (λ other is. (e.ensures.again other is).1)
