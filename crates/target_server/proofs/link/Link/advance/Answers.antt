use Rattle.std.proofs.Common.{subst}
use Rattle.target_server.specs.Joints.{Joint, Advances}
use Rattle.target_server.specs.contracts.link.Link.{the_view}
use Rattle.target_server.proofs.Advancing.{advanced_so, with_these}
use Rattle.target_server.proofs.link.Link.advance.Goals.{in-Some-2, in-None-2}
use Rattle.target_server.proofs.link.Link.advance.Goals as goal

pub returns-in_ok-tell_if-in-Ok-clause-made : goal.returns-in_ok-tell_if-in-Ok-clause-made
returns-in_ok-tell_if-in-Ok-clause-made c = λ ok.
    let inside = the_view c.self.inside in
    let made = advanced_so inside c.in-Some.next.now c.make_move.new.self c.in-Ok.told c.pass.new.self
    c.tell_if.new.self c.in-Some.ensures c.in-Ok.ensures c.pass.ensures c.in_ok-tell_if-in-Ok.ensures.sent
    c.in_ok-tell_if-in-Ok.ensures.spelled in
    let there = with_these inside c.make_move.new.self c.pass.new.self c.tell_if.new.self in
    let now = subst (λ (j : Joint). Advances j there) c.self.view_is made in
    elim c.match-told-2.branch [
      | in-Some-2 w ↦ rw w.self-is now
      | in-None-2 w ↦ rw w.self-is now
    ]
