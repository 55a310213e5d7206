use Rattle.std.proofs.Common.{◌<◌, ◌≤◌, length, subst, sym}
use Rattle.jdwp_packets.specs.Receiving.{Received}
use Rattle.target_server.specs.Hearing.{heard_end}
use Rattle.target_server.proofs.Cutting.{end_stays, fewer_taken}
use Rattle.target_server.proofs.hearing.next_command.Goals as goal

pub returns-clause-end : goal.returns-clause-end
returns-clause-end c =
    subst (λ (h : Received). heard_end h ≤ heard_end c.args.cutter.now) (sym c.take.follows.holds-at-none)
    (end_stays c.args.cutter.now)

pub returns-clause-fewer : goal.returns-clause-fewer
returns-clause-fewer c =
    subst (λ (h : Received). length h.stream.pending < length c.args.cutter.now.stream.pending)
    (sym c.take.follows.holds-at-none)
    (fewer_taken c.args.cutter.now c.in_ok-packet.field-0 c.in-Some.packet c.in_ok-packet.ensures.taken c.in-Some.is)
