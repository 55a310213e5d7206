-- a whole packet, its size being what the first four bytes say
use Rattle.std.proofs.Common.{◌≡◌, ◌≤◌, true, sym, subst, ◌∙◌, ℕ, length, take, arith}
use Rattle.wire_core.specs.Streams.{whole}
use Rattle.jdwp_packets.specs.Packets.{size_of, flags_of, packet_of, packet_front, IsSized}
use Rattle.jdwp_packets.proofs.Fronts.{front-whole, has_kind}
use Rattle.jdwp_packets.proofs.front.packet.Goals as goal

pub returns : goal.returns
returns c =
    let size : c.u32_at-size.result ≡ size_of c.args.bytes.now = c.u32_at-size.ensures in
    let kind : has_kind (flags_of c.args.bytes.now) ≡ true = sym c.has_kind.ensures ∙ c.if-not-has_kind.false in
    let sized : IsSized c.args.bytes.now = (c.if-bytes-lt4.false, omega arith, omega arith) in
    let here : size_of c.args.bytes.now ≤ length c.args.bytes.now = omega arith in (
      subst (λ (n : ℕ). packet_front c.args.bytes.now ≡ whole (packet_of (take n c.args.bytes.now)) n) (sym size)
          (front-whole c.args.bytes.now sized kind here),
      c.if-size-lt-HEADER.false,
      c.if-bytes-size.false,
    )
