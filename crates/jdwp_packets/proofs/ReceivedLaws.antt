-- What a target sent, however it came: its greeting, and then the packets that were handed out, and a rest.
use Rattle.std.proofs.Common.{◌≡◌, ℕ, ◌+◌, ◌≤◌, Bool, true, false, List, [], ◌∷◌, ◌++◌, length, drop, refl, sym, ap}
use Rattle.std.proofs.Common.{subst, ◌∙◌, arith, append_assoc}
use Rattle.std.proofs.lemmas.List.{append-nil, drop_at, length-append, length-drop}
use Rattle.wire_core.specs.Streams.{Front, waits, whole, faulty, Uncut, fed, past, left, Hands}
use Rattle.wire_core.proofs.StreamLaws.{Hands-fed, Hands-append, left_size}
use Rattle.jdwp_packets.specs.declared.fault.PacketFault.{PacketFault}
use Rattle.jdwp_packets.specs.Packets.{Packet, packet_front, greeting_front, handshake}
use Rattle.jdwp_packets.specs.Receiving.{Received, received, greeted_by, before_greeting, received_front, left_behind}
use Rattle.jdwp_packets.specs.Receiving.{HandsOut, handed}
use Rattle.jdwp_packets.proofs.Greetings.{greeted-is}
use Rattle.jdwp_packets.proofs.PacketLaws.{packet-steady}

-- A piece adds to what came, and hands out nothing.
pub received-kept : (bytes : List ℕ) (packets : List (ℕ × Packet)) (greeted : Bool) (stream : Uncut) (piece : List ℕ)
    → HandsOut bytes packets greeted stream
    → HandsOut (bytes ++ piece) packets (received (record { greeted = greeted; stream = stream }) piece).greeted
    (received (record { greeted = greeted; stream = stream }) piece).stream
received-kept bytes packets true stream piece (more, parts, hands) = (
  more ++ piece,
  ap (λ (l : List ℕ). l ++ piece) parts ∙ append_assoc handshake more piece,
  Hands-fed packet_front packet-steady (record { at = 14; pending = more }) packets stream piece hands,
)
received-kept bytes packets false stream piece (none, same) = by (greeting_front (stream.pending ++ piece)) refl
  where
    pending : stream.pending ++ piece ≡ bytes ++ piece
    pending = ap (λ (u : Uncut). u.pending ++ piece) same

    start : fed stream piece ≡ record { at = 0; pending = bytes ++ piece }
    start = ap (λ (u : Uncut). fed u piece) same

    by : (g : Front (Unit {0}) PacketFault) → greeting_front (stream.pending ++ piece) ≡ g
        → HandsOut (bytes ++ piece) packets (greeted_by g (fed stream piece)).greeted
        (greeted_by g (fed stream piece)).stream
    by waits e = (none, start)
    by (whole greeting n) e =
        let g = greeted-is 0 handshake (stream.pending ++ piece) n e in
        let n-is : n ≡ 14 = g.0 ∙ omega arith in
        let parts : bytes ++ piece ≡ handshake ++ g.1 = sym pending ∙ g.2 in
        let rest : drop n (bytes ++ piece) ≡ g.1 = ap (drop n) parts ∙ drop_at handshake g.1 n (sym n-is) in (
          g.1,
          parts,
          subst (λ (ps : List (ℕ × Packet)). Hands packet_front (record { at = 14; pending = g.1 }) ps
              (past (fed stream piece) n)) (sym none)
              (ap (λ (u : Uncut). past u n) start
              ∙ ap (λ (k : ℕ). record { at = k; pending = drop n (bytes ++ piece) }) (omega arith)
              ∙ ap (λ (l : List ℕ). record { at = 14; pending = l }) rest),
        )
    by (faulty f d) e = (none, start)

-- A take hands out what stands at the front.
pub taken-kept : (bytes : List ℕ) (packets : List (ℕ × Packet)) (greeted : Bool) (stream : Uncut)
    → HandsOut bytes packets greeted stream
    → HandsOut bytes (packets ++ handed (received_front greeted stream.pending) stream.at) greeted
    (left (received_front greeted stream.pending) stream)
taken-kept bytes packets true stream (more, parts, hands) = (more, parts, by (packet_front stream.pending) refl)
  where
    by : (f : Front Packet PacketFault) → packet_front stream.pending ≡ f
        → Hands packet_front (record { at = 14; pending = more }) (packets ++ handed f stream.at) (left f stream)
    by waits e =
        subst (λ (ps : List (ℕ × Packet)). Hands packet_front (record { at = 14; pending = more }) ps stream)
        (sym (append-nil packets)) hands
    by (whole p n) e =
        Hands-append packet_front (record { at = 14; pending = more }) packets stream ((stream.at, p) ∷ [])
        (past stream n) hands (n, e, refl, refl)
    by (faulty f d) e =
        subst (λ (ps : List (ℕ × Packet)). Hands packet_front (record { at = 14; pending = more }) ps stream)
        (sym (append-nil packets)) hands
taken-kept bytes packets false stream (none, same) = by (greeting_front stream.pending)
  where
    by : (g : Front (Unit {0}) PacketFault)
        → HandsOut bytes (packets ++ handed (before_greeting g) stream.at) false (left (before_greeting g) stream)
    by waits = (append-nil packets ∙ none, same)
    by (whole greeting n) = (append-nil packets ∙ none, same)
    by (faulty f d) = (append-nil packets ∙ none, same)

-- as many bytes were fed as before, and the piece
pub received_size : (r : Received) (piece : List ℕ)
    → (received r piece).stream.at + length (received r piece).stream.pending ≡ r.stream.at + length r.stream.pending +
    length piece
received_size r piece = by r.greeted
  where
    kept : r.stream.at + length (r.stream.pending ++ piece) ≡ r.stream.at + length r.stream.pending + length piece
    kept = omega (arith, length-append r.stream.pending piece)

    moved : (n : ℕ) → n ≤ length (r.stream.pending ++ piece)
        → r.stream.at + n + length (drop n (r.stream.pending ++ piece)) ≡ r.stream.at + length r.stream.pending + length
        piece
    moved n inside = omega (arith, length-drop n (r.stream.pending ++ piece), length-append r.stream.pending piece)

    before : (g : Front (Unit {0}) PacketFault) → greeting_front (r.stream.pending ++ piece) ≡ g
        → (greeted_by g (fed r.stream piece)).stream.at + length (greeted_by g (fed r.stream piece)).stream.pending
        ≡ r.stream.at + length r.stream.pending + length piece
    before waits e = kept
    before (whole greeting n) e =
        let g = greeted-is 0 handshake (r.stream.pending ++ piece) n e in
        moved n (omega (arith, g.0, ap length g.2, length-append handshake g.1))
    before (faulty f d) e = kept

    by : (greeted : Bool)
        → (received (record { greeted = greeted; stream = r.stream }) piece).stream.at
        + length (received (record { greeted = greeted; stream = r.stream }) piece).stream.pending
        ≡ r.stream.at + length r.stream.pending + length piece
    by true = kept
    by false = before (greeting_front (r.stream.pending ++ piece)) refl

-- and after a take just as many
pub left_behind_size : (r : Received)
    → (left_behind r).stream.at + length (left_behind r).stream.pending ≡ r.stream.at + length r.stream.pending
left_behind_size r = by r.greeted
  where
    before : (g : Front (Unit {0}) PacketFault)
        → (left (before_greeting g) r.stream).at + length (left (before_greeting g) r.stream).pending ≡ r.stream.at +
        length r.stream.pending
    before waits = refl
    before (whole greeting n) = refl
    before (faulty f d) = refl

    by : (greeted : Bool)
        → (left (received_front greeted r.stream.pending) r.stream).at + length
        (left (received_front greeted r.stream.pending) r.stream).pending
        ≡ r.stream.at + length r.stream.pending
    by true = left_size packet_front packet-steady r.stream
    by false = before (greeting_front r.stream.pending)
