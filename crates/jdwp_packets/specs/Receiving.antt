-- What a target has sent: a greeting, and then packets.
use Rattle.std.specs.Prelude.{◌≡◌, ℕ, Bool, true, false, List, [], ◌∷◌, ◌++◌}
use Rattle.wire_core.specs.Streams.{Front, waits, whole, faulty, Uncut, uncut, fed, past, left, Hands}
use Rattle.jdwp_packets.specs.declared.fault.PacketFault.{PacketFault}
use Rattle.jdwp_packets.specs.Packets.{Packet, packet_front, greeting_front, handshake}

-- Whether the greeting came, and what was fed and not handed out; the greeting is handed out as soon as it is there.
pub record Received : Type 0 where
  pub greeted : Bool
  pub stream : Uncut

-- nothing came yet
abbrev pub nothing_received : Received
nothing_received = record { greeted = false; stream = uncut }

-- the greeting is taken where all of it stands at the front
abbrev pub greeted_by : Front (Unit {0}) PacketFault → Uncut → Received
greeted_by waits stream = record { greeted = false; stream = stream }
greeted_by (whole greeting n) stream = record { greeted = true; stream = past stream n }
greeted_by (faulty fault place) stream = record { greeted = false; stream = stream }

-- with the next piece
abbrev pub received : Received → List ℕ → Received
received old piece = by old.greeted
  where
    by : Bool → Received
    by true = record { greeted = true; stream = fed old.stream piece }
    by false = greeted_by (greeting_front (old.stream.pending ++ piece)) (fed old.stream piece)

-- before the greeting no packet stands at the front: a fault of the greeting does, or nothing
abbrev pub before_greeting : Front (Unit {0}) PacketFault → Front Packet PacketFault
before_greeting waits = waits
before_greeting (whole greeting n) = waits
before_greeting (faulty fault place) = faulty fault place

-- what stands at the front of what came
abbrev pub received_front : Bool → List ℕ → Front Packet PacketFault
received_front true bytes = packet_front bytes
received_front false bytes = before_greeting (greeting_front bytes)

-- what is left once it was taken
abbrev pub left_behind : Received → Received
left_behind old =
    record { greeted = old.greeted; stream = left (received_front old.greeted old.stream.pending) old.stream }

-- Of these bytes, all that came, these packets were handed out, each with its offset, and this is left.
abbrev pub HandsOut : List ℕ → List (ℕ × Packet) → Bool → Uncut → Type 0
HandsOut bytes packets true stream =
    (more : List ℕ) × (bytes ≡ handshake ++ more) × Hands packet_front (record { at = 14; pending = more }) packets
    stream
HandsOut bytes packets false stream = (packets ≡ []) × (stream ≡ record { at = 0; pending = bytes })

-- what a take hands out, by what stands at the front
abbrev pub handed : Front Packet PacketFault → ℕ → List (ℕ × Packet)
handed waits at = []
handed (whole packet n) at = (at, packet) ∷ []
handed (faulty fault place) at = []
