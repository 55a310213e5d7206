-- What a cutter finds and answers.
use Rattle.std.specs.Prelude.{◌≡◌, ℕ, ◌+◌, ◌≤◌, List, length, take, Ok, Err, None, Option, Result, IsOkAnd, IsSomeAnd}
use Rattle.wire_core.specs.Streams.{Front, waits, whole, faulty}
use Rattle.jdwp_packets.specs.declared.fault.PacketFault.{PacketFault}
use Rattle.jdwp_packets.specs.declared.front.Found.{Found}
use Rattle.jdwp_packets.specs.declared.front.Found.TheVariants.{Waits, Whole, Refused}
use Rattle.jdwp_packets.specs.declared.fault.PacketTrouble.{PacketTrouble}
use Rattle.jdwp_packets.specs.declared.cutter.Packet.{Packet as OnePacket}
use Rattle.jdwp_packets.specs.declared.cutter.Packet.TheVariants.{Command, Reply}
use Rattle.jdwp_packets.specs.Packets.{Packet, packet_of, command_packet, reply_packet}
use Rattle.jdwp_packets.specs.Receiving.{Received, received_front}

-- what was found is what stands at the front of these bytes
abbrev pub IsFound : Found → Front Packet PacketFault → List ℕ → Type 0
IsFound Waits front bytes = front ≡ waits
IsFound (Whole size) front bytes =
    (front ≡ whole (packet_of (take size bytes)) size) × (11 ≤ size) × (size ≤ length bytes)
IsFound (Refused fault behind) front bytes = (front ≡ faulty fault behind) × (behind ≤ length bytes)

-- the same of the greeting
abbrev pub IsGreeting : Found → Front (Unit {0}) PacketFault → ℕ → Type 0
IsGreeting Waits front length = front ≡ waits
IsGreeting (Whole size) front length = (front ≡ whole tt size) × (size ≤ length)
IsGreeting (Refused fault behind) front length = (front ≡ faulty fault behind) × (behind ≤ length)

-- a packet that is handed out, with its offset, is this one
abbrev pub Shows : OnePacket → ℕ → Packet → Type 0
Shows (Command at id set number body) offset packet = (at ≡ offset) × (packet ≡ command_packet id set number body.now)
Shows (Reply at id error body) offset packet = (at ≡ offset) × (packet ≡ reply_packet id error body.now)

-- a packet and its offset, nothing, or a fault with its offset, by what stands at the front
abbrev pub IsAnswer : Front Packet PacketFault → ℕ → Result (Option OnePacket) PacketTrouble → Type 0
IsAnswer waits at result = result ≡ Ok None
IsAnswer (whole packet n) at result = IsOkAnd result (λ found. IsSomeAnd found (λ shown. Shows shown at packet))
IsAnswer (faulty fault behind) at result = result ≡ Err (record { fault = fault; at = at + behind })

-- the answer of a cutter that received this
abbrev pub IsTaken : Received → Result (Option OnePacket) PacketTrouble → Type 0
IsTaken old result = IsAnswer (received_front old.greeted old.stream.pending) old.stream.at result
