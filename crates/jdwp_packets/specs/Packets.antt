-- The target's stream: its greeting (JDWP, JDWP Start Up), and its packets (JDWP, JDWP Packets).
use Rattle.std.specs.Prelude.{◌≡◌, ◌≢◌, ℕ, ◌+◌, ◌^◌, ◌<◌, ◌≤◌, ◌||◌, ◌==◌, not, List, [], ◌∷◌, ◌++◌, length, take, drop}
use Rattle.std.specs.Prelude.{nat_lt, if◌then◌else◌, slice_index, codes}
use Rattle.std.specs.Int.{w16, w32, to_be_bytes, from_be_bytes}
use Rattle.wire_core.specs.Streams.{Front, waits, whole, faulty}
use Rattle.jdwp_packets.specs.declared.fault.PacketFault.{PacketFault}
use Rattle.jdwp_packets.specs.declared.fault.PacketFault.TheVariants.{BadHandshake, ShortLength, TooLong, BadFlags}

-- A command has an id, a command set, the number of the command in it, and data; a reply has the id of its command, an
-- error code, and data (JDWP, JDWP Packets, command packet and reply packet).
pub data Packet : Type 0 where
  command_packet : (id set number : ℕ) (body : List ℕ) → Packet
  reply_packet : (id error : ℕ) (body : List ℕ) → Packet

-- the bytes of a packet: length with the header, id, flags, then set and command or the error code, then the data
-- (JDWP, JDWP Packets)
abbrev pub packet_bytes : Packet → List ℕ
packet_bytes (command_packet id set number body) =
    to_be_bytes w32 (11 + length body) ++ to_be_bytes w32 id ++ (0 ∷ set ∷ number ∷ []) ++ body
packet_bytes (reply_packet id error body) =
    to_be_bytes w32 (11 + length body) ++ to_be_bytes w32 id ++ (128 ∷ []) ++ to_be_bytes w16 error ++ body

-- the numbers fit their fields, and a packet has at most 67,108,864 bytes
abbrev pub Fits : Packet → Type 0
Fits (command_packet id set number body) = (id < 2 ^ 32) × (set < 256) × (number < 256) × (length body ≤ 67108853)
Fits (reply_packet id error body) = (id < 2 ^ 32) × (error < 2 ^ 16) × (length body ≤ 67108853)

-- the length that the first four bytes say (JDWP, JDWP Packets, length)
abbrev pub size_of : List ℕ → ℕ
size_of bytes = from_be_bytes w32 (take 4 bytes)

-- the flags, the ninth byte (JDWP, JDWP Packets, flags)
abbrev pub flags_of : List ℕ → ℕ
flags_of bytes = slice_index bytes 8

-- the packet of just these bytes
abbrev pub packet_of : List ℕ → Packet
packet_of bytes =
    if flags_of bytes == 0 then command_packet (from_be_bytes w32 (take 4 (drop 4 bytes))) (slice_index bytes 9)
    (slice_index bytes 10) (drop 11 bytes)
    else reply_packet (from_be_bytes w32 (take 4 (drop 4 bytes))) (from_be_bytes w16 (take 2 (drop 9 bytes)))
    (drop 11 bytes)

-- The packet at the front of some bytes. A fault of the length is known once four bytes are there, one of the flags
-- once nine are, and it stands at the packet's first byte.
abbrev pub packet_front : List ℕ → Front Packet PacketFault
packet_front bytes =
    if nat_lt (length bytes) 4 then waits
    else if nat_lt (size_of bytes) 11 then faulty ShortLength 0
    else if nat_lt 67108864 (size_of bytes) then faulty TooLong 0
    else if nat_lt (length bytes) 9 then waits
    else if not ((flags_of bytes == 0) || (flags_of bytes == 128)) then faulty BadFlags 0
    else if nat_lt (length bytes) (size_of bytes) then waits
    else whole (packet_of (take (size_of bytes) bytes)) (size_of bytes)

-- The bytes begin with this packet, and it takes n of them.
pub record Begins (bytes : List ℕ) (packet : Packet) (n : ℕ) : Type 0 where
  pub rest : List ℕ
  pub parts : bytes ≡ packet_bytes packet ++ rest
  pub fits : Fits packet
  pub taken : n ≡ length (packet_bytes packet)

-- each is a byte
abbrev pub AreBytes : List ℕ → Type 0
AreBytes bytes = (i : ℕ) → slice_index bytes i < 256

-- the length of the packet that begins here is known, and a packet may have it
abbrev pub IsSized : List ℕ → Type 0
IsSized bytes = (4 ≤ length bytes) × (11 ≤ size_of bytes) × (size_of bytes ≤ 67108864)

-- what the debugger and the target send first (JDWP, JDWP Start Up)
abbrev pub handshake : List ℕ
handshake = codes "JDWP-Handshake"

-- the greeting at the front of some bytes, of which k were read already: a fault stands at the first byte that differs
abbrev pub greeting_from : ℕ → List ℕ → List ℕ → Front (Unit {0}) PacketFault
greeting_from k [] bytes = whole tt k
greeting_from k (h ∷ hs) [] = waits
greeting_from k (h ∷ hs) (b ∷ bs) = if b == h then greeting_from (k + 1) hs bs else faulty BadHandshake k

-- the greeting at the front of some bytes, of which none was read
abbrev pub greeting_front : List ℕ → Front (Unit {0}) PacketFault
greeting_front bytes = greeting_from 0 handshake bytes

-- the bytes begin with the greeting
abbrev pub IsGreeted : List ℕ → Type 0
IsGreeted bytes = (more : List ℕ) × (bytes ≡ handshake ++ more)

-- the bytes are the beginning of the greeting, and not all of it
abbrev pub IsGreetingPart : List ℕ → Type 0
IsGreetingPart bytes = (more : List ℕ) × (0 < length more) × (bytes ++ more ≡ handshake)

-- this byte is the first that isn't the greeting's
abbrev pub Differs : List ℕ → List ℕ → ℕ → Type 0
Differs text bytes place =
    (place < length text) × (place < length bytes) × (take place bytes ≡ take place text)
    × (slice_index bytes place ≢ slice_index text place)
