-- What a target sends: its handshake, replies and events, and in which order they go on their way (JDWP, JDWP Start Up;
-- JDWP, JDWP Packets).
use Rattle.std.specs.Prelude.{ℕ, ◌+◌, ◌≤◌, nat_le, Bool, false, true, if◌then◌else◌, List, [], ◌++◌, length, drop}
use Rattle.std.specs.Prelude.{Option, Some, None}
use Rattle.jdwp_values.specs.declared.sizes.IdSizes.{IdSizes}
use Rattle.jdwp_events.specs.declared.composite.Composite.{Composite}
use Rattle.jdwp_events.specs.Composites.{spell_composite, FitsComposite}
use Rattle.jdwp_commands.specs.declared.asked.Replied.{Replied}
use Rattle.jdwp_commands.specs.declared.asked.Replied.TheVariants as replies
use Rattle.jdwp_commands.specs.Answers.{spell_answer, FitsAnswer}
use Rattle.jdwp_packets.specs.Packets.{Packet, command_packet, reply_packet, packet_bytes, handshake}

-- What is on its way to the debugger: whether the target sent its handshake, the id of its next event packet, packets
-- that wait for the handshake, and the bytes that go out next.
pub record Flight : Type 0 where
  pub greeted : Bool
  pub next_id : ℕ
  pub held : List ℕ
  pub bytes : List ℕ

-- nothing was sent yet
abbrev pub nothing_sent : Flight
nothing_sent = record { greeted = false; next_id = 1; held = []; bytes = [] }

-- bytes go behind all that is on its way; before the handshake they wait for it
abbrev pub sent : List ℕ → Flight → Flight
sent bytes f =
    if f.greeted then record f { bytes = f.bytes ++ bytes } else record f { held = f.held ++ bytes }

-- the handshake goes on its way, and what waited for it follows at the end (JDWP, JDWP Start Up)
abbrev pub shaken : Flight → Flight
shaken f = record f { greeted = true; bytes = f.bytes ++ handshake }

abbrev pub released : Flight → Flight
released f = record f { held = []; bytes = f.bytes ++ f.held }

-- how many bytes go out where there is room for so many
abbrev pub count_out : ℕ → Flight → ℕ
count_out room f = if nat_le room (length f.bytes) then room else length f.bytes

-- so many bytes went out
abbrev pub gone : ℕ → Flight → Flight
gone n f = record f { bytes = drop n f.bytes }

-- Replies ------------------------------------------------------------------------------------------------------------

-- the longest data of a packet behind its header
abbrev pub longest : ℕ
longest = 67108853

-- the packet of a reply; that of an error has no data (JDWP, JDWP Packets, reply packet)
abbrev pub packet_of_reply : IdSizes → ℕ → Replied → Packet
packet_of_reply sizes id (replies.Answer answer) = reply_packet id 0 (spell_answer sizes answer)
packet_of_reply sizes id (replies.Error code) = reply_packet id code []

-- the reply has a spelling, which a packet has room for
abbrev pub CanReply : IdSizes → Replied → Type 0
CanReply sizes (replies.Answer answer) = FitsAnswer sizes answer × (length (spell_answer sizes answer) ≤ longest)
CanReply sizes (replies.Error code) = Unit {0}

-- the command with this id is replied to
abbrev pub replied : IdSizes → ℕ → Replied → Flight → Flight
replied sizes id reply = sent (packet_bytes (packet_of_reply sizes id reply))

-- Events -------------------------------------------------------------------------------------------------------------

-- the packet of a composite (JDWP, Event command set, Composite)
abbrev pub packet_of_events : IdSizes → ℕ → Composite → Packet
packet_of_events sizes id composite = command_packet id 64 100 (spell_composite sizes composite)

-- the composite has a spelling, which a packet has room for
abbrev pub CanTell : IdSizes → Composite → Type 0
CanTell sizes composite = FitsComposite sizes composite × (length (spell_composite sizes composite) ≤ longest)

-- the id behind an id, which has 32 bits: behind the last comes 0 (JDWP, JDWP Packets, id)
abbrev pub id_behind : ℕ → ℕ
id_behind id = if nat_le 4294967295 id then 0 else id + 1

-- a composite is told under the next id
abbrev pub told : IdSizes → Composite → Flight → Flight
told sizes composite f =
    sent (packet_bytes (packet_of_events sizes f.next_id composite)) (record f { next_id = id_behind f.next_id })

-- the same of a composite that there may be
abbrev pub told_if : IdSizes → Option Composite → Flight → Flight
told_if sizes None f = f
told_if sizes (Some composite) f = told sizes composite f

abbrev pub CanTellIf : IdSizes → Option Composite → Type 0
CanTellIf sizes None = Unit {0}
CanTellIf sizes (Some composite) = CanTell sizes composite
