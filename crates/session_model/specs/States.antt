-- Where a session stands: in the bytes of its two sides, in the machine, and in its waits.
use Rattle.std.specs.Prelude.{ℕ, Bool, false, is_some}
use Rattle.jdwp_packets.specs.Packets.{Packet}
use Rattle.jdwp_packets.specs.Receiving.{Received, nothing_received, received_front}
use Rattle.jdwp_packets.specs.declared.fault.PacketFault.{PacketFault}
use Rattle.machine_model.specs.Due.{Due, due}
use Rattle.machine_model.specs.State.{Machine, fresh}
use Rattle.pending_table.specs.Windows.{Window, id_of, pending_under}
use Rattle.pending_table.specs.Windows.{fresh as unsent}
use Rattle.wire_core.specs.Streams.{Front, Uncut, past, uncut}

-- Where a session stands in the bytes of its two sides: how many messages the client was told, and the client's bytes
-- that are not cut into frames yet; the same of the target's bytes and packets, and whether the end of its stream came
-- and wasn't taken up yet; and the commands that have no reply yet, with their ids.
pub record StreamState : Type 0 where
  pub told : ℕ
  pub client : Uncut
  pub target : Received
  pub ended : Bool
  pub commands : Window

-- before anything came
abbrev pub no_bytes : StreamState
no_bytes =
    record { told = 0; client = uncut; target = nothing_received; ended = false; commands = unsent }

-- the target's packets are cut on
abbrev pub past_packet : StreamState → ℕ → StreamState
past_packet streams n =
    record streams { target = record streams.target { stream = past streams.target.stream n } }

-- what stands at the front of the target's bytes
abbrev pub target_front : StreamState → Front Packet PacketFault
target_front streams = received_front streams.target.greeted streams.target.stream.pending

-- Where a session stands while it goes on: the machine, the bytes, and how many waits in a row were in vain.
pub record SessionState : Type 0 where
  pub machine : Machine
  pub streams : StreamState
  pub quiets : ℕ

-- the beginning of a session
abbrev pub start : SessionState
start = record { machine = fresh; streams = no_bytes; quiets = 0 }

-- the next command's id is that of one which has no reply yet (JDWP, JDWP Packets, id)
abbrev pub id_pending : Window → Bool
id_pending window = is_some (pending_under (id_of window.next) window.sent)

-- what is due
abbrev pub due_now : SessionState → Due
due_now s = due (id_pending s.streams.commands) s.machine
