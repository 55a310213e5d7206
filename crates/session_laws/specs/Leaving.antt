-- How a target is left where a session ends: one that is attached runs on.
use Rattle.std.specs.Prelude.{ℕ, ◌≡◌, ◌<◌, ◌∷◌, Bool, true, false, List, [], length, take}
use Rattle.jdwp_packets.specs.Packets.{command_packet, packet_bytes}
use Rattle.machine_model.specs.State.{is_attached}
use Rattle.pending_table.specs.Windows.{id_of}
use Rattle.session_laws.specs.Bytes.{went_to}
use Rattle.session_model.specs.Names.{BadClient, BadTarget, Client, ClientLink, Done, Ending, Entry, Flood, Idle, Left}
use Rattle.session_model.specs.Names.{NoMemory, Out, Phase, Spent, Target, TargetLink, TargetRefused}
use Rattle.session_laws.specs.Responses.{tells_client}
use Rattle.session_model.specs.Session.{EndedState}
use Rattle.wire_core.specs.Outside.{broken_send}

-- A target is to run on: it is attached, and the session ends by its client, whose stream has ended, whose bytes have a
-- fault, or whose link has failed; by a limit; or by a command that the target refused. After other endings it was left
-- before, or is lost.
abbrev pub must_run_on : Ending → Phase → Bool
must_run_on Left phase = is_attached phase
must_run_on (BadClient fault at) phase = is_attached phase
must_run_on ClientLink phase = is_attached phase
must_run_on (TargetRefused set command code) phase = is_attached phase
must_run_on Idle phase = is_attached phase
must_run_on Spent phase = is_attached phase
must_run_on Flood phase = is_attached phase
must_run_on Done phase = false
must_run_on (BadTarget fault at id) phase = false
must_run_on TargetLink phase = false
must_run_on NoMemory phase = false

-- These entries let a target run on by this packet: it is sent, whole, and nothing behind it. Or that send fails, and
-- less than the whole of it is sent. Where the ending is told to the client, what is told comes first; where a send of it
-- fails, nothing more is sent.
pub data LetsRunOn (packet : List ℕ) (tells : Bool) : List Entry → Type 0 where
  sent : LetsRunOn packet tells (Out Target packet ∷ [])
  cut_short : {kept : ℕ} → kept < length packet → LetsRunOn packet tells (broken_send Target (take kept packet))
  told : {bytes : List ℕ} {entries : List Entry} → tells ≡ true → LetsRunOn packet tells entries
      → LetsRunOn packet tells (Out Client bytes ∷ entries)
  not_told : (bytes : List ℕ) → tells ≡ true → LetsRunOn packet tells (broken_send Client bytes)

-- What stands behind the cause of an ending. Where the target is to run on it is let do so, once no last word is left: by
-- the command Dispose with the next id, whose set is 1, whose number is 6, and which has no data (JDWP, VirtualMachine
-- command set, Dispose; JDWP, JDWP Packets, command packet). Else nothing goes to the target.
pub record IsLeftToRunOn (e : EndedState) (entries : List Entry) : Type 0 where
  pub runs_on : must_run_on e.ending e.last.machine.state.phase ≡ true → e.left ≡ []
      → LetsRunOn (packet_bytes (command_packet (id_of e.last.streams.commands.next) 1 6 [])) (tells_client e.ending)
      entries
  pub none_sent : must_run_on e.ending e.last.machine.state.phase ≡ false → went_to Target entries ≡ []
