-- Why a session ends. Each cause is said once, of where the session stands when it comes.
use Rattle.std.specs.Prelude.{ℕ, ◌≡◌, ◌+◌, ◌<◌, ◌≤◌, ◌∷◌, ◌⊎◌, true, false, List, [], length}
use Rattle.std.specs.Prelude.{take}
use Rattle.dap_frames.specs.Frames.{frame_front}
use Rattle.jdwp_commands.specs.Commands.{number_of}
use Rattle.machine_model.specs.Due.{can_read}
use Rattle.machine_model.specs.Replying.{is_tolerated, wire}
use Rattle.machine_model.specs.Runs.{Allows, Message}
use Rattle.machine_model.specs.State.{Machine}
use Rattle.session_model.specs.Names.{Act, BadClient}
use Rattle.session_model.specs.Names.{BadTarget, Client, ClientFault, ClientLink, Done}
use Rattle.session_model.specs.Names.{Ending, Entry, Failed, finish_done, finish_one_thread, Flood, Idle, Left, Limits}
use Rattle.session_model.specs.Names.{PolicyThread, Shut, Side, Spent, Target}
use Rattle.session_model.specs.Names.{TargetCommand, TargetFault, TargetLink, TargetRefused}
use Rattle.session_model.specs.Faults.{HasReply, IsClientFault, IsKeptFault, IsTargetFault}
use Rattle.session_model.specs.Saying.{Speaks}
use Rattle.session_model.specs.States.{SessionState, StreamState, due_now, target_front}
use Rattle.target_bodies.specs.Hearing.{header}
use Rattle.wire_core.specs.Outside.{broken_send}
use Rattle.wire_core.specs.Streams.{Front}

-- Where bytes are read ------------------------------------------------------------------------------------------------

-- no more items wait than may
pub record IsOn (limits : Limits) (s : SessionState) : Type 0 where
  pub no_flood : length s.machine.waiting ≤ limits.waiting

-- What came is read on: nothing is due.
pub record ReadsOn (limits : Limits) (s : SessionState) : Type 0 where
  pub nothing_due : (due_now s).act ≡ Act.Waits
  pub on : IsOn limits s

-- The client's bytes are cut on: nothing is due, no composite can be read, and no `disconnect` was heard.
pub record ReadsClient (limits : Limits) (s : SessionState) : Type 0 where
  pub reads : ReadsOn limits s
  pub none_to_read : can_read s.machine ≡ false
  pub is_open : s.machine.closing ≡ false

-- The target's bytes are cut on: nothing is due, no composite can be read, and a handshake that came was taken up.
pub record ReadsTarget (limits : Limits) (s : SessionState) : Type 0 where
  pub reads : ReadsOn limits s
  pub none_to_read : can_read s.machine ≡ false
  pub greeted : s.machine.state.greeting_heard ≡ s.streams.target.greeted

-- The session waits: nothing is due, and no composite can be read; no whole frame and no refused byte stands at the
-- front of the client's uncut bytes, or a `disconnect` was heard, so that nothing more is cut; the same of the target's
-- packets; and what came of the target was taken up.
pub record IsWaiting (limits : Limits) (s : SessionState) : Type 0 where
  pub reads : ReadsTarget limits s
  pub no_frame : (s.machine.closing ≡ true) ⊎ (frame_front s.streams.client.pending ≡ Front.waits)
  pub no_packet : target_front s.streams ≡ Front.waits
  pub not_ended : s.streams.ended ≡ false

-- It waits, and neither limit is reached: the next happening may come.
pub record Listens (limits : Limits) (turns : ℕ) (s : SessionState) : Type 0 where
  pub waits : IsWaiting limits s
  pub more_turns : turns < limits.turns
  pub patient : s.quiets < limits.quiet

-- Causes --------------------------------------------------------------------------------------------------------------

-- the ending by the failure of a side's link
abbrev pub link_ending : Side → Ending
link_ending Client = ClientLink
link_ending Target = TargetLink

-- Why a session that stands here, after so many turns, ends so; which entries the cause leaves in the log, and whether
-- it takes a turn. The machine is done; or the composite that is served suspended one thread alone, and the ending says
-- where in its packet that stands, behind the header (JDWP, Event command set, Composite; JDWP, Constants,
-- SuspendPolicy). The client's stream has ended, or a link has failed, where the session waited;
-- or a link failed in the middle of a message that was due. The client's next bytes have a fault, or the target's, or
-- the next of the composites that were kept; or the target refuses a pending command with an error that isn't
-- tolerated; and nothing is due that came before. More items wait than may. Nothing is left to do, and as many waits in
-- a row as may be were in vain, or as many turns were taken as may be: of the two limits that on turns comes first.
pub data Cause (limits : Limits) (turns : ℕ) (s : SessionState) : Ending → List Entry → ℕ → Type 0 where
  over : IsOn limits s → (due_now s).act ≡ Act.Over finish_done → Cause limits turns s Done [] 0
  one_thread : {at : ℕ} → IsOn limits s → (due_now s).act ≡ Act.Over (finish_one_thread at)
      → Cause limits turns s (BadTarget PolicyThread (at + header) 0) [] 0
  shut : Listens limits turns s → Cause limits turns s Left (Shut Client ∷ []) 1
  lost : (side : Side) → Listens limits turns s → Cause limits turns s (link_ending side) (Failed side ∷ []) 1
  broken : {message : Message} {next : Machine} {side : Side} {bytes : List ℕ} {streams : StreamState} {kept : ℕ}
      → IsOn limits s → Allows s.machine message next → Speaks s message side bytes streams → kept < length bytes
      → Cause limits turns s (link_ending side) (broken_send side (take kept bytes)) 0
  misread : {fault : ClientFault} {offset : ℕ} → ReadsClient limits s → IsClientFault s.streams.client fault offset
      → Cause limits turns s (BadClient fault offset) [] 0
  misheard : {fault : TargetFault} {offset id : ℕ} → ReadsTarget limits s → IsTargetFault s fault offset id
      → Cause limits turns s (BadTarget fault offset id) [] 0
  misheard_kept : {fault : TargetFault} {offset : ℕ} → ReadsOn limits s → IsKeptFault s.machine fault offset
      → Cause limits turns s (BadTarget fault offset 0) [] 0
  refused : {command : TargetCommand} {error : ℕ} {body : List ℕ} → ReadsTarget limits s
      → HasReply s command error body → 0 < error → is_tolerated command error ≡ false
      → Cause limits turns s (TargetRefused (number_of (wire command)).0 (number_of (wire command)).1 error) [] 0
  flood : limits.waiting < length s.machine.waiting → Cause limits turns s Flood [] 0
  idle : IsWaiting limits s → turns < limits.turns → s.quiets ≡ limits.quiet → Cause limits turns s Idle [] 0
  spent : IsWaiting limits s → turns ≡ limits.turns → Cause limits turns s Spent [] 0
