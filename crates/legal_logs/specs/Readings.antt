-- A reading of a log: how the entries of any bridge's session say what the machine does, whatever the order in which it
-- asks. The whole stands at the end, behind what it speaks of.
use Rattle.std.specs.Prelude.{ℕ, ◌≡◌, ◌+◌, ◌<◌, ◌⊎◌, ◌∷◌, ◌++◌, true, false, List, [], Ok}
use Rattle.dap_frames.specs.Frames.{Frame, frame_front}
use Rattle.dap_messages.specs.Reading.{reading_of}
use Rattle.dap_messages.specs.declared.requests.Incoming.TheVariants.{Ignored as ignored}
use Rattle.machine_model.specs.Due.{can_read}
use Rattle.machine_model.specs.Runs.{Allows, Message}
use Rattle.machine_model.specs.State.{Machine}
use Rattle.legal_logs.specs.Asking.{IsHeld, MaySay, due_asked}
use Rattle.session_model.specs.Causes.{IsOn}
use Rattle.session_model.specs.Names.{Act, Entry, Limits, Out, Side}
use Rattle.session_model.specs.Saying.{Brings, Speaks}
use Rattle.session_model.specs.Session.{Comes, quiets_after}
use Rattle.session_model.specs.States.{SessionState, StreamState, start, target_front}
use Rattle.wire_core.specs.Streams.{Front, past}

-- Where bytes are read ------------------------------------------------------------------------------------------------

-- What came may be read on: nothing is due but questions.
pub record MayRead (limits : Limits) (s : SessionState) : Type 0 where
  pub nothing_due : (due_asked s.machine).act ≡ Act.Waits
  pub on : IsOn limits s

-- The client's bytes may be cut on: nothing is due, no composite can be read, and no `disconnect` was heard.
pub record MayReadClient (limits : Limits) (s : SessionState) : Type 0 where
  pub reads : MayRead limits s
  pub none_to_read : can_read s.machine ≡ false
  pub is_open : s.machine.closing ≡ false

-- The target's bytes may be cut on: nothing is due, no composite can be read, and a handshake that came was taken up.
pub record MayReadTarget (limits : Limits) (s : SessionState) : Type 0 where
  pub reads : MayRead limits s
  pub none_to_read : can_read s.machine ≡ false
  pub greeted : s.machine.state.greeting_heard ≡ s.streams.target.greeted

-- All that came was read, and nothing is due but questions: no whole frame and no refused byte stands at the front of
-- the client's uncut bytes, or a `disconnect` was heard; the same of the target's packets; and the end of its stream
-- was taken up.
pub record HasReadAll (limits : Limits) (s : SessionState) : Type 0 where
  pub reads : MayReadTarget limits s
  pub no_frame : (s.machine.closing ≡ true) ⊎ (frame_front s.streams.client.pending ≡ Front.waits)
  pub no_packet : target_front s.streams ≡ Front.waits
  pub not_ended : s.streams.ended ≡ false

-- All that came was read, and neither limit is reached.
pub record MayTurn (limits : Limits) (turns : ℕ) (s : SessionState) : Type 0 where
  pub read : HasReadAll limits s
  pub more_turns : turns < limits.turns
  pub patient : s.quiets < limits.quiet

-- The bridge may wait here: all that came was read, neither limit is reached, and an item in hand waits for something.
pub record MayWait (limits : Limits) (turns : ℕ) (s : SessionState) : Type 0 where
  pub turn : MayTurn limits turns s
  pub held : IsHeld s

-- What goes out -------------------------------------------------------------------------------------------------------

-- A log with these bytes more that went to a side: in an entry of their own, or at the end of the last one, where that
-- went to the same side. So one entry may hold several messages.
pub data IsAdded (side : Side) (bytes : List ℕ) : List Entry → List Entry → Type 0 where
  apart : {log : List Entry} → IsAdded side bytes log (log ++ Out side bytes ∷ [])
  joined : (log : List Entry) (begun : List ℕ)
      → IsAdded side bytes (log ++ Out side begun ∷ []) (log ++ Out side (begun ++ bytes) ∷ [])

-- Readings ------------------------------------------------------------------------------------------------------------

-- A reading that goes on: through this log, as these messages and so many turns, to where the session stands then. Each
-- message goes out whole, and may go out where it stands. Nothing due is left where the next message is read, and none
-- where the bridge waits. A log may have several readings, since a question may stand before or behind what is read.
pub data Reading (limits : Limits) : List Entry → List Message → ℕ → SessionState → Type 0 where
  -- it begins fresh, with an empty log
  begins : Reading limits [] [] 0 start
  -- the machine goes a step that nobody sees
  goes : {log : List Entry} {messages : List Message} {turns : ℕ} {s : SessionState}
      → Reading limits log messages turns s → IsOn limits s → (due_asked s.machine).act ≡ Act.Goes
      → Reading limits log messages turns (record s { machine = (due_asked s.machine).next })
  -- a message that may go out goes out, whole
  speaks : {log longer : List Entry} {messages : List Message} {turns : ℕ} {s : SessionState} {message : Message}
      {next : Machine} {side : Side} {bytes : List ℕ} {streams : StreamState}
      → Reading limits log messages turns s → IsOn limits s → MaySay s.machine message next
      → Speaks s message side bytes streams → IsAdded side bytes log longer
      → Reading limits longer (messages ++ message ∷ []) turns (record s { machine = next; streams = streams })
  -- nothing is due but questions, and a message that the machine allows is read from what came
  hears : {log : List Entry} {messages : List Message} {turns : ℕ} {s : SessionState} {message : Message}
      {next : Machine} {streams : StreamState}
      → Reading limits log messages turns s → MayRead limits s → Allows s.machine message next
      → Brings s message streams
      → Reading limits log (messages ++ message ∷ []) turns (record s { machine = next; streams = streams })
  -- a response or an event of the client is passed over
  ignores : {log : List Entry} {messages : List Message} {turns : ℕ} {s : SessionState} {frame : Frame} {n : ℕ}
      → Reading limits log messages turns s → MayReadClient limits s
      → frame_front s.streams.client.pending ≡ Front.whole frame n → reading_of frame.body ≡ Ok ignored
      → Reading limits log messages turns
      (record s { streams = record s.streams { client = past s.streams.client n } })
  -- something comes where the bridge may wait, and a turn is taken
  happens : {log : List Entry} {messages : List Message} {turns : ℕ} {s : SessionState} {entry : Entry}
      {streams : StreamState}
      → Reading limits log messages turns s → MayWait limits turns s → Comes s.streams entry streams
      → Reading limits (log ++ entry ∷ []) messages (turns + 1)
      (record s { streams = streams; quiets = quiets_after entry s.quiets })
