-- A session: what the log of a run of the bridge may be, from its first entry to its last. The whole stands at the end,
-- behind what it speaks of.
use Rattle.std.specs.Prelude.{ℕ, ◌≡◌, ◌+◌, ◌∷◌, ◌++◌, true, false, List, [], Ok}
use Rattle.dap_frames.specs.Frames.{Frame, frame_front}
use Rattle.dap_messages.specs.Reading.{reading_of}
use Rattle.dap_messages.specs.declared.requests.Incoming.TheVariants.{Ignored as ignored}
use Rattle.jdwp_packets.specs.Receiving.{received}
use Rattle.machine_model.specs.Due.{due}
use Rattle.machine_model.specs.Runs.{Allows, Message}
use Rattle.machine_model.specs.State.{Machine}
use Rattle.session_model.specs.Names.{Act, Client, Ending, Entry, Failed, In, Limits, NoMemory, Out, Quiet, Shut}
use Rattle.session_model.specs.Names.{Side, Target}
use Rattle.session_model.specs.Causes.{Cause, IsOn, Listens, ReadsOn, ReadsClient}
use Rattle.session_model.specs.LastWords.{AreSpoken, LastWord, last_words}
use Rattle.session_model.specs.Saying.{Brings, Speaks}
use Rattle.session_model.specs.States.{SessionState, StreamState, start}
use Rattle.wire_core.specs.Outside.{Adds, Outside}
use Rattle.wire_core.specs.Streams.{Front, fed, past}

-- Going on ------------------------------------------------------------------------------------------------------------

-- What may come from the outside where a session waits, but for what ends it.
pub data Comes (streams : StreamState) : Entry → StreamState → Type 0 where
  piece : {bytes : List ℕ}
      → Comes streams (In Client bytes) (record streams { client = fed streams.client bytes })
  packets : {bytes : List ℕ}
      → Comes streams (In Target bytes) (record streams { target = received streams.target bytes })
  ends : Comes streams (Shut Target) (record streams { ended = true })
  passes_quiet : Comes streams Quiet streams

-- how many waits in a row were in vain
abbrev pub quiets_after : Entry → ℕ → ℕ
quiets_after (In side bytes) n = 0
quiets_after (Out side bytes) n = n
quiets_after (Shut side) n = 0
quiets_after (Failed side) n = 0
quiets_after Quiet n = n + 1

-- A session that goes on, with this log, these messages and so many turns, and that stands here now.
pub data Going (limits : Limits) : List Entry → List Message → ℕ → SessionState → Type 0 where
  -- it begins fresh, with an empty log
  begins : Going limits [] [] 0 start
  -- the machine goes a step that nobody sees
  goes : {log : List Entry} {messages : List Message} {turns : ℕ} {s : SessionState}
      → Going limits log messages turns s → IsOn limits s → (due false s.machine).act ≡ Act.Goes
      → Going limits log messages turns (record s { machine = (due false s.machine).next })
  -- a message that the machine allows goes out, whole
  speaks : {log : List Entry} {messages : List Message} {turns : ℕ} {s : SessionState} {message : Message}
      {next : Machine} {side : Side} {bytes : List ℕ} {streams : StreamState}
      → Going limits log messages turns s → IsOn limits s → Allows s.machine message next
      → Speaks s message side bytes streams
      → Going limits (log ++ Out side bytes ∷ []) (messages ++ message ∷ []) turns
      (record s { machine = next; streams = streams })
  -- nothing is due, and a message that the machine allows is read from what came
  hears : {log : List Entry} {messages : List Message} {turns : ℕ} {s : SessionState} {message : Message}
      {next : Machine} {streams : StreamState}
      → Going limits log messages turns s → ReadsOn limits s → Allows s.machine message next → Brings s message streams
      → Going limits log (messages ++ message ∷ []) turns (record s { machine = next; streams = streams })
  -- a response or an event of the client is passed over
  ignores : {log : List Entry} {messages : List Message} {turns : ℕ} {s : SessionState} {frame : Frame} {n : ℕ}
      → Going limits log messages turns s → ReadsClient limits s
      → frame_front s.streams.client.pending ≡ Front.whole frame n → reading_of frame.body ≡ Ok ignored
      → Going limits log messages turns
      (record s { streams = record s.streams { client = past s.streams.client n } })
  -- something comes where the session waits, and a turn is taken
  happens : {log : List Entry} {messages : List Message} {turns : ℕ} {s : SessionState} {entry : Entry}
      {streams : StreamState}
      → Going limits log messages turns s → Listens limits turns s → Comes s.streams entry streams
      → Going limits (log ++ entry ∷ []) messages (turns + 1)
      (record s { streams = streams; quiets = quiets_after entry s.quiets })

-- Ended ---------------------------------------------------------------------------------------------------------------

-- Where a session stands once it has ended: where it stood when the cause came, and the ending; which last words were
-- said, and which are left; and the place in the bytes, of which only the count of what was told still changes.
pub record EndedState : Type 0 where
  pub last : SessionState
  pub ending : Ending
  pub said : List LastWord
  pub left : List LastWord
  pub streams : StreamState

-- A session that has ended: one that went on, with what the cause left in the log, and behind it last words alone.
pub record Ended (limits : Limits) (log : List Entry) (messages : List Message) (turns : ℕ) (e : EndedState)
    : Type 0 where
  pub before : List Entry
  pub by_cause : List Entry
  pub by_words : List Entry
  pub earlier : ℕ
  pub taken : ℕ
  pub log_is : log ≡ (before ++ by_cause) ++ by_words
  pub turns_are : turns ≡ earlier + taken
  pub going : Going limits before messages earlier e.last
  pub cause : Cause limits earlier e.last e.ending by_cause taken
  pub words : AreSpoken e.last.streams (last_words e.ending e.last.machine) e.said e.left by_words e.streams

-- Why a session is left: its cause has come, and all last words were said, up to the first that can't be; or memory ran
-- out, which may be at any time.
pub data IsLeft (limits : Limits) (log : List Entry) (messages : List Message) (turns : ℕ) : Ending → Type 0 where
  ended : {e : EndedState} → Ended limits log messages turns e → e.left ≡ []
      → IsLeft limits log messages turns e.ending
  no_memory : {s : SessionState} → Going limits log messages turns s → IsLeft limits log messages turns NoMemory
  no_memory_then : {e : EndedState} → Ended limits log messages turns e → IsLeft limits log messages turns NoMemory

-- What a call did to the outside is a session within its limits that ended so. Over an outside that keeps no log this
-- ties the session to nothing that was done.
pub record IsSession (old new : Outside) (limits : Limits) (ending : Ending) : Type 0 where
  pub added : List Entry
  pub messages : List Message
  pub turns : ℕ
  pub log : Adds old new added
  pub left : IsLeft limits added messages turns ending
