-- A tap: what the log of one may be, from its first entry to its last, and why it ends.
use Rattle.std.specs.Prelude.{ℕ, ◌≡◌, ◌+◌, ◌<◌, ◌==◌, Bool, ◌&&◌, if◌then◌else◌, List, [], ◌∷◌, ◌++◌, length}
use Rattle.std.specs.Prelude.{take}
use Rattle.jdwp_packets.specs.Packets.{Packet}
use Rattle.jdwp_packets.specs.Receiving.{Received, received}
use Rattle.wire_core.specs.Outside.{broken_send}
use Rattle.tap_model.specs.Names.{Ask, Client, ClientLink, Done, Entry, Failed, IdSizes, Idle, In, Left, Limits}
use Rattle.tap_model.specs.Names.{NoMemory, Out}
use Rattle.tap_model.specs.Names.{Quiet, Reached, Shut, Side, Spent, TapEnding, Target, TargetGone, TargetLink}
use Rattle.tap_model.specs.States.{Said, TapState, after, bytes_of, side_of, start, with_sizes}
use Rattle.tap_model.specs.Steps.{Message, Step, said, step, tells}

-- the five sizes of ids (JDWP, VirtualMachine command set, IDSizes)
abbrev pub numbers_of : IdSizes → List ℕ
numbers_of sizes = sizes.field ∷ sizes.method ∷ sizes.object ∷ sizes.class ∷ sizes.frame ∷ []

-- The tap waits, and neither limit is reached: the next happening may come.
pub record Listens (limits : Limits) (asks : List Ask) (turns : ℕ) (s : TapState) : Type 0 where
  pub waits : step asks s ≡ Step.waits
  pub more_turns : turns < limits.turns
  pub patient : s.quiets < limits.quiet

-- What may come from the outside where a tap waits, but for what ends it.
pub data Comes (s : TapState) : Entry → TapState → Type 0 where
  of_debugger : {bytes : List ℕ}
      → Comes s (In Client bytes) (record s { debugger = received s.debugger bytes; quiets = 0 })
  of_target : {bytes : List ℕ}
      → Comes s (In Target bytes) (record s { target = received s.target bytes; quiets = 0 })
  passes_quiet : Comes s Quiet (record s { quiets = s.quiets + 1 })

-- A tap that goes on, with this log, these messages, the latest first, and so many turns, and that stands here now.
pub data Tapping (limits : Limits) (asks : List Ask) : List Entry → List Message → ℕ → TapState → Type 0 where
  -- it begins with an empty log
  begins : Tapping limits asks [] [] 0 (start asks)
  -- what is due goes out, whole
  says : {log : List Entry} {messages : List Message} {turns : ℕ} {s : TapState} {what : Said}
      → Tapping limits asks log messages turns s → step asks s ≡ Step.says what
      → Tapping limits asks (log ++ Out (side_of what) (bytes_of what) ∷ []) (said what ∷ messages) turns
      (after what s)
  -- nothing is due, and a packet is read of what came
  hears : {log : List Entry} {messages : List Message} {turns : ℕ} {s s' : TapState} {message : Message}
      → Tapping limits asks log messages turns s → step asks s ≡ Step.hears message s'
      → Tapping limits asks log (message ∷ messages) turns s'
  -- the target says its sizes of ids
  learns : {log : List Entry} {messages : List Message} {turns : ℕ} {s s' : TapState} {packet : Packet}
      {numbers : List ℕ} {sizes : IdSizes} → Tapping limits asks log messages turns s
      → step asks s ≡ Step.learns packet numbers s' → numbers_of sizes ≡ numbers
      → Tapping limits asks log (tells packet ∷ messages) turns (with_sizes asks sizes s')
  -- something comes where the tap waits, and a turn is taken
  happens : {log : List Entry} {messages : List Message} {turns : ℕ} {s s' : TapState} {entry : Entry}
      → Tapping limits asks log messages turns s → Listens limits asks turns s → Comes s entry s'
      → Tapping limits asks (log ++ entry ∷ []) messages (turns + 1) s'

-- Why it ends ---------------------------------------------------------------------------------------------------------

-- the handshake came, and whole packets alone behind it
abbrev pub is_whole : Received → Bool
is_whole r = r.greeted && (length r.stream.pending == 0)

-- The ending by the end of a side's stream. The debugger is done behind whole packets, the target once it was let go.
abbrev pub shut_ending : Side → TapState → TapEnding
shut_ending Client s = if is_whole s.debugger then Done else Left
shut_ending Target s = if s.left_by then Done else TargetGone

-- the ending by the failure of a side's link
abbrev pub link_ending : Side → TapEnding
link_ending Client = ClientLink
link_ending Target = TargetLink

-- Why a tap that stands here, after so many turns, ends so; which entries the cause leaves in the log, and whether it
-- takes a turn. What came ends it; a link fails in the middle of what is due, or where the tap waits; the stream of a
-- side ends; or, where the tap waits, as many waits in a row as may be were in vain, or as many turns were taken: of
-- the two limits that on turns comes first.
pub data TapCause (limits : Limits) (asks : List Ask) (turns : ℕ) (s : TapState) : TapEnding → List Entry → ℕ → Type 0
  where
    judged : {ending : TapEnding} → step asks s ≡ Step.ends ending → TapCause limits asks turns s ending [] 0
    broken : {what : Said} {kept : ℕ} → step asks s ≡ Step.says what → kept < length (bytes_of what)
        → TapCause limits asks turns s (link_ending (side_of what))
        (broken_send (side_of what) (take kept (bytes_of what))) 0
    shut : (side : Side) → Listens limits asks turns s
        → TapCause limits asks turns s (shut_ending side s) (Shut side ∷ []) 1
    lost : (side : Side) → Listens limits asks turns s
        → TapCause limits asks turns s (link_ending side) (Failed side ∷ []) 1
    idle : step asks s ≡ Step.waits → turns < limits.turns → s.quiets ≡ limits.quiet
        → TapCause limits asks turns s Idle [] 0
    spent : step asks s ≡ Step.waits → turns ≡ limits.turns → TapCause limits asks turns s Spent [] 0

-- A tap that has ended so, with this log, and what its questions have come to: it went on until its cause came, and
-- nothing was said behind that; or memory ran out, which may be at any time, at first before the questions are kept.
pub data TapEnded (limits : Limits) (asks : List Ask) : List Entry → List Message → ℕ → TapEnding
    → List Reached → Type 0 where
  ended : {log by_cause : List Entry} {messages : List Message} {turns taken : ℕ} {s : TapState} {ending : TapEnding}
      → Tapping limits asks log messages turns s → TapCause limits asks turns s ending by_cause taken
      → TapEnded limits asks (log ++ by_cause) messages (turns + taken) ending s.asking.answers
  no_memory : {log : List Entry} {messages : List Message} {turns : ℕ} {s : TapState}
      → Tapping limits asks log messages turns s → TapEnded limits asks log messages turns NoMemory s.asking.answers
  unbegun : TapEnded limits asks [] [] 0 NoMemory []
