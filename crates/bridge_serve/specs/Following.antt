-- How the loop over the wires follows the session relation: words for what each helper of the loop does.
use Rattle.std.specs.Prelude.{ℕ, ◌≡◌, ◌+◌, ◌<◌, Bool, true, false, List, length, None, Err}
use Rattle.std.specs.List.{AllByRecursion}
use Rattle.bridge_core.specs.Calls.{words_left}
use Rattle.bridge_core.specs.Cores.{CoreState, Unheard, session_in}
use Rattle.bridge_core.specs.Cores.{IsReady as is_ready}
use Rattle.bridge_serve.specs.Serving.{Blames, Idles, Keeps}
use Rattle.dap_frames.specs.Frames.{frame_front}
use Rattle.dap_frames.specs.Taking.{IsTaken as IsBody}
use Rattle.dap_frames.specs.declared.fault.FrameTrouble.{FrameTrouble}
use Rattle.jdwp_packets.specs.Receiving.{left_behind, nothing_received}
use Rattle.jdwp_packets.specs.Taking.{IsTaken as IsPacket}
use Rattle.jdwp_packets.specs.declared.fault.PacketTrouble.{PacketTrouble}
use Rattle.machine_model.specs.Due.{due}
use Rattle.machine_model.specs.Runs.{Message}
use Rattle.machine_model.specs.State.{is_gone}
use Rattle.machine_model.specs.declared.acts.Act.{Act}
use Rattle.session_model.specs.Causes.{IsWaiting}
use Rattle.session_model.specs.LastWords.{LastWord, word_side}
use Rattle.bridge_serve.specs.Names.{BadClient, BadTarget, Client, Ending, Entry, Idle, Limits, NoMemory, Target}
use Rattle.bridge_serve.specs.Names.{misframed, mispacked}
use Rattle.session_model.specs.Session.{Ended, EndedState, Going, IsLeft, IsSession}
use Rattle.session_model.specs.States.{SessionState, StreamState, id_pending}
use Rattle.wire_core.specs.Outside.{Adds, IsOpen, Outside, StaysOpen, WasEmpty}
use Rattle.wire_core.specs.Streams.{left, uncut}

-- nothing came yet
abbrev pub nothing_heard : Unheard
nothing_heard = record { client = uncut; target = nothing_received; ended = false; quiets = 0 }

-- Where a core goes on ------------------------------------------------------------------------------------------------

-- Something may be due: the core is ready and has said no last word, and both sides are open, but for a target that is
-- gone.
pub record MayTell (o : Outside) (core : CoreState) : Type 0 where
  pub ready : is_ready core
  pub unspoken : core.words ≡ None
  pub client : IsOpen Client o
  pub target : is_gone core.machine.state.phase ≡ false → IsOpen Target o

-- Nothing is due, and what came may be taken up: the same holds, but that the target's end may have come; and a
-- handshake that was taken up has come.
pub record MayTake (o : Outside) (core : CoreState) (unheard : Unheard) : Type 0 where
  pub ready : is_ready core
  pub unspoken : core.words ≡ None
  pub client : IsOpen Client o
  pub target : is_gone core.machine.state.phase ≡ false → unheard.ended ≡ false → IsOpen Target o
  pub nothing_due : (due (id_pending core.commands) core.machine).act ≡ Act.Waits
  pub shaken : core.machine.state.greeting_heard ≡ true → unheard.target.greeted ≡ true

-- the target's handshake and its end were taken up, where they came
pub record IsTakenUp (core : CoreState) (unheard : Unheard) : Type 0 where
  pub greeted : core.machine.state.greeting_heard ≡ unheard.target.greeted
  pub not_ended : unheard.ended ≡ false

-- how far the two streams came
abbrev pub client_end : Unheard → ℕ
client_end unheard = unheard.client.at + length unheard.client.pending

abbrev pub target_end : Unheard → ℕ
target_end unheard = unheard.target.stream.at + length unheard.target.stream.pending

-- the streams came no further, and no wait was in vain
pub record SameEnds (unheard unheard' : Unheard) : Type 0 where
  pub client : client_end unheard' ≡ client_end unheard
  pub target : target_end unheard' ≡ target_end unheard
  pub quiets : unheard'.quiets ≡ unheard.quiets

-- What is cut of what came -------------------------------------------------------------------------------------------

-- the client's next body was handed out, where a whole frame was there
abbrev pub body_taken : Unheard → Unheard
body_taken unheard = record unheard { client = left (frame_front unheard.client.pending) unheard.client }

-- a byte that no frame has there ends the session
abbrev pub IsMisframed : Unheard → Ending → Type 0
IsMisframed unheard ending =
    (trouble : FrameTrouble) × IsBody unheard.client (Err trouble)
    × (ending ≡ BadClient (misframed trouble.fault) trouble.at)

-- the target's next packet was handed out, where a whole one was there
abbrev pub packet_taken : Unheard → Unheard
packet_taken unheard = record unheard { target = left_behind unheard.target }

-- a byte that no packet has there ends the session
abbrev pub IsMispacked : Unheard → Ending → Type 0
IsMispacked unheard ending =
    (trouble : PacketTrouble) × IsPacket unheard.target (Err trouble)
    × (ending ≡ BadTarget (mispacked trouble.fault) trouble.at 0)

-- Endings ------------------------------------------------------------------------------------------------------------

-- memory ran out, and nothing is said
abbrev pub lacks_memory : Ending → Bool
lacks_memory NoMemory = true
lacks_memory _ = false

-- Sessions over a log ------------------------------------------------------------------------------------------------

-- these words go to sides that are open
abbrev pub Speakable : Outside → List LastWord → Type 0
Speakable o words = AllByRecursion (λ (word : LastWord). IsOpen (word_side word) o) words

-- the core counts on from here: what it tells gets the next number, and what it sends the next id
abbrev pub IsCounted : StreamState → CoreState → LastWord → Type 0
IsCounted streams core (LastWord.tells told) = streams.told ≡ core.told
IsCounted streams core LastWord.disposes = streams.commands.next ≡ core.commands.next

-- this core has the words to say that are left, and they go to sides that are open
pub record HasWords (o : Outside) (core : CoreState) (e : EndedState) : Type 0 where
  pub words : e.left ≡ words_left e.ending core
  pub counted : AllByRecursion (IsCounted e.streams core) e.left
  pub speakable : Speakable o e.left

module _ (limits : Limits) where
  -- from `begin` on, what was logged is a session that goes on, and stands here after so many turns
  pub record Follows (begin now : Outside) (turns : ℕ) (s : SessionState) : Type 0 where
    pub added : List Entry
    pub messages : List Message
    pub log : Adds begin now added
    pub going : Going limits added messages turns s

  -- whatever was logged before, a session that stood at the one place stands at the other now
  abbrev pub Leads : Outside → ℕ → SessionState → Outside → ℕ → SessionState → Type 0
  Leads old before from new after to = (begin : Outside) → Follows begin old before from → Follows begin new after to

  -- From `begin` on, what was logged is a session that has ended so, and this core has its last words to say; or memory
  -- ran out while it went on.
  pub data HasEnded (begin now : Outside) (turns : ℕ) (core : CoreState) : Ending → Type 0 where
    ended : {added : List Entry} {messages : List Message} {e : EndedState} → Adds begin now added
        → Ended limits added messages turns e → HasWords now core e → HasEnded begin now turns core e.ending
    forgets : {s : SessionState} → Follows begin now turns s → HasEnded begin now turns core NoMemory

  -- a session that stood here has ended so, after so many turns
  abbrev pub Stopped : Outside → ℕ → SessionState → Outside → ℕ → CoreState → Ending → Type 0
  Stopped old before from new after core ending =
      (begin : Outside) → Follows begin old before from → HasEnded begin new after core ending

  -- from `begin` on, what was logged is a session that was left so
  pub record IsOver (begin now : Outside) (turns : ℕ) (ending : Ending) : Type 0 where
    pub added : List Entry
    pub messages : List Message
    pub log : Adds begin now added
    pub left : IsLeft limits added messages turns ending

  -- from the beginning of a call on, the session ended so, and the core has its last words to say
  pub record Ran (old new : Outside) (core : CoreState) (ending : Ending) : Type 0 where
    pub turns : ℕ
    pub has_ended : HasEnded old new turns core ending
    pub keeps : Keeps limits.turns old new
    pub blames : Blames old new ending
    pub idles : Idles limits old new ending

-- What the helpers of the loop do ------------------------------------------------------------------------------------

-- the session went on, within one turn
pub record GoesOn (old new : Outside) (core core' : CoreState) (unheard unheard' : Unheard) : Type 0 where
  pub leads : (limits : Limits) (turns : ℕ) → core.limit ≡ limits.waiting
      → Leads limits old turns (session_in core unheard) new turns (session_in core' unheard')
  pub keeps : Keeps 0 old new
  pub may_take : MayTake new core' unheard'
  pub same_limit : core'.limit ≡ core.limit
  pub same_ends : SameEnds unheard unheard'

-- it ended within the turn
pub record Stops (old new : Outside) (core core' : CoreState) (unheard : Unheard) (ending : Ending) : Type 0 where
  pub stopped : (limits : Limits) (turns : ℕ) → core.limit ≡ limits.waiting
      → Stopped limits old turns (session_in core unheard) new turns core' ending
  pub keeps : Keeps 0 old new
  pub blames : Blames old new ending
  pub awake : ending ≡ Idle → ⊥

-- the session waits here, and may wait on
pub record MayHear (limits : Limits) (o : Outside) (core : CoreState) (unheard : Unheard) : Type 0 where
  pub may_take : MayTake o core unheard
  pub waits : IsWaiting limits (session_in core unheard)
  pub patient : unheard.quiets < limits.quiet

-- Something came, and no wait in a row was in vain; or one more was, in which each side that is open had nothing.
pub data Waits (old new : Outside) (quiets : ℕ) : ℕ → Type 0 where
  came : Waits old new quiets 0
  in_vain : StaysOpen old new → WasEmpty Client old new → WasEmpty Target old new → Waits old new quiets (quiets + 1)

-- something came where the session waited
pub record Hears (limits : Limits) (old new : Outside) (core : CoreState) (unheard unheard' : Unheard) : Type 0 where
  pub leads : (turns : ℕ) → turns < limits.turns
      → Leads limits old turns (session_in core unheard) new (turns + 1) (session_in core unheard')
  pub may_take : MayTake new core unheard'
  pub waited : Waits old new unheard.quiets unheard'.quiets

-- what came ended the session
pub record HearsEnd (limits : Limits) (old new : Outside) (core : CoreState) (unheard : Unheard) (ending : Ending)
    : Type 0 where
  pub stopped : (turns : ℕ) → turns < limits.turns
      → Stopped limits old turns (session_in core unheard) new (turns + 1) core ending
  pub blames : Blames old new ending
  pub awake : ending ≡ Idle → ⊥

-- All that was due, or some of it, was told and sent, whatever else came of the two sides.
pub record CoreGoesOn (old new : Outside) (core core' : CoreState) : Type 0 where
  pub leads : (limits : Limits) (unheard : Unheard) (turns : ℕ) → core.limit ≡ limits.waiting
      → Leads limits old turns (session_in core unheard) new turns (session_in core' unheard)
  pub keeps : Keeps 0 old new
  pub may_tell : MayTell new core'
  pub same_greeted : core'.machine.state.greeting_heard ≡ core.machine.state.greeting_heard
  pub same_limit : core'.limit ≡ core.limit

-- the session ended meanwhile
pub record CoreStops (old new : Outside) (core core' : CoreState) (ending : Ending) : Type 0 where
  pub stopped : (limits : Limits) (unheard : Unheard) (turns : ℕ) → core.limit ≡ limits.waiting
      → Stopped limits old turns (session_in core unheard) new turns core' ending
  pub keeps : Keeps 0 old new
  pub blames : Blames old new ending
  pub awake : ending ≡ Idle → ⊥

-- the core heard something, and told and sent what was due then
pub record Handles (hears : CoreState → Type 0) (old new : Outside) (core' : CoreState) : Type 0 where
  pub middle : CoreState
  pub heard : hears middle
  pub goes_on : CoreGoesOn old new middle core'
  pub nothing_due : (due (id_pending core'.commands) core'.machine).act ≡ Act.Waits

-- what it heard ended the session, or the session ended while that was told and sent
pub data HandlesLast (hears : CoreState → Type 0) (refuses : CoreState → Ending → Type 0) (old : Outside)
    : Outside → CoreState → Ending → Type 0 where
  refuses : {core' : CoreState} {ending : Ending} → refuses core' ending → HandlesLast hears refuses old old core' ending
  stops : {new : Outside} {middle core' : CoreState} {ending : Ending} → hears middle
      → CoreStops old new middle core' ending → HandlesLast hears refuses old new core' ending

-- one of the last words was said
pub record SaysOne (old new : Outside) (core core' : CoreState) (ending : Ending) : Type 0 where
  pub leads : (limits : Limits) (begin : Outside) (turns : ℕ) → HasEnded limits begin old turns core ending
      → HasEnded limits begin new turns core' ending
  pub keeps : Keeps 0 old new
  pub speakable : Speakable new (words_left ending core')

-- all were said, up to the first that can't be, or memory ran out
pub record FallsSilent (old new : Outside) (core : CoreState) (ending result : Ending) : Type 0 where
  pub leads : (limits : Limits) (begin : Outside) (turns : ℕ) → HasEnded limits begin old turns core ending
      → IsOver limits begin new turns result
  pub keeps : Keeps 0 old new

-- the ending stays, but for want of memory
pub data Says (old new : Outside) (core : CoreState) (ending : Ending) : Ending → Type 0 where
  all : FallsSilent old new core ending ending → Says old new core ending ending
  no_memory : FallsSilent old new core ending NoMemory → Says old new core ending NoMemory

-- a call served a session within these limits, and it ended so
pub record Served (old new : Outside) (limits : Limits) (ending : Ending) : Type 0 where
  pub session : IsSession old new limits ending
  pub keeps : Keeps limits.turns old new
  pub blames : Blames old new ending
  pub idles : Idles limits old new ending
