-- The joint of the translation machine and an obeying target: a run of the one beside a run of the other.
use Rattle.std.specs.Prelude.{ℕ, ◌≡◌, ◌∷◌, ◌++◌, Bool, true, false, List, [], Ok}
use Rattle.jdwp_events.specs.Composites.{composite_at}
use Rattle.joint_model.specs.Names.{Act, TargetCommand}
use Rattle.joint_model.specs.Obeying.{Emits, Runs, Serves}
use Rattle.machine_model.specs.Due.{due}
use Rattle.machine_model.specs.Names.{Composite, Replied}
use Rattle.machine_model.specs.Replying.{wire}
use Rattle.machine_model.specs.Runs.{Allows, MayQueue, Message, to_ask}
use Rattle.machine_model.specs.State.{Hand, Machine, fresh}
use Rattle.machine_model.specs.declared.acts.Want.{Want}
use Rattle.world_model.specs.declared.world.World.{World}
use Rattle.world_model.specs.Sound.{IsSound}

-- what is in flight from the target, in the order in which it was sent (JDWP, JDWP Packets)
pub data Packet : Type 0 where
  a_reply : TargetCommand → Replied → Packet
  some_events : Composite → Packet

-- a message to the client or from it, or a side of the handshake (JDWP, JDWP Start Up)
abbrev pub is_aside : Message → Bool
is_aside (Message.hears request) = true
is_aside (Message.tells told) = true
is_aside Message.greets = true
is_aside Message.greeted = true
is_aside (Message.sends command) = false
is_aside (Message.answers command replied) = false
is_aside Message.ends = false
is_aside (Message.comes at composite) = false
is_aside (Message.keeps at body) = false
is_aside (Message.reads at body composite) = false

-- The messages so far and the machine; the world; the commands that it hasn't served, of which any may be served
-- next; the packets in flight, in their order; and the composites that the machine keeps unread, in the order in
-- which they came. A body that is kept or read is that of its composite, with the target's sizes of ids. The link may
-- be lost at any time.
pub data Joint : List Message → Machine → World → List TargetCommand → List Packet → List Composite → Type 0 where
  starts : {w : World} → IsSound w → w.dead ≡ false → w.count ≡ 0 → w.requests ≡ [] → Joint [] fresh w [] [] []
  goes : {messages : List Message} {m : Machine} {w : World} {commands : List TargetCommand} {packets : List Packet}
      {kept : List Composite} → Joint messages m w commands packets kept → (due false m).act ≡ Act.Goes
      → Joint messages (due false m).next w commands packets kept
  queues : {messages : List Message} {m : Machine} {w : World} {commands : List TargetCommand}
      {packets : List Packet} {kept : List Composite} {hand : Hand} {queue : List Want}
      → Joint messages m w commands packets kept → MayQueue m hand queue
      → Joint messages (to_ask m hand queue) w commands packets kept
  says : {messages : List Message} {m next : Machine} {w : World} {commands : List TargetCommand}
      {packets : List Packet} {kept : List Composite} {message : Message} → Joint messages m w commands packets kept
      → Allows m message next → is_aside message ≡ true → Joint (messages ++ message ∷ []) next w commands packets kept
  sends : {messages : List Message} {m next : Machine} {w : World} {commands : List TargetCommand}
      {packets : List Packet} {kept : List Composite} {command : TargetCommand}
      → Joint messages m w commands packets kept → Allows m (Message.sends command) next
      → Joint (messages ++ Message.sends command ∷ []) next w (command ∷ commands) packets kept
  gets : {messages : List Message} {m next : Machine} {w : World} {commands : List TargetCommand}
      {packets : List Packet} {kept : List Composite} {command : TargetCommand} {replied : Replied}
      → Joint messages m w commands (a_reply command replied ∷ packets) kept
      → Allows m (Message.answers command replied) next
      → Joint (messages ++ Message.answers command replied ∷ []) next w commands packets kept
  takes : {messages : List Message} {m next : Machine} {w : World} {commands : List TargetCommand}
      {packets : List Packet} {kept : List Composite} {composite : Composite} {at : ℕ}
      → Joint messages m w commands (some_events composite ∷ packets) kept
      → Allows m (Message.comes at composite) next
      → Joint (messages ++ Message.comes at composite ∷ []) next w commands packets kept
  keeps : {messages : List Message} {m next : Machine} {w : World} {commands : List TargetCommand}
      {packets : List Packet} {kept : List Composite} {composite : Composite} {at : ℕ} {body : List ℕ}
      → Joint messages m w commands (some_events composite ∷ packets) kept → composite_at w.sizes body ≡ Ok composite
      → Allows m (Message.keeps at body) next
      → Joint (messages ++ Message.keeps at body ∷ []) next w commands packets (kept ++ composite ∷ [])
  reads : {messages : List Message} {m next : Machine} {w : World} {commands : List TargetCommand}
      {packets : List Packet} {kept : List Composite} {composite : Composite} {at : ℕ} {body : List ℕ}
      → Joint messages m w commands packets (composite ∷ kept) → composite_at w.sizes body ≡ Ok composite
      → Allows m (Message.reads at body composite) next
      → Joint (messages ++ Message.reads at body composite ∷ []) next w commands packets kept
  loses : {messages : List Message} {m next : Machine} {w : World} {commands : List TargetCommand}
      {packets : List Packet} {kept : List Composite} → Joint messages m w commands packets kept
      → Allows m Message.ends next → Joint (messages ++ Message.ends ∷ []) next w commands packets kept
  serves : {messages : List Message} {m : Machine} {w now : World} {packets : List Packet} {kept : List Composite}
      {replied : Replied} (command : TargetCommand) (before after : List TargetCommand)
      → Joint messages m w (before ++ command ∷ after) packets kept → Serves w (wire command) replied now
      → Joint messages m now (before ++ after) (packets ++ a_reply command replied ∷ []) kept
  runs : {messages : List Message} {m : Machine} {w now : World} {commands : List TargetCommand}
      {packets : List Packet} {kept : List Composite} → Joint messages m w commands packets kept → Runs w now
      → Joint messages m now commands packets kept
  emits : {messages : List Message} {m : Machine} {w now : World} {commands : List TargetCommand}
      {packets : List Packet} {kept : List Composite} {composite : Composite}
      → Joint messages m w commands packets kept → Emits w composite now
      → Joint messages m now commands (packets ++ some_events composite ∷ []) kept
  dies : {messages : List Message} {m : Machine} {w : World} {commands : List TargetCommand} {packets : List Packet}
      {kept : List Composite} → Joint messages m w commands packets kept
      → Joint messages m (record w { dead = true }) commands packets kept
