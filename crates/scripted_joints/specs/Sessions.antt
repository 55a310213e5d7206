-- A session over a scripted target: a run of the machine beside calls of the target. The machine goes on as beside any
-- target (crate joint_model), and what is fed to the target are the machine's commands, in the order in which they were
-- sent.
use Rattle.std.specs.Prelude.{ℕ, ◌≡◌, ◌∷◌, ◌++◌, false, true, not, ◌&&◌, if◌then◌else◌, List, [], remove, slice_get, Ok}
use Rattle.std.specs.Prelude.{take, Option, None, Some}
use Rattle.jdwp_values.specs.declared.id.ThreadId.{ThreadId}
use Rattle.jdwp_events.specs.declared.kind.Policy.{Policy}
use Rattle.jdwp_events.specs.Composites.{composite_at}
use Rattle.joint_model.specs.Joints.{Packet, a_reply, is_aside, some_events}
use Rattle.joint_model.specs.Names.{Act, TargetCommand}
use Rattle.machine_model.specs.Due.{due}
use Rattle.machine_model.specs.Names.{Composite, Replied}
use Rattle.machine_model.specs.Replying.{wire}
use Rattle.machine_model.specs.Runs.{Allows, Message}
use Rattle.machine_model.specs.State.{Machine, fresh}
use Rattle.target_server.specs.declared.commands.Command.{Command}
use Rattle.target_server.specs.declared.trouble.TargetTrouble.{TargetTrouble}
use Rattle.target_server.specs.Courses.{fresh as fed_nothing}
use Rattle.target_server.specs.Hearing.{Feeds, FeedsUpTo, TargetState}
use Rattle.target_server.specs.Joints.{Advances, Joint, Serves, end_of, left, start_of}
use Rattle.world_model.specs.declared.moves.Move.{Move}
use Rattle.world_model.specs.declared.world.World.{World}
use Rattle.scripted_joints.specs.Scripts.{IsScript}
use Rattle.scripted_joints.specs.Sides.{Said}

-- the events that go on their way, if any
abbrev pub and_events : Option Composite → List Packet
and_events None = []
and_events (Some composite) = some_events composite ∷ []

-- the start of a target, where its debugger's handshake was answered (JDWP, JDWP Start Up)
abbrev pub begun_by : Joint → Joint → Option Composite
begun_by old new =
    if new.flight.greeted && not old.flight.greeted then start_of old.world.dead old.begin else None

-- the commands that a target has unserved are the first of those that were sent to it and not served
abbrev pub AreFirst : List Command → List TargetCommand → Type 0
AreFirst [] asked = Unit {0}
AreFirst (command ∷ unserved) [] = ⊥
AreFirst (command ∷ unserved) (sent ∷ asked) = (command.asked ≡ wire sent) × AreFirst unserved asked

-- The messages so far and the machine; the target; the commands that were sent and not served, in order; the packets in
-- flight from the target, in order; and the composites that the machine keeps unread. Pieces are fed at any time, and
-- their commands are those that were sent.
pub data Session : List Message → Machine → TargetState → List TargetCommand → List Packet → List Composite → Type 0 where
  starts : {world : World} {program : List Move} {begin : Option (ThreadId × Policy)} → IsScript world begin
      → Session [] fresh (fed_nothing world program begin) [] [] []
  goes : {messages : List Message} {m : Machine} {t : TargetState} {asked : List TargetCommand} {packets : List Packet}
      {kept : List Composite} → Session messages m t asked packets kept → (due false m).act ≡ Act.Goes
      → Session messages (due false m).next t asked packets kept
  says : {messages : List Message} {m next : Machine} {t : TargetState} {asked : List TargetCommand} {packets : List Packet}
      {kept : List Composite} {message : Message} → Session messages m t asked packets kept → Allows m message next
      → is_aside message ≡ true → Session (messages ++ message ∷ []) next t asked packets kept
  sends : {messages : List Message} {m next : Machine} {t : TargetState} {asked : List TargetCommand}
      {packets : List Packet} {kept : List Composite} {command : TargetCommand}
      → Session messages m t asked packets kept → Allows m (Message.sends command) next
      → Session (messages ++ Message.sends command ∷ []) next t (asked ++ command ∷ []) packets kept
  gets : {messages : List Message} {m next : Machine} {t : TargetState} {asked : List TargetCommand} {packets : List Packet}
      {kept : List Composite} {command : TargetCommand} {replied : Replied}
      → Session messages m t asked (a_reply command replied ∷ packets) kept
      → Allows m (Message.answers command replied) next
      → Session (messages ++ Message.answers command replied ∷ []) next t asked packets kept
  takes : {messages : List Message} {m next : Machine} {t : TargetState} {asked : List TargetCommand}
      {packets : List Packet} {kept : List Composite} {composite : Composite} {at : ℕ}
      → Session messages m t asked (some_events composite ∷ packets) kept → Allows m (Message.comes at composite) next
      → Session (messages ++ Message.comes at composite ∷ []) next t asked packets kept
  keeps : {messages : List Message} {m next : Machine} {t : TargetState} {asked : List TargetCommand}
      {packets : List Packet} {kept : List Composite} {composite : Composite} {at : ℕ} {body : List ℕ}
      → Session messages m t asked (some_events composite ∷ packets) kept
      → composite_at t.joint.world.sizes body ≡ Ok composite → Allows m (Message.keeps at body) next
      → Session (messages ++ Message.keeps at body ∷ []) next t asked packets (kept ++ composite ∷ [])
  reads : {messages : List Message} {m next : Machine} {t : TargetState} {asked : List TargetCommand}
      {packets : List Packet} {kept : List Composite} {composite : Composite} {at : ℕ} {body : List ℕ}
      → Session messages m t asked packets (composite ∷ kept) → composite_at t.joint.world.sizes body ≡ Ok composite
      → Allows m (Message.reads at body composite) next
      → Session (messages ++ Message.reads at body composite ∷ []) next t asked packets kept
  loses : {messages : List Message} {m next : Machine} {t : TargetState} {asked : List TargetCommand}
      {packets : List Packet} {kept : List Composite} → Session messages m t asked packets kept
      → Allows m Message.ends next → Session (messages ++ Message.ends ∷ []) next t asked packets kept
  feeds : {messages : List Message} {m : Machine} {t new : TargetState} {asked : List TargetCommand}
      {packets : List Packet} {kept : List Composite} (piece : List ℕ) → Session messages m t asked packets kept
      → Feeds t piece new → AreFirst new.joint.unserved asked
      → Session messages m new asked (packets ++ and_events (begun_by t.joint new.joint)) kept
  feeds_up_to : {messages : List Message} {m : Machine} {t new : TargetState} {asked : List TargetCommand}
      {packets : List Packet} {kept : List Composite} (piece : List ℕ) (trouble : TargetTrouble)
      → Session messages m t asked packets kept → FeedsUpTo t piece trouble new → AreFirst new.joint.unserved asked
      → Session messages m new asked (packets ++ and_events (begun_by t.joint new.joint)) kept
  serves : {messages : List Message} {m : Machine} {t : TargetState} {joint : Joint} {asked : List TargetCommand}
      {packets : List Packet} {kept : List Composite} (place : ℕ) (sent : TargetCommand)
      → Session messages m t asked packets kept → (serves : Serves t.joint place joint)
      → slice_get asked place ≡ Some sent
      → Session messages m (record t { joint = joint }) (remove asked place)
      (packets ++ a_reply sent serves.reply ∷ and_events (end_of t.joint.world.dead joint.world.dead)) kept
  advances : {messages : List Message} {m : Machine} {t : TargetState} {joint : Joint} {asked : List TargetCommand}
      {packets : List Packet} {kept : List Composite} → Session messages m t asked packets kept
      → (advances : Advances t.joint joint)
      → Session messages m (record t { joint = joint }) asked (packets ++ and_events advances.made.1) kept
  leaves : {messages : List Message} {m : Machine} {t : TargetState} {asked : List TargetCommand}
      {packets : List Packet} {kept : List Composite} (n : ℕ) → Session messages m t asked packets kept
      → Session messages m (record t { joint = left n t.joint }) asked packets kept

-- what is said by a packet
abbrev pub said_in : Packet → Said
said_in (a_reply command replied) = Said.of_reply replied
said_in (some_events composite) = Said.of_events composite

-- the bytes that went out in a session
abbrev pub went_out : {messages : List Message} {m : Machine} {t : TargetState} {asked : List TargetCommand}
    {packets : List Packet} {kept : List Composite} → Session messages m t asked packets kept → List ℕ
went_out (Session.starts is) = []
went_out (Session.goes s is) = went_out s
went_out (Session.says s allows aside) = went_out s
went_out (Session.sends s allows) = went_out s
went_out (Session.gets s allows) = went_out s
went_out (Session.takes s allows) = went_out s
went_out (Session.keeps s is allows) = went_out s
went_out (Session.reads s is allows) = went_out s
went_out (Session.loses s allows) = went_out s
went_out (Session.feeds piece s f first) = went_out s ++ []
went_out (Session.feeds_up_to piece trouble s f first) = went_out s ++ []
went_out (Session.serves place sent s v at) = went_out s ++ []
went_out (Session.advances s a) = went_out s ++ []
went_out (Session.leaves {t = t} n s) = went_out s ++ take n t.joint.flight.bytes
