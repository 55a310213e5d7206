-- What arrives from a target that obeys JDWP: no composite of it suspends one thread alone.
use Rattle.std.specs.Prelude.{◌≡◌, Bool, true, false, List}
use Rattle.std.specs.List.{AllByRecursion}
use Rattle.jdwp_events.specs.declared.kind.Policy.{Policy}
use Rattle.jdwp_events.specs.declared.kind.Policy.TheVariants.{All, EventThread, NoThread}
use Rattle.joint_model.specs.Joints.{Joint, Packet, a_reply, some_events}
use Rattle.joint_model.specs.Names.{TargetCommand}
use Rattle.machine_model.specs.Names.{Composite}
use Rattle.machine_model.specs.Runs.{Message}
use Rattle.machine_model.specs.State.{Machine}
use Rattle.world_model.specs.declared.world.World.{World}

-- it suspends no thread, or all of them (JDWP, Constants, SuspendPolicy)
abbrev pub is_whole : Policy → Bool
is_whole NoThread = true
is_whole EventThread = false
is_whole All = true

abbrev pub IsWhole : Composite → Type 0
IsWhole composite = is_whole composite.policy ≡ true

abbrev pub IsWholePacket : Packet → Type 0
IsWholePacket (a_reply command replied) = Unit {0}
IsWholePacket (some_events composite) = IsWhole composite

abbrev pub IsWholeMessage : Message → Type 0
IsWholeMessage (Message.comes at composite) = IsWhole composite
IsWholeMessage (Message.reads at body composite) = IsWhole composite
IsWholeMessage _ = Unit {0}

-- composites that came, are in flight, and are unread
pub record AreWhole (messages : List Message) (packets : List Packet) (kept : List Composite) : Type 0 where
  pub came : AllByRecursion IsWholeMessage messages
  pub flying : AllByRecursion IsWholePacket packets
  pub unread : AllByRecursion IsWhole kept

-- No composite suspends one thread alone.
abbrev pub NoneSuspendsOne : Type 0
NoneSuspendsOne = (messages : List Message) (m : Machine) (w : World) (commands : List TargetCommand)
    (packets : List Packet) (kept : List Composite) → Joint messages m w commands packets kept
    → AreWhole messages packets kept
