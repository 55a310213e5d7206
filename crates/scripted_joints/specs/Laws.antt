-- What holds of each scripted target: it is one that obeys JDWP.
use Rattle.std.specs.Prelude.{◌≡◌, ℕ, ◌+◌, false, true, List, [], ◌++◌, reverse, take, Option, map}
use Rattle.std.specs.List.{AllByRecursion}
use Rattle.jdwp_values.specs.declared.id.ThreadId.{ThreadId}
use Rattle.jdwp_events.specs.declared.kind.Policy.{Policy}
use Rattle.jdwp_commands.specs.declared.asked.Replied.TheVariants.{Error as an_error}
use Rattle.joint_model.specs.Joints.{Joint as Beside, Packet}
use Rattle.joint_model.specs.Laws.{held, untold}
use Rattle.joint_model.specs.Names.{TargetCommand}
use Rattle.machine_model.specs.Leaving.{sends_farewell}
use Rattle.machine_model.specs.Names.{Composite}
use Rattle.machine_model.specs.Pending.{has_such}
use Rattle.machine_model.specs.Runs.{Message}
use Rattle.machine_model.specs.Replying.{IsReply as IsTaken, wire}
use Rattle.machine_model.specs.State.{Machine, SizesRead}
use Rattle.target_server.specs.Courses.{Calls, Course, fresh}
use Rattle.target_server.specs.Hearing.{TargetState}
use Rattle.target_server.specs.Joints.{Joint, Serves}
use Rattle.world_model.specs.declared.moves.Move.{Move}
use Rattle.world_model.specs.declared.world.World.{World}
use Rattle.scripted_joints.specs.Scripts.{IsScript, IsScripted}
use Rattle.scripted_joints.specs.Sessions.{Session, said_in, went_out}
use Rattle.scripted_joints.specs.Sides.{AreSent, CanSend, IsBeside, Obeys, Sent, Side, said_of}

-- the same of the target: once its debugger's handshake came it has sent its own
pub record IsTarget (t : TargetState) : Type 0 where
  pub scripted : IsScripted t.joint
  pub aligned : t.heard.greeted ≡ true → t.joint.flight.greeted ≡ true

-- the bytes that go out by a call
abbrev pub out_by : {old new : TargetState} → Calls old new → List ℕ
out_by {old} (Calls.sends n) = take n old.joint.flight.bytes
out_by (Calls.feeds piece feeds) = []
out_by (Calls.feeds_up_to piece trouble feeds) = []
out_by (Calls.serves place serves) = []
out_by (Calls.advances advances) = []

-- and by a course of calls
abbrev pub out_of : {begin now : TargetState} → Course begin now → List ℕ
out_of Course.begins = []
out_of (Course.calls before call) = out_of before ++ out_by call

-- a target that obeys JDWP comes from one side to another that stands beside a scripted target
pub record Follows (old : Side) (out : List ℕ) (t : TargetState) : Type 0 where
  pub side : Side
  pub obeys : Obeys old side
  pub beside : IsBeside out t.joint side

-- Each call of a scripted target is a course of a target that obeys JDWP, with the same world, commands and bytes.
abbrev pub CallsObey : Type 0
CallsObey = (old new : TargetState) (out : List ℕ) (side : Side) → IsTarget old → IsBeside out old.joint side
    → (call : Calls old new) → IsTarget new × Follows side (out ++ out_by call) new

-- the side of a target to which nothing was fed
abbrev pub first_side : World → Side
first_side world = record { world = world; unserved = []; sent = [] }

-- And so is each course of calls, whatever is fed, served, moved and read, in any order.
abbrev pub CoursesObey : Type 0
CoursesObey = (world : World) (program : List Move) (begin : Option (ThreadId × Policy)) (now : TargetState)
    → IsScript world begin → (course : Course (fresh world program begin) now)
    → Follows (first_side world) (out_of course) now

-- Sessions ------------------------------------------------------------------------------------------------------------

-- A session over a scripted target is a joint of the machine and a target that obeys JDWP, with the same world, and the
-- same messages on their way. So each law of crate joint_model holds of it, with no premise on the target.
abbrev pub SessionsJoin : Type 0
SessionsJoin = (messages : List Message) (m : Machine) (t : TargetState) (asked : List TargetCommand)
    (packets : List Packet) (kept : List Composite) → Session messages m t asked packets kept
    → Beside messages m t.joint.world (reverse asked) packets kept

-- These packets are in flight: the bytes that went out, and those on their way, are the handshake and the packets of
-- what was read, and then of these.
pub record AreInFlight (t : TargetState) (out : List ℕ) (packets : List Packet) : Type 0 where
  pub read : List Sent
  pub flying : List Sent
  pub same : map said_of flying ≡ map said_in packets
  pub spelled : AllByRecursion (CanSend t.joint.world.sizes) (read ++ flying)
  pub bytes : AreSent t.joint.world.sizes (read ++ flying) out t.joint.flight

-- In a session the packets in flight are so.
abbrev pub SessionsSend : Type 0
SessionsSend = (messages : List Message) (m : Machine) (t : TargetState) (asked : List TargetCommand)
    (packets : List Packet) (kept : List Composite) (session : Session messages m t asked packets kept)
    → AreInFlight t (went_out session) packets

-- For instance: while it lives and wasn't left, it is suspended as often as the messages say, and as is still untold.
abbrev pub SessionsBalance : Type 0
SessionsBalance = (messages : List Message) (m : Machine) (t : TargetState) (asked : List TargetCommand)
    (packets : List Packet) (kept : List Composite) → Session messages m t asked packets kept
    → t.joint.world.dead ≡ false → has_such sends_farewell messages ≡ false
    → t.joint.world.count ≡ held messages + untold (reverse asked) packets kept

-- And an error that a scripted target replies ends no session: what a session can't do without isn't refused, unless the
-- target has ended.
abbrev pub ErrorsTaken : Type 0
ErrorsTaken = (old new : Joint) (place : ℕ) (serves : Serves old place new) (sizes : Option SizesRead)
    (sent : TargetCommand) (code : ℕ) → serves.command.asked ≡ wire sent → serves.reply ≡ an_error code
    → IsTaken sizes sent (an_error code)
