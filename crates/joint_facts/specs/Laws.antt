-- What holds of every joint: what the machine knows of classes is so in the target's world.
use Rattle.std.specs.Prelude.{◌≡◌, true, false, List, Some}
use Rattle.class_tables.specs.Lookups.{found_in}
use Rattle.joint_facts.specs.Facts.{AreClassesOf}
use Rattle.joint_model.specs.Joints.{Joint, Packet}
use Rattle.joint_model.specs.Laws.{AreFactsOf, FailsAsThere, IsHeld, is_suspend, wrote_nothing}
use Rattle.joint_model.specs.Names.{Lookup, TargetCommand}
use Rattle.joint_model.specs.Obeying.{Replies}
use Rattle.machine_model.specs.Leaving.{sends_farewell}
use Rattle.machine_model.specs.Lookups.{found_for, plan}
use Rattle.machine_model.specs.Names.{Composite, Question, Replied}
use Rattle.machine_model.specs.Pending.{count, has_such}
use Rattle.machine_model.specs.PlanLaws.{Agrees, IsReply}
use Rattle.machine_model.specs.Plans.{of_world}
use Rattle.machine_model.specs.Replying.{pending_of}
use Rattle.machine_model.specs.Runs.{Message}
use Rattle.machine_model.specs.State.{Hand, Machine}
use Rattle.machine_model.specs.declared.acts.Sent.{Sent}
use Rattle.world_model.specs.Replies.{reply_of}
use Rattle.world_model.specs.declared.world.World.{World}

-- Facts of classes ----------------------------------------------------------------------------------------------------

-- What is known of classes is what a target that lives replies to a question for it.
abbrev pub FactsHold : Type 0
FactsHold = (messages : List Message) (m : Machine) (w : World) (commands : List TargetCommand)
    (packets : List Packet) (kept : List Composite) → Joint messages m w commands packets kept → w.dead ≡ false
    → AreFactsOf w m.state

-- What is known of classes is what the world has of them, also behind the target's end.
abbrev pub ClassesAreThere : Type 0
ClassesAreThere = (messages : List Message) (m : Machine) (w : World) (commands : List TargetCommand)
    (packets : List Packet) (kept : List Composite) → Joint messages m w commands packets kept
    → AreClassesOf w (found_in m.state.classes)

-- Look-ups ------------------------------------------------------------------------------------------------------------

-- what was replied for an item is what a target may reply that has this world
abbrev pub AreRepliesOf : World → List Sent → Type 0
AreRepliesOf w asked = (question : Question) (replied : Replied) → IsReply asked question replied
    → Replies w question replied

-- a look-up has what it has in the world, and fails as a target that has this world may refuse
pub record IsSeenIn (w : World) (m : Machine) (hand : Hand) (lookup : Lookup) : Type 0 where
  pub agrees : Agrees (found_for lookup m.state hand) (of_world (reply_of w) (plan lookup m.state))
  pub fails : FailsAsThere w (found_for lookup m.state hand)

-- Beside a target that lives, a look-up whose replies are so in the target's world shows that world.
abbrev pub LookUpsShow : Type 0
LookUpsShow = (messages : List Message) (m : Machine) (w : World) (commands : List TargetCommand)
    (packets : List Packet) (kept : List Composite) (hand : Hand) (lookup : Lookup)
    → Joint messages m w commands packets kept → w.dead ≡ false → AreRepliesOf w hand.asked
    → IsSeenIn w m hand lookup

-- While a suspension is held, a look-up that is done for an item for which nothing was written has what it has in the
-- target's world as that stands; and one that has failed has nothing there.
abbrev pub ShowsAsItStands : Type 0
ShowsAsItStands = (messages : List Message) (m : Machine) (w : World) (commands : List TargetCommand)
    (packets : List Packet) (kept : List Composite) (hand : Hand) (lookup : Lookup)
    → Joint messages m w commands packets kept → w.dead ≡ false → has_such sends_farewell messages ≡ false
    → IsHeld m → count is_suspend (pending_of m) ≡ 0 → m.hand ≡ Some hand → wrote_nothing hand ≡ true
    → Agrees (found_for lookup m.state hand) (of_world (reply_of w) (plan lookup m.state))
