-- What is asked of a session that is to end well: of its client, of its target, of its links and of its limits. Each is
-- said of the log, and of the messages that are said in it.
use Rattle.std.specs.Prelude.{ℕ, ◌≡◌, ◌<◌, ◌≤◌, ◌++◌, Bool, true, false, List, Some, count_by, length, map, replicate}
use Rattle.std.specs.List.{AllByRecursion, flat_map}
use Rattle.clean_sessions.specs.Client.{AreMessages}
use Rattle.clean_sessions.specs.Target.{IsWellFormed, ReadsAsComposite, StandsNext}
use Rattle.jdwp_commands.specs.declared.asked.Asked.{Asked}
use Rattle.jdwp_events.specs.declared.kind.Policy.{Policy}
use Rattle.jdwp_events.specs.declared.kind.Policy.TheVariants.{All, EventThread, NoThread}
use Rattle.jdwp_packets.specs.Packets.{Packet, reply_packet}
use Rattle.jdwp_packets.specs.declared.fault.PacketFault.{PacketFault}
use Rattle.machine_model.specs.Replying.{is_tolerated, wire}
use Rattle.machine_model.specs.Runs.{Message, Run}
use Rattle.machine_model.specs.State.{Machine}
use Rattle.pending_table.specs.Windows.{pending_under}
use Rattle.session_causes.specs.Outside.{HasEntry, client_end}
use Rattle.session_laws.specs.Bytes.{came_from}
use Rattle.session_laws.specs.Replies.{kept_by, under_id}
use Rattle.session_laws.specs.Turns.{comes}
use Rattle.session_model.specs.Names.{Client, Entry, Failed, Limits, Quiet, Side, TargetCommand}
use Rattle.wire_core.specs.Streams.{Front}

-- The client ----------------------------------------------------------------------------------------------------------

-- its bytes are well formed up to a `disconnect`
abbrev pub ClientSpeaks : List Entry → Type 0
ClientSpeaks log = AreMessages (came_from Client log)

-- its stream doesn't end
abbrev pub ClientStays : List Entry → Type 0
ClientStays log = ¬ HasEntry client_end log

-- The links -----------------------------------------------------------------------------------------------------------

-- the side's link doesn't fail, neither where it is waited for nor in a send
abbrev pub LinkHolds : Side → List Entry → Type 0
LinkHolds side log = ¬ HasEntry (Failed side) log

-- The target ----------------------------------------------------------------------------------------------------------

-- what stands next in its bytes is well formed
abbrev pub TargetSpeaks : List Entry → List Message → Type 0
TargetSpeaks log messages = (unreplied : List (ℕ × Asked)) (front : Front Packet PacketFault)
    → StandsNext log messages unreplied front → IsWellFormed messages unreplied front

-- composites that came before the sizes of ids were replied read with these (JDWP, Event command set, Composite)
abbrev pub KeptRead : List Message → Type 0
KeptRead messages =
    AllByRecursion (λ (kept : ℕ × List ℕ). ReadsAsComposite messages kept.1) (flat_map kept_by messages)

-- it suspends the thread of its events, and no other (JDWP, Constants, SuspendPolicy)
abbrev pub suspends_one : Policy → Bool
suspends_one NoThread = false
suspends_one EventThread = true
suspends_one All = false

abbrev pub IsWhole : Message → Type 0
IsWhole (Message.comes at composite) = suspends_one composite.policy ≡ false
IsWhole (Message.reads at body composite) = suspends_one composite.policy ≡ false
IsWhole _ = Unit {0}

-- no composite suspends one thread alone
abbrev pub NoneSuspendsOne : List Message → Type 0
NoneSuspendsOne messages = AllByRecursion IsWhole messages

-- where an error stands next, as the reply to a command, it is tolerated (JDWP, JDWP Packets, reply packet)
abbrev pub RefusesLittle : List Entry → List Message → Type 0
RefusesLittle log messages = (unreplied : List (ℕ × Asked)) (command : TargetCommand) (id error n : ℕ) (body : List ℕ)
    → StandsNext log messages unreplied (Front.whole (reply_packet id error body) n)
    → pending_under id (map under_id unreplied) ≡ Some (wire command) → 0 < error → is_tolerated command error ≡ true

-- The limits ----------------------------------------------------------------------------------------------------------

-- no more items wait than may, wherever the machine stands behind these messages
abbrev pub FewWait : Limits → List Message → Type 0
FewWait limits messages = (m : Machine) → Run messages m → length m.waiting ≤ limits.waiting

-- nowhere are as many waits in vain as may be, side by side
abbrev pub IsPatient : Limits → List Entry → Type 0
IsPatient limits log =
    (before after : List Entry) → ¬ (log ≡ before ++ replicate limits.quiet Quiet ++ after)

-- a turn is left
abbrev pub HasTurnsLeft : Limits → List Entry → Type 0
HasTurnsLeft limits log = count_by comes log < limits.turns

-- All of them ---------------------------------------------------------------------------------------------------------

-- what is asked of a session that is to end well
pub data Premise : Type 0 where
  client_speaks : Premise
  client_stays : Premise
  links_hold : Premise
  target_speaks : Premise
  kept_read : Premise
  none_suspends_one : Premise
  refuses_little : Premise
  few_wait : Premise
  is_patient : Premise
  has_turns_left : Premise

-- a session with this log and these messages, within these limits, does what is asked
abbrev pub Does : Limits → List Entry → List Message → Premise → Type 0
Does limits log messages Premise.client_speaks = ClientSpeaks log
Does limits log messages Premise.client_stays = ClientStays log
Does limits log messages Premise.links_hold = (side : Side) → LinkHolds side log
Does limits log messages Premise.target_speaks = TargetSpeaks log messages
Does limits log messages Premise.kept_read = KeptRead messages
Does limits log messages Premise.none_suspends_one = NoneSuspendsOne messages
Does limits log messages Premise.refuses_little = RefusesLittle log messages
Does limits log messages Premise.few_wait = FewWait limits messages
Does limits log messages Premise.is_patient = IsPatient limits log
Does limits log messages Premise.has_turns_left = HasTurnsLeft limits log

-- Nothing goes wrong in it: it does all that is asked.
abbrev pub IsClean : Limits → List Entry → List Message → Type 0
IsClean limits log messages = (premise : Premise) → Does limits log messages premise
