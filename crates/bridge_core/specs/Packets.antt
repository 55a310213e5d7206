-- What the target's packets do to a core, in the words of the code.
use Rattle.std.specs.Prelude.{ℕ, ◌≡◌, ◌<◌, true, false, List, length, remove, Some}
use Rattle.jdwp_commands.specs.declared.asked.Asked.{Asked}
use Rattle.jdwp_commands.specs.declared.asked.Asked.TheVariants as commands
use Rattle.jdwp_commands.specs.declared.asked.Replied.{Replied}
use Rattle.jdwp_commands.specs.declared.effect.Effect.{Effect as WireEffect}
use Rattle.jdwp_commands.specs.declared.question.Question.{Question}
use Rattle.jdwp_events.specs.declared.composite.Composite.{Composite}
use Rattle.jdwp_packets.specs.Packets.{Packet}
use Rattle.jdwp_values.specs.declared.sizes.IdSizes.{IdSizes}
use Rattle.machine_model.specs.Replying.{SizesFor, answered}
use Rattle.machine_model.specs.Runs.{with_item}
use Rattle.machine_model.specs.State.{Hand, Machine, is_gone}
use Rattle.machine_model.specs.declared.acts.Effect.{Effect}
use Rattle.machine_model.specs.declared.acts.TargetCommand.TheVariants.{Effect as an_effect, Question as a_question}
use Rattle.machine_model.specs.declared.items.Item.TheVariants.{Composite as a_composite}
use Rattle.pending_table.specs.Windows.{pending_under, settled}
use Rattle.bridge_core.specs.Calls.{TakesPacket}
use Rattle.bridge_core.specs.Cores.{CoreState, IsSound, with_machine}
use Rattle.message_bodies.specs.Hearing.{IsJudged, IsRefused}
use Rattle.target_bodies.specs.Hearing.{IsBadBody, ReadsComposite}
use Rattle.bridge_core.specs.Moving.{IsFlight}
use Rattle.session_endings.specs.declared.ending.Ending.{Ending}
use Rattle.session_endings.specs.declared.ending.Ending.TheVariants.{NoMemory}
use Rattle.session_facts.specs.Effects.{IsNext}

-- a packet was heard, and the core is sound behind it
pub record Hears (old : CoreState) (at : ℕ) (packet : Packet) (new : CoreState) : Type 0 where
  pub takes : TakesPacket old at packet new
  pub sound : IsSound new

-- Composites ----------------------------------------------------------------------------------------------------------

-- a composite that can be read is taken
pub record IsTakenIn (old : CoreState) (used : IdSizes) (at : ℕ) (body : List ℕ) (new : CoreState) : Type 0 where
  pub composite : Composite
  pub reads : ReadsComposite used body composite
  pub same : new ≡ with_machine old (with_item old.machine (a_composite at composite))

-- one that can't be read ends the session
pub data IsUntaken (old : CoreState) (used : IdSizes) (at : ℕ) (body : List ℕ) (new : CoreState) : Ending → Type 0
  where
    no_memory : IsUntaken old used at body new NoMemory
    bad_body : {ending : Ending} → IsBadBody used body at ending → new ≡ old → IsUntaken old used at body new ending

-- Replies -------------------------------------------------------------------------------------------------------------

-- a command at this place of those that are pending can be replied to
pub record CanReply (m : Machine) (place : ℕ) : Type 0 where
  pub late : is_gone m.state.phase ≡ true → place < length m.late
  pub next : (hand : Hand) (effect : Effect) → IsFlight m hand effect → IsNext effect m.state.wishes

-- this command, at this place of those that are pending, is replied to
pub data Replies (m : Machine) (place : ℕ) (asked : Asked) (replied : Replied) (next : Machine) : Type 0 where
  late : is_gone m.state.phase ≡ true → next ≡ record m { late = remove m.late place }
      → Replies m place asked replied next
  question : (question : Question) → is_gone m.state.phase ≡ false → asked ≡ commands.Question question
      → ((hand : Hand) → m.hand ≡ Some hand → next ≡ answered m (a_question question) replied)
      → Replies m place asked replied next
  effect : (effect : WireEffect) → is_gone m.state.phase ≡ false → asked ≡ commands.Effect effect
      → ((hand : Hand) (of : Effect) → IsFlight m hand of → next ≡ answered m (an_effect of) replied)
      → Replies m place asked replied next

-- the command under this id was replied to, and is pending no more
pub record IsSettled (old : CoreState) (id place error : ℕ) (body : List ℕ) (new : CoreState) : Type 0 where
  pub asked : Asked
  pub replied : Replied
  pub used : IdSizes
  pub has : pending_under id old.commands.sent ≡ Some asked
  pub serves : SizesFor old.machine.state.sizes used
  pub judged : IsJudged used asked error body replied
  pub replies : Replies old.machine place asked replied new.machine
  pub same : new ≡ record old { machine = new.machine; commands = settled id old.commands }

-- the reply to the command under this id ends the session
pub data IsUnsettled (old : CoreState) (at id error : ℕ) (body : List ℕ) (new : CoreState) : Ending → Type 0 where
  no_memory : IsUnsettled old at id error body new NoMemory
  refused : {ending : Ending} (asked : Asked) (used : IdSizes) → pending_under id old.commands.sent ≡ Some asked
      → SizesFor old.machine.state.sizes used → IsRefused used asked at error body ending
      → new ≡ record old { commands = settled id old.commands } → IsUnsettled old at id error body new ending
