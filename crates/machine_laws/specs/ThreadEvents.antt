-- The event `thread`, in every run (DAP specification, Events, Thread). The laws stand at the end, behind what they
-- speak of.
use Rattle.std.specs.Prelude.{◌≡◌, ℕ, ◌∷◌, ◌++◌, Bool, true, false, List, [], Some}
use Rattle.std.specs.List.{flat_map}
use Rattle.dap_messages.specs.declared.told.Event.TheVariants as events
use Rattle.dap_messages.specs.declared.told.ThreadChange.{ThreadChange}
use Rattle.jdwp_events.specs.declared.event.Event.{Event as ATargetEvent}
use Rattle.jdwp_events.specs.declared.event.Event.TheVariants as happened
use Rattle.machine_model.specs.Due.{due}
use Rattle.machine_model.specs.Knowing.{HasNumber}
use Rattle.machine_model.specs.Rest.{IsAtRest}
use Rattle.machine_model.specs.Runs.{Message, Run}
use Rattle.machine_model.specs.State.{Hand, Machine}
use Rattle.machine_steps.specs.Names.{Act, Attached, Composite, ThreadId, a_composite, an_event}

-- a thread, and whether it has started or has ended
pub record Change : Type 0 where
  pub started : Bool
  pub thread : ThreadId

-- what an event of the target tells of a thread (JDWP, Event command set, Composite, ThreadStart and ThreadDeath)
abbrev pub changes_by : ATargetEvent → List Change
changes_by (happened.ThreadStart request thread) = record { started = true; thread = thread } ∷ []
changes_by (happened.ThreadDeath request thread) = record { started = false; thread = thread } ∷ []
changes_by _ = []

abbrev pub changes_in : Composite → List Change
changes_in composite = flat_map changes_by composite.events

-- the composites that came, in order
abbrev pub composite_by : Message → List Composite
composite_by (Message.comes at composite) = composite ∷ []
composite_by (Message.reads at body composite) = composite ∷ []
composite_by _ = []

-- what they told of threads
abbrev pub changes_of : List Message → List Change
changes_of messages = flat_map changes_in (flat_map composite_by messages)

abbrev pub told_by : Message → List ThreadChange
told_by (Message.tells (an_event (events.Thread told))) = told ∷ []
told_by _ = []

-- what the client was told of threads by the event
abbrev pub told_of : List Message → List ThreadChange
told_of messages = flat_map told_by messages

-- These were told so, one by one, in order: as started or as ended, each thread by its number.
pub data AreToldAs (threads : List ThreadId) : List Change → List ThreadChange → Type 0 where
  none : AreToldAs threads [] []
  one_more : {changes : List Change} {told : List ThreadChange} (change : Change) {number : ℕ}
      → AreToldAs threads changes told → HasNumber threads change.thread number
      → AreToldAs threads (changes ++ change ∷ []) (told ++ record { started = change.started; id = number } ∷ [])

-- The client was told the first of what the composites told of threads; at rest, once the session is attached, all of
-- it.
pub record AreThreadsTold (messages : List Message) (m : Machine) : Type 0 where
  pub first : List Change
  pub others : List Change
  pub came : changes_of messages ≡ first ++ others
  pub told : AreToldAs m.state.threads first (told_of messages)
  pub all : IsAtRest m → m.state.phase ≡ Attached → others ≡ []

-- By an event of the composite in hand a thread has started or has ended, and it has this number once it is told.
pub record IsChange (m next : Machine) (told : ThreadChange) : Type 0 where
  pub hand : Hand
  pub place : ℕ
  pub composite : Composite
  pub before : List Change
  pub after : List Change
  pub thread : ThreadId
  pub is_held : m.hand ≡ Some hand
  pub is_item : hand.item ≡ a_composite place composite
  pub changes_are : changes_in composite ≡ before ++ record { started = told.started; thread = thread } ∷ after
  pub number_is : HasNumber next.state.threads thread told.id

-- Starts and ends of threads are told in the order in which they came, and at rest all are.
abbrev pub TellsThreads : Type 0
TellsThreads = (messages : List Message) (m : Machine) → Run messages m → AreThreadsTold messages m

-- Each is told while its composite is in hand.
abbrev pub TellsInHand : Type 0
TellsInHand = (messages : List Message) (m : Machine) (told : ThreadChange) → Run messages m
    → (due false m).act ≡ Act.Tells (an_event (events.Thread told)) → IsChange m (due false m).next told
