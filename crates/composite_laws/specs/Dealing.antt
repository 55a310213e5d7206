-- What becomes of the composites that suspend the whole target, in every run (JDWP, Event command set, Composite). The
-- laws stand at the end, behind what they speak of.
use Rattle.std.specs.Prelude.{ℕ, ◌≡◌, ◌∷◌, ◌++◌, ◌||◌, Bool, true, false, not, cond, List, [], Some}
use Rattle.std.specs.List.{AllByRecursion, list_any}
use Rattle.dap_messages.specs.declared.told.Event.TheVariants as events
use Rattle.dap_messages.specs.declared.told.StopReason.{StopReason}
use Rattle.dap_messages.specs.declared.told.StopReason.TheVariants as reasons
use Rattle.jdwp_events.specs.declared.event.Event.{Event as ATargetEvent}
use Rattle.jdwp_events.specs.declared.event.Event.TheVariants as happened
use Rattle.jdwp_events.specs.declared.kind.EventKind.TheVariants as kinds
use Rattle.jdwp_events.specs.declared.kind.Policy.{Policy}
use Rattle.jdwp_events.specs.declared.kind.Policy.TheVariants.{NoThread, EventThread, All}
use Rattle.machine_model.specs.Composites.{has_death}
use Rattle.machine_model.specs.Due.{behind_first}
use Rattle.machine_model.specs.Knowing.{View, nothing_said, says, turned_view, view_of}
use Rattle.machine_model.specs.Rest.{IsAtRest}
use Rattle.machine_model.specs.Runs.{Message, Run}
use Rattle.machine_model.specs.State.{Hand, Machine, is_empty, is_gone}
use Rattle.machine_model.specs.Stops.{is_live}
use Rattle.machine_steps.specs.Names.{Attached, Composite, Decides, Does, Part, Resume, Strike, a_composite, an_effect}
use Rattle.machine_steps.specs.Names.{an_event, of_composite}
use Rattle.wish_sets.specs.Entries.{entries_at}

-- The test ------------------------------------------------------------------------------------------------------------

-- By this event the target stops, under an event request that is installed: a thread came to a place where a breakpoint
-- stands, it threw something, or its step has ended (JDWP, Event command set, Composite, Breakpoint, Exception and
-- SingleStep; DAP specification, Events, Stopped).
abbrev pub is_stopping : Machine → ATargetEvent → Bool
is_stopping m (happened.Breakpoint request thread at) =
    cond (is_live m.state.wishes kinds.Breakpoint request) (not (is_empty (entries_at m.state.wishes.wanted at))) false
is_stopping m (happened.Exception request thread at exception catch) = is_live m.state.wishes kinds.Exception request
is_stopping m (happened.SingleStep request thread at) = is_live m.state.wishes kinds.SingleStep request
is_stopping m _ = false

-- the target's start (JDWP, Event command set, Composite, VMStart)
abbrev pub is_start : ATargetEvent → Bool
is_start (happened.VMStart request thread) = true
is_start _ = false

-- A composite is held as the target's entry: it tells of the start, the client hasn't configured all, and no other
-- entry is held (DAP specification, ConfigurationDone request).
abbrev pub is_entry : Machine → Composite → Bool
is_entry m composite =
    cond (list_any is_start composite.events) (not (m.state.configured || m.state.entry)) false

-- here it is decided what becomes of the composite, which is in hand: nothing more is to be logged
pub record IsDecision (messages : List Message) (composite : Composite) (m : Machine) : Type 0 where
  pub run : Run messages m
  pub hand : Hand
  pub place : ℕ
  pub stops : List Strike
  pub is_held : m.hand ≡ Some hand
  pub is_item : hand.item ≡ a_composite place composite
  pub decides : hand.parts ≡ Part.Unfolds (Decides [] stops) ∷ []

-- What is to be done --------------------------------------------------------------------------------------------------

-- what is to be done with the suspension of a composite: it is to be decided on, a stop is to be told of it, or it is
-- to be undone
pub data Owed : Type 0 where
  a_decision : Composite → Owed
  a_stop : Composite → Owed
  a_resume : Composite → Owed

abbrev pub of_whom : Owed → Composite
of_whom (a_decision composite) = composite
of_whom (a_stop composite) = composite
of_whom (a_resume composite) = composite

-- one that suspends the whole target (JDWP, Constants, SuspendPolicy)
abbrev pub owed_under : Policy → Composite → List Owed
owed_under NoThread composite = []
owed_under EventThread composite = []
owed_under All composite = a_decision composite ∷ []

-- at its turn; with the target's end there is nothing to do (JDWP, Event command set, Composite, VMDeath)
abbrev pub owed_at_turn : Composite → List Owed
owed_at_turn composite = cond (has_death composite.events) [] (owed_under composite.policy composite)

-- Where it stops the target a stop is told, which holds the suspension; with a stop in hand it is undone behind that.
-- Else it is held as the entry, or undone (DAP specification, Events, Stopped; JDWP, VirtualMachine command set,
-- Resume).
abbrev pub owed_once_decided : Composite → Bool → Bool → Bool → List Owed
owed_once_decided composite true false entry = a_stop composite ∷ []
owed_once_decided composite true true entry = a_stop composite ∷ a_resume composite ∷ []
owed_once_decided composite false stopped true = []
owed_once_decided composite false stopped false = a_resume composite ∷ []

-- Messages ------------------------------------------------------------------------------------------------------------

-- a stop that the client didn't ask for (DAP specification, Events, Stopped, reason)
abbrev pub is_of_target : StopReason → Bool
is_of_target reasons.Pause = false
is_of_target _ = true

abbrev pub tells_stop : Message → Bool
tells_stop (Message.tells (an_event (events.Stopped stop))) = is_of_target stop.reason
tells_stop _ = false

-- the suspension of a composite is undone (JDWP, VirtualMachine command set, Resume)
abbrev pub undoes : Message → Bool
undoes (Message.sends (an_effect (Does (Resume of_composite)))) = true
undoes _ = false

abbrev pub stop_first : List Owed → Bool
stop_first (a_stop composite ∷ others) = true
stop_first _ = false

abbrev pub resume_first : List Owed → Bool
resume_first (a_resume composite ∷ others) = true
resume_first _ = false

-- such a message may be where it is the next to be done
abbrev pub may_deal : Message → List Owed → Bool
may_deal message owed =
    cond (tells_stop message) (stop_first owed) (cond (undoes message) (resume_first owed) true)

-- and then this is left; in a target that is gone there is nothing to do
abbrev pub owed_behind : Bool → Message → List Owed → List Owed
owed_behind true message owed = []
owed_behind false message owed = cond (tells_stop message || undoes message) (behind_first owed) owed

-- Read in order, the messages say this, and this is to be done with the composite that was at its turn last. Between
-- two of them a composite may be at its turn, the first that waits, once nothing is to be done with the one before; and
-- it may be decided on.
pub data AreDealtWith : List Message → View → List Owed → Type 0 where
  none : AreDealtWith [] nothing_said []
  turns : {messages : List Message} {view : View} (composite : Composite) (others : List Composite)
      → AreDealtWith messages view [] → view.phase ≡ Attached → view.composites ≡ composite ∷ others
      → AreDealtWith messages (turned_view composite others view) (owed_at_turn composite)
  decides : {messages : List Message} {view : View} {composite : Composite} {m : Machine}
      → AreDealtWith messages view (a_decision composite ∷ []) → IsDecision messages composite m
      → AreDealtWith messages view
      (owed_once_decided composite (list_any (is_stopping m) composite.events) view.stopped (is_entry m composite))
  one_more : {messages : List Message} {view : View} {owed : List Owed} (message : Message)
      → may_deal message owed ≡ true → AreDealtWith messages view owed
      → AreDealtWith (messages ++ message ∷ []) (says message view)
      (owed_behind (is_gone (says message view).phase) message owed)

-- The laws ------------------------------------------------------------------------------------------------------------

-- it is to be done with the composite in hand
pub record IsOfHand (m : Machine) (one : Owed) : Type 0 where
  pub hand : Hand
  pub place : ℕ
  pub is_held : m.hand ≡ Some hand
  pub is_item : hand.item ≡ a_composite place (of_whom one)

-- so the messages are read, and what is to be done is with the composite in hand
pub record IsDealtWith (messages : List Message) (m : Machine) : Type 0 where
  pub owed : List Owed
  pub read : AreDealtWith messages (view_of m) owed
  pub of_hand : AllByRecursion (IsOfHand m) owed

-- Each composite is dealt with once.
abbrev pub DealsWithEach : Type 0
DealsWithEach = (messages : List Message) (m : Machine) → Run messages m → IsDealtWith messages m

-- each composite that came was at its turn, and nothing is to be done
pub record AreAllDealtWith (messages : List Message) (m : Machine) : Type 0 where
  pub read : AreDealtWith messages (view_of m) []
  pub none_waits : (view_of m).composites ≡ []

-- At rest, once the session is attached, all are dealt with.
abbrev pub DealsWithAll : Type 0
DealsWithAll = (messages : List Message) (m : Machine) → Run messages m → IsAtRest m → m.state.phase ≡ Attached
    → AreAllDealtWith messages m
