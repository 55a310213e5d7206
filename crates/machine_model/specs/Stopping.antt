-- The event `stopped`, in every run (DAP specification, Events, Stopped). The laws stand at the end, behind what they
-- speak of.
use Rattle.std.specs.Prelude.{ℕ, ◌≡◌, ◌≢◌, ◌∷◌, ◌++◌, List, [], true, false, Option, Some}
use Rattle.dap_messages.specs.declared.requests.ThreadArguments.{ThreadArguments}
use Rattle.dap_messages.specs.declared.told.Event.TheVariants as events
use Rattle.dap_messages.specs.declared.told.StopReason.TheVariants as reasons
use Rattle.dap_messages.specs.declared.told.Stopped.{Stopped}
use Rattle.jdwp_events.specs.declared.event.Event.{Event as ATargetEvent}
use Rattle.jdwp_events.specs.declared.event.Event.TheVariants as happened
use Rattle.jdwp_events.specs.declared.kind.EventKind.TheVariants as kinds
use Rattle.jdwp_values.specs.declared.id.ObjectId.{ObjectId}
use Rattle.jdwp_values.specs.declared.value.Value.{Value}
use Rattle.machine_model.specs.Children.{object_named}
use Rattle.machine_model.specs.Due.{due}
use Rattle.machine_model.specs.Lookups.{found_for, stops_of, text_of}
use Rattle.machine_model.specs.Names.{Act, Composite, Does, Halt, Hit, Item, Location, Pause, Request, Resume, Stopping}
use Rattle.machine_model.specs.Names.{ThreadId, a_composite, a_request, a_stop, an_event, by_exception, by_step, came_to}
use Rattle.machine_model.specs.Names.{exception_text, has_stepped, of_composite, threw}
use Rattle.machine_model.specs.Names.{Finding, Strike, breakpoint_hits}
use Rattle.machine_model.specs.Outcomes.{result_of}
use Rattle.machine_model.specs.Plans.{Result, is_done}
use Rattle.machine_model.specs.Requests.{Wishes}
use Rattle.machine_model.specs.Runs.{Message, Run}
use Rattle.machine_model.specs.State.{Hand, Machine, State}
use Rattle.machine_model.specs.Stops.{events_in, is_live, stopping_at, strikes_in}
use Rattle.machine_model.specs.Suspending.{IsBoundFirst}
use Rattle.machine_model.specs.Telling.{after_event, event_told}
use Rattle.wish_sets.specs.declared.entry.EntryAt.{EntryAt}

-- Hits ----------------------------------------------------------------------------------------------------------------

-- By this event a thread halted under an event request of its kind that is installed: it came to a breakpoint, it threw
-- something, or its step has ended (JDWP, Event command set, Composite, Breakpoint, Exception and SingleStep).
pub data IsHalt (w : Wishes) : ATargetEvent → Halt → Type 0 where
  at_breakpoint : {request : ℕ} {thread : ThreadId} {at : Location} → is_live w kinds.Breakpoint request ≡ true
      → IsHalt w (happened.Breakpoint request thread at) (record { cause = came_to at; thread = thread })
  at_exception : {request : ℕ} {thread : ThreadId} {at catch : Location} {exception : Value}
      → is_live w kinds.Exception request ≡ true
      → IsHalt w (happened.Exception request thread at exception catch)
      (record { cause = threw (record { 0 = object_named exception }); thread = thread })
  at_step : {request : ℕ} {thread : ThreadId} {at : Location} → is_live w kinds.SingleStep request ≡ true
      → IsHalt w (happened.SingleStep request thread at) (record { cause = has_stepped; thread = thread })

-- one of these events is so
pub record HasHalted (w : Wishes) (events : List ATargetEvent) (halt : Halt) : Type 0 where
  pub before : List ATargetEvent
  pub event : ATargetEvent
  pub after : List ATargetEvent
  pub events_are : events ≡ before ++ event ∷ after
  pub is_halt : IsHalt w event halt

-- At some time in these messages the item was in hand, no event request was to be set or cleared, breakpoints were bound
-- by all that was known, and a thread had halted by an event of the item.
pub record WasHalted (messages : List Message) (item : Item) (halt : Halt) : Type 0 where
  pub earlier : List Message
  pub later : List Message
  pub there : Machine
  pub hand : Hand
  pub messages_are : messages ≡ earlier ++ later
  pub run : Run earlier there
  pub is_held : there.hand ≡ Some hand
  pub is_item : hand.item ≡ item
  pub bound : IsBoundFirst there.state
  pub has_halted : HasHalted there.state.wishes (events_in item) halt

-- How it is told ------------------------------------------------------------------------------------------------------

-- At some time in these messages the item was in hand, and the look-up of the type of this object was done, with this text.
pub record WasNamed (messages : List Message) (item : Item) (thread : ThreadId) (object : ObjectId)
    (text : Option (List ℕ)) : Type 0 where
  pub earlier : List Message
  pub later : List Message
  pub there : Machine
  pub hand : Hand
  pub messages_are : messages ≡ earlier ++ later
  pub run : Run earlier there
  pub is_held : there.hand ≡ Some hand
  pub is_item : hand.item ≡ item
  pub done : is_done (found_for (exception_text thread object) there.state hand) ≡ true
  pub text_is : text ≡ text_of (result_of (found_for (exception_text thread object) there.state hand))

-- At some time in these messages the item was in hand, no event request was to be set or cleared, breakpoints were bound
-- by all that was known, and these are all breakpoints that threads had come to by events of the item.
pub record WereStruck (messages : List Message) (item : Item) (strikes : List Strike) : Type 0 where
  pub earlier : List Message
  pub later : List Message
  pub there : Machine
  pub hand : Hand
  pub messages_are : messages ≡ earlier ++ later
  pub run : Run earlier there
  pub is_held : there.hand ≡ Some hand
  pub is_item : hand.item ≡ item
  pub bound : IsBoundFirst there.state
  pub strikes_are : strikes ≡ strikes_in there.state.wishes (events_in item)

-- At some time in these messages the item was in hand, and the look-up that judges these breakpoints was done, with this
-- result.
pub record WasJudged (messages : List Message) (item : Item) (found : Result Finding) : Type 0 where
  pub strikes : List Strike
  pub struck : WereStruck messages item strikes
  pub earlier : List Message
  pub later : List Message
  pub there : Machine
  pub hand : Hand
  pub messages_are : messages ≡ earlier ++ later
  pub run : Run earlier there
  pub is_held : there.hand ≡ Some hand
  pub is_item : hand.item ≡ item
  pub done : is_done (found_for (breakpoint_hits strikes) there.state hand) ≡ true
  pub found_is : found ≡ result_of (found_for (breakpoint_hits strikes) there.state hand)

-- of those that stop these stand at this place
pub record Stops (messages : List Message) (item : Item) (at : Location) (entries : List EntryAt) : Type 0 where
  pub found : Result Finding
  pub judged : WasJudged messages item found
  pub entries_are : entries ≡ stopping_at at (stops_of found)
  pub some : entries ≢ []

-- a thread halted, and is told so
pub data IsToldOf (messages : List Message) (item : Item) : Halt → Stopping → Type 0 where
  of_breakpoint : {thread : ThreadId} {at : Location} {entries : List EntryAt} → Stops messages item at entries
      → IsToldOf messages item (record { cause = came_to at; thread = thread })
      (record { cause = Hit entries; thread = thread })
  of_exception : {thread : ThreadId} {object : ObjectId} {text : Option (List ℕ)}
      → WasNamed messages item thread object text
      → IsToldOf messages item (record { cause = threw object; thread = thread })
      (record { cause = by_exception text; thread = thread })
  of_step : {thread : ThreadId}
      → IsToldOf messages item (record { cause = has_stepped; thread = thread }) (record { cause = by_step; thread = thread })

pub record IsHit (messages : List Message) (item : Item) (stopping : Stopping) : Type 0 where
  pub halt : Halt
  pub was_halted : WasHalted messages item halt
  pub is_told_of : IsToldOf messages item halt stopping

-- it is told so
abbrev pub IsToldAs : State → Stopping → Stopped → Type 0
IsToldAs state stopping stop = events.Stopped stop ≡ event_told (a_stop stopping) (after_event (a_stop stopping) state)

-- The laws ------------------------------------------------------------------------------------------------------------

-- By an event of the composite in hand a thread halted, where no event request is to be set or cleared and breakpoints are
-- bound by all that is known; or the client asks for a stop (DAP specification, Pause request).
pub data IsStop (messages : List Message) (m : Machine) (stop : Stopped) : Type 0 where
  by_hit : {hand : Hand} {place : ℕ} {composite : Composite} (stopping : Stopping) → m.hand ≡ Some hand
      → hand.item ≡ a_composite place composite → IsHit messages hand.item stopping
      → IsToldAs m.state stopping stop → IsBoundFirst m.state → IsStop messages m stop
  by_pause : {hand : Hand} {request : Request} {arguments : ThreadArguments} → m.hand ≡ Some hand
      → hand.item ≡ a_request request → request.command ≡ Pause arguments → stop.reason ≡ reasons.Pause
      → m.state.stopped ≡ true → IsStop messages m stop

-- A stop is told of what halted a thread, or that the client asked for.
abbrev pub TellsStops : Type 0
TellsStops = (messages : List Message) (m : Machine) (stop : Stopped) → Run messages m
    → (due false m).act ≡ Act.Tells (an_event (events.Stopped stop)) → IsStop messages m stop

-- With a stop in hand the suspension that a further hit brings is undone right behind its event (JDWP, VirtualMachine
-- command set, Resume).
abbrev pub UndoesSurplus : Type 0
UndoesSurplus = (messages : List Message) (m : Machine) (stop : Stopped) → Run messages m → m.state.stopped ≡ true
    → stop.reason ≢ reasons.Pause → (due false m).act ≡ Act.Tells (an_event (events.Stopped stop))
    → (due false (due false m).next).act ≡ Act.Sends (Does (Resume of_composite))
