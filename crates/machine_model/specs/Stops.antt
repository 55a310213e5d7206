-- What becomes of a composite that has suspended the whole target: it is a stop, the target's entry is held, or the
-- target runs on (JDWP, Event command set, Composite; DAP specification, Events, Stopped).
use Rattle.std.specs.Prelude.{ℕ, ◌∷◌, ◌||◌, ◌==◌, Bool, true, false, not, cond, List, [], find}
use Rattle.std.specs.Prelude.{Option, None, Some, option_map, map, filter, fold}
use Rattle.std.specs.BTreeSet.{insert_key}
use Rattle.std.specs.List.{flat_map}
use Rattle.std.specs.Ordering.{nat_cmp, on}
use Rattle.std.specs.Option.{option_or}
use Rattle.jdwp_events.specs.declared.event.Event.{Event as ATargetEvent}
use Rattle.jdwp_events.specs.declared.event.Event.TheVariants as happened
use Rattle.jdwp_events.specs.declared.kind.EventKind.{EventKind}
use Rattle.jdwp_events.specs.declared.kind.EventKind.TheVariants as kinds
use Rattle.machine_model.specs.Children.{object_named}
use Rattle.machine_model.specs.Names.{EntryHeld, Halt, HaltCause, Hit, Item, Part, Resume, Steps, Thrown, Throws}
use Rattle.machine_model.specs.Names.{a_composite, a_raw, a_request, a_stop, by_step, came_to, exception_text}
use Rattle.machine_model.specs.Names.{has_stepped, of_composite, target_end, threw, ThreadId, Decides, Location, Logged}
use Rattle.machine_model.specs.Names.{Strike, breakpoint_hits}
use Rattle.machine_model.specs.State.{State, is_attached, is_some}
use Rattle.wish_sets.specs.Entries.{entries_at}
use Rattle.wish_sets.specs.Order.{is_wish}
use Rattle.wish_sets.specs.Wishes.{Wishes, owner_of}
use Rattle.wish_sets.specs.declared.entry.EntryAt.{EntryAt}
use Rattle.wish_sets.specs.declared.wish.Wish.TheVariants as wish

-- Hits ----------------------------------------------------------------------------------------------------------------

-- an event request of this kind is installed under this id (JDWP, Event command set, Composite, requestID)
abbrev pub is_live : Wishes → EventKind → ℕ → Bool
is_live wishes kind request = is_some (owner_of wishes.installed kind request)

-- A thread came to a place under an event request that is installed: each breakpoint that stands there is to be judged,
-- in order of their ids (JDWP, Event command set, Composite, Breakpoint).
abbrev pub strike_at : ThreadId → Location → EntryAt → Strike
strike_at thread at entry = record { thread = thread; at = at; entry = entry }

abbrev pub strikes_by : Wishes → ATargetEvent → List Strike
strikes_by wishes (happened.Breakpoint request thread at) =
    cond (is_live wishes kinds.Breakpoint request) (map (strike_at thread at) (entries_at wishes.wanted at)) []
strikes_by wishes _ = []

abbrev pub strikes_in : Wishes → List ATargetEvent → List Strike
strikes_in wishes events = flat_map (strikes_by wishes) events

-- a thread halted otherwise under an event request that is installed: it threw something, or its step has ended (JDWP,
-- Event command set, Composite, Exception and SingleStep)
abbrev pub hit_by : Wishes → ATargetEvent → List Halt
hit_by wishes (happened.Exception request thread at exception catch) =
    cond (is_live wishes kinds.Exception request)
    (record { cause = threw (record { 0 = object_named exception }); thread = thread } ∷ []) []
hit_by wishes (happened.SingleStep request thread at) =
    cond (is_live wishes kinds.SingleStep request) (record { cause = has_stepped; thread = thread } ∷ []) []
hit_by wishes _ = []

abbrev pub hits_in : Wishes → List ATargetEvent → List Halt
hits_in wishes events = flat_map (hit_by wishes) events

abbrev pub is_thrown : HaltCause → Bool
is_thrown (came_to at) = false
is_thrown (threw object) = true
is_thrown has_stepped = false

abbrev pub first_of : List Halt → Option Halt
first_of [] = None
first_of (hit ∷ hits) = Some hit

-- the first hit with such a cause, else what stands behind
abbrev pub first_with : (HaltCause → Bool) → List Halt → Option Halt → Option Halt
first_with test hits other = option_or (find (λ hit. test hit.cause) hits) other

-- the first at which a breakpoint of a source stops, else the first at which one of a function does
abbrev pub first_strike : List Strike → Option Strike
first_strike [] = None
first_strike (strike ∷ strikes) = Some strike

abbrev pub strike_told : List Strike → Option Strike
strike_told stops = option_or (find (λ strike. strike.entry.line) stops) (first_strike stops)

abbrev pub halt_at : Strike → Halt
halt_at strike = record { cause = came_to strike.at; thread = strike.thread }

-- the hit that is told: the first of a breakpoint of a source, else of a function, else of an exception, else of a step
abbrev pub stop_among : List Strike → List Halt → Option Halt
stop_among stops hits =
    option_or (option_map halt_at (strike_told stops)) (first_with is_thrown hits (first_of hits))

-- The breakpoints that stop at a place, in order of their ids, each once (DAP specification, Events, Stopped,
-- hitBreakpointIds).
abbrev pub stopping_at : Location → List Strike → List EntryAt
stopping_at at stops = fold (insert_key (on (λ entry. entry.id) nat_cmp)) []
    (map (λ strike. strike.entry) (filter (λ strike. is_wish (wish.Stop at) (wish.Stop strike.at)) stops))

-- What was thrown under an event request that is installed, and whether something catches it: nothing does, where the
-- class of the place where it is caught is null (JDWP, Event command set, Composite, Exception, catchLocation).
abbrev pub thrown_by : Wishes → ATargetEvent → List Thrown
thrown_by wishes (happened.Exception request thread at exception catch) =
    cond (is_live wishes kinds.Exception request)
    (record { thread = thread; object = record { 0 = object_named exception }; caught = not (catch.class.0 == 0) } ∷ []) []
thrown_by wishes _ = []

abbrev pub thrown_in : Wishes → List ATargetEvent → List Thrown
thrown_in wishes events = flat_map (thrown_by wishes) events

-- The entry -----------------------------------------------------------------------------------------------------------

-- the target's start (JDWP, Event command set, Composite, VMStart)
abbrev pub is_start : ATargetEvent → Bool
is_start (happened.VMStart request thread) = true
is_start _ = false

abbrev pub has_start : List ATargetEvent → Bool
has_start [] = false
has_start (event ∷ events) = is_start event || has_start events

-- it is held until the client has configured all, once (DAP specification, ConfigurationDone request)
abbrev pub holds_entry : State → List ATargetEvent → Bool
holds_entry state events = cond state.configured false (cond state.entry false (has_start events))

-- The decision --------------------------------------------------------------------------------------------------------

-- with no hit the entry is held, where it may be; else the target runs on (JDWP, VirtualMachine command set, Resume)
abbrev pub quiet_parts : Bool → List Part
quiet_parts true = Part.Notes EntryHeld ∷ []
quiet_parts false = Part.Sends (Resume of_composite) ∷ []

-- how a hit is told: a breakpoint with all that stop there; of what was thrown the type is looked up first
abbrev pub told_part : List Strike → HaltCause → ThreadId → Part
told_part stops (came_to at) thread =
    Part.Tells (a_stop (record { cause = Hit (stopping_at at stops); thread = thread }))
told_part stops (threw object) thread = Part.Looks (exception_text thread object)
told_part stops has_stepped thread = Part.Tells (a_stop (record { cause = by_step; thread = thread }))

-- with no stop in hand a hit begins one, and its suspension is held; else the stop goes on, and the suspension that it has
-- too much is undone
abbrev pub surplus : Bool → List Part
surplus false = []
surplus true = Part.Sends (Resume of_composite) ∷ []

-- What was thrown is written down, a step that is in flight is cleared, and the hit is told (DAP specification, Events,
-- Stopped; JDWP, EventRequest command set, Clear).
abbrev pub hit_parts : Bool → List Thrown → List Strike → Halt → List Part
hit_parts stopped thrown stops halt = Part.Notes (Throws thrown) ∷ Part.Notes (Steps None) ∷ Part.Updates
    ∷ told_part stops halt.cause halt.thread ∷ surplus stopped

abbrev pub decided_by : Bool → Bool → List Thrown → List Strike → Option Halt → List Part
decided_by stopped holds thrown stops None = quiet_parts holds
decided_by stopped holds thrown stops (Some halt) = hit_parts stopped thrown stops halt

abbrev pub decided_of : State → List Strike → List ATargetEvent → List Part
decided_of state stops events = decided_by state.stopped (holds_entry state events) (thrown_in state.wishes events) stops
    (stop_among stops (hits_in state.wishes events))

-- what a composite tells of; other items tell of nothing
abbrev pub events_in : Item → List ATargetEvent
events_in (a_request request) = []
events_in (a_composite at composite) = composite.events
events_in (a_raw at body) = []
events_in target_end = []

-- what is logged is told, one text after the other, before it is decided
abbrev pub logged_first : State → List (List ℕ) → List Strike → List ATargetEvent → List Part
logged_first state [] stops events = decided_of state stops events
logged_first state (text ∷ texts) stops events =
    Part.Tells (Logged text) ∷ Part.Unfolds (Decides texts stops) ∷ []

-- as long as the session is attached, where breakpoints log this, and these stop
abbrev pub decided : State → List (List ℕ) → List Strike → Item → List Part
decided state logged stops item =
    cond (is_attached state.phase) (logged_first state logged stops (events_in item)) []

-- before that all breakpoints that threads came to are judged
abbrev pub judged : State → Item → List Part
judged state item =
    cond (is_attached state.phase) (Part.Looks (breakpoint_hits (strikes_in state.wishes (events_in item))) ∷ []) []
