-- The ids of what halted a thread were read: they stand in the composite that is in hand.
use Rattle.std.proofs.Common.{ℕ, zero, suc, Bool, true, false, cond, List, [], ◌∷◌, ◌++◌, Option, Some, None}
use Rattle.std.specs.Prelude.{find, map, not, option_map, ◌==◌}
use Rattle.std.specs.List.{AllByRecursion as All, flat_map}
use Rattle.std.specs.Option.{option_or}
use Rattle.jdwp_events.specs.declared.event.Event.{Event as ATargetEvent}
use Rattle.jdwp_events.specs.declared.event.Event.TheVariants as happened
use Rattle.jdwp_events.specs.declared.kind.EventKind.TheVariants as kinds
use Rattle.jdwp_values.specs.declared.location.Location.{Location}
use Rattle.jdwp_values.specs.declared.value.Value.{Value}
use Rattle.jdwp_values.specs.declared.value.Value.TheVariants as values
use Rattle.machine_model.specs.Ids.{id_of_object, Id, ids_of_composite, ids_of_event, ids_of_value, object}
use Rattle.machine_model.specs.Children.{object_named}
use Rattle.machine_model.specs.Stops.{events_in, first_of, first_strike, first_with, halt_at, hit_by, hits_in, is_live}
use Rattle.machine_model.specs.Stops.{is_thrown, stop_among, strike_at, strike_told, strikes_by, strikes_in, thrown_by}
use Rattle.machine_model.specs.Stops.{thrown_in}
use Rattle.machine_model.proofs.IdRows.{all_back, all_front, all_joined}
use Rattle.machine_model.proofs.PlanIds.{OfObject, OfStrike, OfThread, OfThrown, OnSome}
use Rattle.machine_steps.specs.Names.{Halt, HaltCause, Item, Strike, ThreadId, a_composite, came_to, has_stepped, threw}
use Rattle.wish_sets.specs.Entries.{entries_at}
use Rattle.wish_sets.specs.Wishes.{Wishes}
use Rattle.wish_sets.specs.declared.entry.EntryAt.{EntryAt}

-- The item in hand ----------------------------------------------------------------------------------------------------

abbrev pub ItemStands : (Id → Type 0) → Item → Type 0
ItemStands P (a_composite at composite) = All P (ids_of_composite composite)
ItemStands P _ = Unit {0}

pub events_stand : (P : Id → Type 0) (item : Item) → ItemStands P item → All P (flat_map ids_of_event (events_in item))
events_stand P (a_composite at composite) h = h
events_stand P _ h = tt

-- of each event what is told passes
pub each_event : {A : Type 0} (P : Id → Type 0) (Good : A → Type 0) (f : ATargetEvent → List A)
    → ((event : ATargetEvent) → All P (ids_of_event event) → All Good (f event)) → (events : List ATargetEvent)
    → All P (flat_map ids_of_event events) → All Good (flat_map f events)
each_event P Good f k [] h = tt
each_event P Good f k (event ∷ events) h = all_joined Good (f event) (flat_map f events)
    (k event (all_front P (ids_of_event event) (flat_map ids_of_event events) h))
    (each_event P Good f k events (all_back P (ids_of_event event) (flat_map ids_of_event events) h))

-- Hits ----------------------------------------------------------------------------------------------------------------

abbrev pub OfCause : (Id → Type 0) → HaltCause → Type 0
OfCause P (came_to at) = Unit {0}
OfCause P (threw one) = OfObject P one.0
OfCause P has_stepped = Unit {0}

abbrev pub OfHalt : (Id → Type 0) → Halt → Type 0
OfHalt P halt = OfThread P halt.thread × OfCause P halt.cause

-- the object that a value names
some_object : (P : Id → Type 0) (id : ℕ) → All P (id_of_object id) → OfObject P id
some_object P zero h = tt
some_object P (suc id) h = h.0

named_stands : (P : Id → Type 0) (value : Value) → All P (ids_of_value value) → OfObject P (object_named value)
named_stands P (values.Object one) h = some_object P one.0 h
named_stands P (values.Array one) h = some_object P one.0 h
named_stands P (values.String one) h = some_object P one.0 h
named_stands P (values.Thread one) h = some_object P one.0 h
named_stands P (values.ThreadGroup one) h = some_object P one.0 h
named_stands P (values.ClassLoader one) h = some_object P one.0 h
named_stands P (values.ClassObject one) h = some_object P one.0 h
named_stands P _ h = tt

-- of an event of an exception: the thread, and what it threw
exception_stands : (P : Id → Type 0) (request : ℕ) (thread : ThreadId) (at catch : Location) (exception : Value)
    → All P (ids_of_event (happened.Exception request thread at exception catch))
    → OfThread P thread × OfObject P (object_named exception)
exception_stands P request thread at catch exception h =
    (h.0, named_stands P exception (all_front P (ids_of_value exception) _ h.1.1.1))

one_if : {A : Type 0} (Good : A → Type 0) (a : A) (live : Bool) → Good a → All Good (cond live (a ∷ []) [])
one_if Good a true h = (h, tt)
one_if Good a false h = tt

hit_stands : (P : Id → Type 0) (wishes : Wishes) (event : ATargetEvent) → All P (ids_of_event event)
    → All (OfHalt P) (hit_by wishes event)
hit_stands P wishes (happened.SingleStep request thread at) h = one_if (OfHalt P)
    (record { cause = has_stepped; thread = thread }) (is_live wishes kinds.SingleStep request) (h.0, tt)
hit_stands P wishes (happened.Exception request thread at exception catch) h = one_if (OfHalt P)
    (record { cause = threw (record { 0 = object_named exception }); thread = thread })
    (is_live wishes kinds.Exception request) (exception_stands P request thread at catch exception h)
hit_stands P wishes _ h = tt

-- the thread and the place of a strike are those of its event
strikes_stand : (P : Id → Type 0) (wishes : Wishes) (event : ATargetEvent) → All P (ids_of_event event)
    → All (OfStrike P) (strikes_by wishes event)
strikes_stand P wishes (happened.Breakpoint request thread at) h =
    by_live (is_live wishes kinds.Breakpoint request) (each (entries_at wishes.wanted at))
  where
    each : (entries : List EntryAt) → All (OfStrike P) (map (strike_at thread at) entries)
    each [] = tt
    each (entry ∷ entries) = ((h.0, h.1.0, h.1.1.0), each entries)

    by_live : (live : Bool) → All (OfStrike P) (map (strike_at thread at) (entries_at wishes.wanted at))
        → All (OfStrike P) (cond live (map (strike_at thread at) (entries_at wishes.wanted at)) [])
    by_live true k = k
    by_live false k = tt
strikes_stand P wishes _ h = tt

pub all_strikes : (P : Id → Type 0) (wishes : Wishes) (item : Item) → ItemStands P item
    → All (OfStrike P) (strikes_in wishes (events_in item))
all_strikes P wishes item h =
    each_event P (OfStrike P) (strikes_by wishes) (strikes_stand P wishes) (events_in item) (events_stand P item h)

thrown_stands : (P : Id → Type 0) (wishes : Wishes) (event : ATargetEvent) → All P (ids_of_event event)
    → All (OfThrown P) (thrown_by wishes event)
thrown_stands P wishes (happened.Exception request thread at exception catch) h = one_if (OfThrown P)
    (record { thread = thread; object = record { 0 = object_named exception }; caught = not (catch.class.0 == 0) })
    (is_live wishes kinds.Exception request) (exception_stands P request thread at catch exception h)
thrown_stands P wishes _ h = tt

pub all_thrown : (P : Id → Type 0) (wishes : Wishes) (item : Item) → ItemStands P item
    → All (OfThrown P) (thrown_in wishes (events_in item))
all_thrown P wishes item h =
    each_event P (OfThrown P) (thrown_by wishes) (thrown_stands P wishes) (events_in item) (events_stand P item h)

-- The hit that is told ------------------------------------------------------------------------------------------------

pub found_one : {A : Type 0} (Good : A → Type 0) (test : A → Bool) (list : List A) → All Good list
    → OnSome Good (find test list)
found_one Good test [] h = tt
found_one {A} Good test (a ∷ others) h = by_test (test a) (found_one Good test others h.1)
  where
    by_test : (is : Bool) → OnSome Good (find test others) → OnSome Good (cond is (Some a) (find test others))
    by_test true rest = h.0
    by_test false rest = rest

either_one : {A : Type 0} (Good : A → Type 0) (one other : Option A) → OnSome Good one → OnSome Good other
    → OnSome Good (option_or one other)
either_one Good None other h k = k
either_one Good (Some a) other h k = h

-- what holds of all strikes holds of the one that is told
pub told_strike : (Good : Strike → Type 0) (stops : List Strike) → All Good stops → OnSome Good (strike_told stops)
told_strike Good stops h = either_one Good (find (λ strike. strike.entry.line) stops) (first_strike stops)
    (found_one Good (λ strike. strike.entry.line) stops h) (first stops h)
  where
    first : (stops : List Strike) → All Good stops → OnSome Good (first_strike stops)
    first [] h = tt
    first (strike ∷ stops) h = h.0

-- what holds of all that stops holds of the hit that is told
pub told_halt : (Struck : Strike → Type 0) (Good : Halt → Type 0)
    → ((strike : Strike) → Struck strike → Good (halt_at strike)) → (stops : List Strike) (hits : List Halt)
    → All Struck stops → All Good hits → OnSome Good (stop_among stops hits)
told_halt Struck Good struck stops hits s h =
    either_one Good (option_map halt_at (strike_told stops)) (first_with is_thrown hits (first_of hits))
    (by_strike (strike_told stops) (told_strike Struck stops s)) (with_test is_thrown (first_of hits) (first hits h))
  where
    by_strike : (told : Option Strike) → OnSome Struck told → OnSome Good (option_map halt_at told)
    by_strike None k = tt
    by_strike (Some strike) k = struck strike k

    first : (hits : List Halt) → All Good hits → OnSome Good (first_of hits)
    first [] h = tt
    first (hit ∷ hits) h = h.0

    with_test : (test : HaltCause → Bool) (other : Option Halt) → OnSome Good other
        → OnSome Good (first_with test hits other)
    with_test test other also =
        either_one Good (find (λ hit. test hit.cause) hits) other (found_one Good (λ hit. test hit.cause) hits h) also

pub halt_stands : (P : Id → Type 0) (wishes : Wishes) (stops : List Strike) (item : Item) → All (OfStrike P) stops
    → ItemStands P item → OnSome (OfHalt P) (stop_among stops (hits_in wishes (events_in item)))
halt_stands P wishes stops item s h = told_halt (OfStrike P) (OfHalt P) (λ strike k. (k.0, tt)) stops
    (hits_in wishes (events_in item)) s
    (each_event P (OfHalt P) (hit_by wishes) (hit_stands P wishes) (events_in item) (events_stand P item h))
