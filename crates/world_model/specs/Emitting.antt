-- Which requests what happens matches, and the events that tell of it (JDWP, Event command set, Composite).
use Rattle.std.specs.Prelude.{ℕ, ℤ, pos, ◌-◌, ◌+◌, nat_lt, Bool, true, false, not, ◌==◌, ◌&&◌, ◌||◌, if◌then◌else◌}
use Rattle.std.specs.Prelude.{List, [], ◌∷◌, map, filter, find, fold, take, drop, length, codes, bytes_eq, nat_eq}
use Rattle.std.specs.Prelude.{Option, Some, None, option_map, is_some, unwrap_or}
use Rattle.std.specs.BTreeSet.{insert_key}
use Rattle.std.specs.List.{starts_with, ends_with}
use Rattle.std.specs.Option.{option_map_or}
use Rattle.std.specs.Ordering.{int_eq, match_ordering, nat_cmp, on}
use Rattle.jdwp_values.specs.declared.id.ClassId.{ClassId}
use Rattle.jdwp_values.specs.declared.id.ThreadId.{ThreadId}
use Rattle.jdwp_values.specs.declared.location.Location.{Location}
use Rattle.jdwp_values.specs.declared.tag.TypeTag.{TypeTag}
use Rattle.jdwp_values.specs.declared.tag.TypeTag.TheVariants as type_tags
use Rattle.jdwp_values.specs.Lossy.{lossy}
use Rattle.jdwp_values.specs.Tags.{byte_of_type_tag}
use Rattle.jdwp_events.specs.declared.composite.Composite.{Composite}
use Rattle.jdwp_events.specs.declared.event.Event.{Event}
use Rattle.jdwp_events.specs.declared.event.Event.TheVariants as events
use Rattle.jdwp_events.specs.declared.kind.EventKind.{EventKind}
use Rattle.jdwp_events.specs.declared.kind.EventKind.TheVariants as kinds
use Rattle.jdwp_events.specs.declared.kind.Policy.{Policy}
use Rattle.jdwp_events.specs.declared.kind.Policy.TheVariants as policies
use Rattle.jdwp_events.specs.declared.modifier.Modifier.{Modifier}
use Rattle.jdwp_events.specs.declared.modifier.Modifier.TheVariants as modifiers
use Rattle.jdwp_events.specs.Kinds.{byte_of_policy}
use Rattle.value_views.specs.Names.{class_name}
use Rattle.world_model.specs.declared.happening.Happening.{Happening}
use Rattle.world_model.specs.declared.happening.Happening.TheVariants as happenings
use Rattle.world_model.specs.declared.hits.Hit.{Hit}
use Rattle.world_model.specs.declared.rows.Installed.{Installed}
use Rattle.world_model.specs.declared.rows.StepStart.{StepStart}
use Rattle.world_model.specs.declared.world.World.{World}
use Rattle.world_model.specs.Classes.{class_in, tag_in}
use Rattle.world_model.specs.Effects.{same_event}

-- Which requests match -----------------------------------------------------------------------------------------------

-- the only modifier of a request
abbrev pub only : List Modifier → Option Modifier
only [] = None
only (modifier ∷ []) = Some modifier
only (modifier ∷ another ∷ more) = None

-- a request's only modifier passes
abbrev pub one_passes : (Modifier → Bool) → List Modifier → Bool
one_passes passes list = option_map_or passes (only list) false

-- whether two places are one, tags too
abbrev pub same_place : Location → Location → Bool
same_place a b = ((byte_of_type_tag a.tag == byte_of_type_tag b.tag) && (a.class.0 == b.class.0))
    && ((a.method.0 == b.method.0) && (a.index == b.index))

-- a breakpoint at a place (JDWP, EventRequest command set, Set, LocationOnly)
abbrev pub is_at : Location → Modifier → Bool
is_at at (modifiers.LocationOnly place) = same_place at place
is_at at (modifiers.Count n) = false
is_at at (modifiers.ThreadOnly thread) = false
is_at at (modifiers.ClassOnly class) = false
is_at at (modifiers.ClassMatch pattern) = false
is_at at (modifiers.ClassExclude pattern) = false
is_at at (modifiers.ExceptionOnly class caught uncaught) = false
is_at at (modifiers.Step thread size depth) = false

-- whether a line is another than that of the step's start
abbrev pub is_line : Option ℤ → Option ℤ → Bool
is_line None None = true
is_line None (Some b) = false
is_line (Some a) None = false
is_line (Some a) (Some b) = int_eq a b

-- whether a step is made: into ends in another frame or line, over in an outer frame or in another line of this one,
-- out in an outer frame (JDWP, Constants, StepDepth)
abbrev pub is_made : ℤ → ℕ → Bool → StepStart → Bool
is_made depth frames same start =
    if int_eq depth (pos 0) then not ((frames == start.frames) && same)
    else nat_lt frames start.frames || (int_eq depth (pos 1) && ((frames == start.frames) && not same))

-- the same of a step that began somewhere
abbrev pub is_made_from : ℤ → ℕ → Option ℤ → Option StepStart → Bool
is_made_from depth frames line None = false
is_made_from depth frames line (Some start) = is_made depth frames (is_line line start.line) start

-- where the step of a request began
abbrev pub start_in : World → ℕ → Option StepStart
start_in w request = find (λ row. row.request == request) w.steps

-- a step of a thread that is made as it stands somewhere (JDWP, EventRequest command set, Set, Step)
abbrev pub is_step : ThreadId → ℕ → Option ℤ → Option StepStart → Modifier → Bool
is_step thread frames line start (modifiers.Step stepped size depth) =
    (stepped.0 == thread.0) && is_made_from depth frames line start
is_step thread frames line start (modifiers.LocationOnly at) = false
is_step thread frames line start (modifiers.Count n) = false
is_step thread frames line start (modifiers.ThreadOnly another) = false
is_step thread frames line start (modifiers.ClassOnly class) = false
is_step thread frames line start (modifiers.ClassMatch pattern) = false
is_step thread frames line start (modifiers.ClassExclude pattern) = false
is_step thread frames line start (modifiers.ExceptionOnly class caught uncaught) = false

-- a request for exceptions that are caught, or for those that are not (JDWP, EventRequest command set, Set,
-- ExceptionOnly)
abbrev pub is_for : Bool → Modifier → Bool
is_for caught (modifiers.ExceptionOnly class if_caught if_not) =
    not ((if caught then if_caught else if_not) == 0)
is_for caught (modifiers.LocationOnly at) = false
is_for caught (modifiers.Count n) = false
is_for caught (modifiers.ThreadOnly thread) = false
is_for caught (modifiers.ClassOnly class) = false
is_for caught (modifiers.ClassMatch pattern) = false
is_for caught (modifiers.ClassExclude pattern) = false
is_for caught (modifiers.Step thread size depth) = false

-- a name that a pattern matches: `*` at its end or its beginning stands for any text (JDWP, EventRequest command set,
-- Set, ClassMatch)
abbrev pub is_like : List ℕ → List ℕ → Bool
is_like name pattern =
    if ends_with nat_eq pattern (codes "*") then starts_with nat_eq name (take (length pattern - 1) pattern)
    else if starts_with nat_eq pattern (codes "*") then ends_with nat_eq name (drop 1 pattern)
    else bytes_eq name pattern

-- the signature of a class that is there
abbrev pub signature_of : World → ClassId → List ℕ
signature_of w class = option_map_or (λ row. row.signature) (class_in w class) []

-- a watch of classes with such a name; patterns and names are compared as they are shown
abbrev pub is_watch_of : List ℕ → Modifier → Bool
is_watch_of signature (modifiers.ClassMatch pattern) = is_like (class_name signature) (lossy pattern)
is_watch_of signature (modifiers.LocationOnly at) = false
is_watch_of signature (modifiers.Count n) = false
is_watch_of signature (modifiers.ThreadOnly thread) = false
is_watch_of signature (modifiers.ClassOnly class) = false
is_watch_of signature (modifiers.ClassExclude pattern) = false
is_watch_of signature (modifiers.ExceptionOnly class caught uncaught) = false
is_watch_of signature (modifiers.Step thread size depth) = false

-- a request that watches a class
abbrev pub watches : World → ClassId → Installed → Bool
watches w class request =
    same_event request.wish_kind kinds.ClassPrepare && one_passes (is_watch_of (signature_of w class)) request.modifiers

-- a breakpoint to which a thread comes
abbrev pub is_hit : Location → Bool → Installed → Bool
is_hit at comes request =
    comes && (same_event request.wish_kind kinds.Breakpoint && one_passes (is_at at) request.modifiers)

-- a request for a step that is made
abbrev pub is_stepped : World → ThreadId → ℕ → Option ℤ → Installed → Bool
is_stepped w thread frames line request = same_event request.wish_kind kinds.SingleStep
    && one_passes (is_step thread frames line (start_in w request.request)) request.modifiers

-- a request for exceptions such as this one
abbrev pub is_thrown : Bool → Installed → Bool
is_thrown caught request =
    same_event request.wish_kind kinds.Exception && one_passes (is_for caught) request.modifiers

-- whether what happens matches a request
abbrev pub matches : World → Happening → Installed → Bool
matches w (happenings.Stands thread at frames line comes) request =
    is_hit at comes request || is_stepped w thread frames line request
matches w (happenings.Throws thread at exception catch) request = is_thrown (is_some catch) request
matches w (happenings.Starts thread) request = same_event request.wish_kind kinds.ThreadStart
matches w (happenings.Dies thread) request = same_event request.wish_kind kinds.ThreadDeath
matches w (happenings.Prepares thread class) request = watches w class request
matches w happenings.Stores request = false
matches w happenings.Ends request = false

-- Events -------------------------------------------------------------------------------------------------------------

-- a request that is matched
abbrev pub hit_of : Installed → Hit
hit_of request = record { request = request.request; kind = request.wish_kind; policy = request.policy }

-- the end of the target
abbrev pub is_end : Happening → Bool
is_end happenings.Ends = true
is_end happenings.Stores = false
is_end (happenings.Stands thread at frames line comes) = false
is_end (happenings.Throws thread at exception catch) = false
is_end (happenings.Starts thread) = false
is_end (happenings.Dies thread) = false
is_end (happenings.Prepares thread class) = false

-- it is told unasked, and suspends nothing (JDWP, Event command set, Composite, VMDeath)
abbrev pub unasked : Happening → List Hit
unasked happened =
    if is_end happened then record { request = 0; kind = kinds.VMDeath; policy = policies.NoThread } ∷ [] else []

-- the place at which a request goes among others, counted from a place, where none has its number
abbrev pub hit_place : ℕ → ℕ → List Hit → Option ℕ
hit_place place request [] = Some place
hit_place place request (hit ∷ those) =
    match_ordering (nat_cmp request hit.request) (Some place) None (hit_place (place + 1) request those)

-- the requests that are matched, in order of their numbers
abbrev pub hits : World → Happening → List Hit
hits w happened = fold (insert_key (on (λ hit. hit.request) nat_cmp)) (unasked happened)
    (map hit_of (filter (matches w happened) w.requests))

-- the place that is none, of which all but the tag is 0 (JDWP, Event command set, Composite, Exception, catchLocation)
abbrev pub nowhere : Location
nowhere = record { tag = type_tags.Class; class = record { 0 = 0 }; method = record { 0 = 0 }; index = 0 }

-- the event of a thread that stands somewhere
abbrev pub standing_event : ThreadId → Location → Hit → Event
standing_event thread at hit =
    if same_event hit.kind kinds.Breakpoint then events.Breakpoint hit.request thread at
    else events.SingleStep hit.request thread at

-- the event of a class, which is prepared now, 2 (JDWP, Constants, ClassStatus)
abbrev pub prepared_event : World → ThreadId → ClassId → ℕ → Event
prepared_event w thread class request =
    events.ClassPrepare request thread (tag_in w class) class (signature_of w class) (pos 2)

-- the event for a request that is matched; no request is matched as a field gets a value
abbrev pub event_of : World → Happening → Hit → Event
event_of w (happenings.Stands thread at frames line comes) hit = standing_event thread at hit
event_of w (happenings.Throws thread at exception catch) hit =
    events.Exception hit.request thread at exception (unwrap_or catch nowhere)
event_of w (happenings.Starts thread) hit = events.ThreadStart hit.request thread
event_of w (happenings.Dies thread) hit = events.ThreadDeath hit.request thread
event_of w (happenings.Prepares thread class) hit = prepared_event w thread class hit.request
event_of w happenings.Stores hit = events.VMDeath hit.request
event_of w happenings.Ends hit = events.VMDeath hit.request

-- the greater of two policies (JDWP, Constants, SuspendPolicy)
abbrev pub greater : Policy → Policy → Policy
greater a b = if nat_lt (byte_of_policy a) (byte_of_policy b) then b else a

-- the greatest policy of some requests
abbrev pub greatest : List Hit → Policy
greatest those = fold (λ policy hit. greater policy hit.policy) policies.NoThread those

-- the events for some requests, if there are any
abbrev pub composite_of : World → Happening → List Hit → Option Composite
composite_of w happened [] = None
composite_of w happened (hit ∷ those) = Some (record {
  policy = greatest (hit ∷ those);
  events = map (event_of w happened) (hit ∷ those);
})

-- the events that tell what happens
abbrev pub emitted : World → Happening → Option Composite
emitted w happened = composite_of w happened (hits w happened)
