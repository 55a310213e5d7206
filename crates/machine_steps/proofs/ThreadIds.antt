-- The ids of threads that are told were read: those in composites that are in hand, and those in answers.
use Rattle.std.proofs.Common.{◌≡◌, Bool, true, false, cond, List, [], ◌∷◌, ◌++◌, Option, Some, None, arith, refl}
use Rattle.std.specs.Prelude.{ℕ, map, ◌==◌}
use Rattle.std.specs.List.{AllByRecursion as All}
use Rattle.jdwp_events.specs.declared.event.Event.{Event as ATargetEvent}
use Rattle.jdwp_events.specs.declared.event.Event.TheVariants as happened
use Rattle.machine_model.specs.Breakpoints.{newly_verified}
use Rattle.machine_model.specs.Composites.{change_told, changes_in}
use Rattle.machine_model.specs.Ids.{Id, ids_of_event}
use Rattle.machine_model.specs.Lookups.{finished}
use Rattle.machine_model.specs.Plans.{Result}
use Rattle.machine_model.specs.Replying.{replied_to}
use Rattle.machine_model.specs.Rows.{chosen, failure_of, news_of, noted, parts_of, pause_parts, row_of, taken}
use Rattle.machine_model.specs.Rows.{thread_with, told_in, wanting}
use Rattle.machine_model.specs.State.{Hand, State, is_attached}
use Rattle.machine_model.specs.Stops.{decided_by, events_in, holds_entry, hits_in, logged_first, stop_among, surplus}
use Rattle.machine_model.specs.Stops.{thrown_in, told_part}
use Rattle.machine_model.specs.Telling.{after_event, is_among, numbered_by, with_thread, with_threads}
use Rattle.machine_model.proofs.IdRows.{all_joined}
use Rattle.machine_model.proofs.PlanIds.{OfNamed, OfThread, OfThrown, OnSome}
use Rattle.machine_steps.specs.Names.{Attached, Choice, Command, Decides, Event, Initialized, Item, Lookup, NamedThread}
use Rattle.machine_steps.specs.Names.{News, Outcome, Part, Pause, Phase, Replied, Success, TargetCommand, TellsNews}
use Rattle.machine_steps.specs.Names.{Terminated, ThreadId, a_composite, a_request, a_stop, Note, entry_verified}
use Rattle.machine_steps.specs.Names.{some_news, thread_changed, thread_list, Finding, Halt, HaltCause, Throws, Thrown}
use Rattle.machine_steps.specs.Names.{Logged, came_to, exception_text, has_stepped, threw}
use Rattle.machine_steps.proofs.HitIds.{ItemStands, OfHalt, all_thrown, each_event, halt_stands}
use Rattle.machine_steps.proofs.Standing.{ChoiceStands, PartStands}
use Rattle.machine_steps.proofs.StandingMoves.{told_thread}
use Rattle.machine_steps.proofs.PartTests.{all_pass, all_passing, begun_mute, chosen_mute, found_mute, is_mute}
use Rattle.machine_steps.proofs.PartTests.{of_failure, row_mute}

-- What a part tells ---------------------------------------------------------------------------------------------------

abbrev pub OfNews : (Id → Type 0) → News → Type 0
OfNews P (entry_verified entry) = Unit {0}
OfNews P (thread_changed started thread) = OfThread P thread

abbrev OfEvent : (Id → Type 0) → Event → Type 0
OfEvent P Initialized = Unit {0}
OfEvent P (some_news news) = OfNews P news
OfEvent P (a_stop stopping) = OfThread P stopping.thread
OfEvent P (Logged text) = Unit {0}
OfEvent P Terminated = Unit {0}

-- what was thrown is looked up to be told, and is written down
abbrev pub LookTells : (Id → Type 0) → Lookup → Type 0
LookTells P (exception_text thread one) = OfThread P thread
LookTells P _ = Unit {0}

abbrev pub NoteTells : (Id → Type 0) → Note → Type 0
NoteTells P (Throws thrown) = All (OfThrown P) thrown
NoteTells P _ = Unit {0}

-- the thread that a part tells passes
abbrev pub TellStands : (Id → Type 0) → Part → Type 0
TellStands P (Part.Tells event) = OfEvent P event
TellStands P (Part.Looks lookup) = LookTells P lookup
TellStands P (Part.Notes note) = NoteTells P note
TellStands P _ = Unit {0}

-- Threads that are told -----------------------------------------------------------------------------------------------

one_more : (P : Id → Type 0) (threads : List ThreadId) (thread : ThreadId) → OfThread P thread
    → All (OfThread P) threads → All (OfThread P) (with_thread threads thread)
one_more P threads thread k h = by_test (is_among threads thread)
  where
    by_test : (is : Bool) → All (OfThread P) (cond is threads (threads ++ thread ∷ []))
    by_test true = h
    by_test false = all_joined (OfThread P) threads (thread ∷ []) h (k, tt)

some_more : (P : Id → Type 0) (threads : List ThreadId) (named : List NamedThread) → All (OfNamed P) named
    → All (OfThread P) threads → All (OfThread P) (with_threads threads named)
some_more P threads [] k h = h
some_more P threads (first ∷ others) k h =
    some_more P (with_thread threads first.thread) others k.1 (one_more P threads first.thread k.0 h)

-- behind a response
pub responded_threads : (P : Id → Type 0) (outcome : Outcome) (state : State) → PartStands P (Part.Responds outcome)
    → All (OfThread P) state.threads → All (OfThread P) (numbered_by outcome state).threads
responded_threads P (Success (thread_list named)) state k h = some_more P state.threads named k h
responded_threads P _ state k h = h

-- behind an event
pub event_threads : (P : Id → Type 0) (event : Event) (state : State) → TellStands P (Part.Tells event)
    → All (OfThread P) state.threads → All (OfThread P) (after_event event state).threads
event_threads P (some_news (thread_changed started thread)) state k h = one_more P state.threads thread k h
event_threads P (a_stop stopping) state k h = one_more P state.threads stopping.thread k h
event_threads P _ state k h = h

-- where an item is taken
pub taken_threads : (P : Id → Type 0) (item : Item) (state : State) → All (OfThread P) state.threads
    → All (OfThread P) (taken item state).threads
taken_threads P (a_request request) state h = h
taken_threads P _ state h = h

-- behind a note, and a reply
pub noted_threads : (note : Note) (state : State) → (noted note state).threads ≡ state.threads
noted_threads note state = grind arith

pub replied_threads : (command : TargetCommand) (replied : Replied) (state : State)
    → (replied_to command replied state).threads ≡ state.threads
replied_threads command replied state = grind arith

-- Rows ----------------------------------------------------------------------------------------------------------------

-- a part that tells of no thread
mute_tells : (P : Id → Type 0) (part : Part) → is_mute part ≡ true → TellStands P part
mute_tells P (Part.Tells (a_stop stopping)) is = cc
mute_tells P (Part.Tells (some_news (thread_changed started thread))) is = cc
mute_tells P (Part.Looks (exception_text thread one)) is = cc
mute_tells P (Part.Notes (Throws thrown)) is = cc
mute_tells P _ is = tt

row_tells : (P : Id → Type 0) (command : Command) (state : State) → All (OfThread P) state.threads
    → All (TellStands P) (row_of command state)
row_tells P (Pause arguments) state told = by_stop state.stopped (thread_with state.threads arguments.thread_id)
    (told_thread P state.threads arguments.thread_id told)
  where
    by_stop : (stopped : Bool) (thread : Option ThreadId) → OnSome (OfThread P) thread
        → All (TellStands P) (pause_parts stopped thread)
    by_stop stopped None k = (tt, tt)
    by_stop true (Some thread) k = (tt, tt)
    by_stop false (Some thread) k = (tt, (tt, (tt, (tt, (k, tt)))))
row_tells P command state told = all_pass is_mute (mute_tells P) (row_of command state) (row_mute command state refl)

pub begun_tells : (P : Id → Type 0) (state : State) (item : Item) → All (OfThread P) state.threads
    → All (TellStands P) (parts_of state item)
begun_tells P state (a_request request) told =
    of_failure (TellStands P) (λ failure. tt) (failure_of (wanting request.command) state)
    (row_of request.command state) (row_tells P request.command state told)
begun_tells P state item told = all_pass is_mute (mute_tells P) (parts_of state item) (begun_mute state item refl)

pub found_tells : (P : Id → Type 0) (lookup : Lookup) (result : Result Finding) (state : State) (rest : List Part)
    → LookTells P lookup → All (TellStands P) rest → All (TellStands P) (finished lookup result state ++ rest)
found_tells P (exception_text thread one) result state rest k h = (k, h)
found_tells P lookup result state rest k h =
    all_passing is_mute (mute_tells P) (finished lookup result state) rest (found_mute lookup result state refl) h

-- What a composite tells ----------------------------------------------------------------------------------------------

change_stands : (P : Id → Type 0) (event : ATargetEvent) → All P (ids_of_event event)
    → All (OfNews P) (change_told event)
change_stands P (happened.ThreadStart request thread) h = (h.0, tt)
change_stands P (happened.ThreadDeath request thread) h = (h.0, tt)
change_stands P _ h = tt

changes_stand : (P : Id → Type 0) (item : Item) → ItemStands P item → All (OfNews P) (changes_in item)
changes_stand P (a_composite at composite) h =
    each_event P (OfNews P) change_told (change_stands P) composite.events h
changes_stand P _ h = tt

-- Choices -------------------------------------------------------------------------------------------------------------

verified_stand : (P : Id → Type 0) (entries : List _) (changes : List News) → All (OfNews P) changes
    → All (OfNews P) (map entry_verified entries ++ changes)
verified_stand P [] changes h = h
verified_stand P (entry ∷ entries) changes h = (tt, verified_stand P entries changes h)

pub chosen_tells : (P : Id → Type 0) (choice : Choice) (state : State) (hand : Hand) (rest : List Part)
    → ItemStands P hand.item → ChoiceStands P choice → All (TellStands P) rest
    → All (TellStands P) (chosen choice state hand ++ rest)
chosen_tells P (TellsNews below) state hand rest item s h = by_news state.phase (news_of below state hand.item)
    (verified_stand P (newly_verified below state.bound state.wishes) (changes_in hand.item)
    (changes_stand P hand.item item))
  where
    by_news : (phase : Phase) (news : List News) → All (OfNews P) news → All (TellStands P) (told_in phase news ++ rest)
    by_news Attached (one ∷ news) k = (k.0, by_news Attached news k.1)
    by_news _ _ k = h
chosen_tells P (Decides logged stops) state hand rest item s h = by_phase (is_attached state.phase) logged
  where
    told : (cause : HaltCause) (thread : ThreadId) → OfThread P thread → TellStands P (told_part stops cause thread)
    told (came_to at) thread k = k
    told (threw one) thread k = k
    told has_stepped thread k = k

    by_surplus : (stopped : Bool) → All (TellStands P) (surplus stopped ++ rest)
    by_surplus false = h
    by_surplus true = (tt, h)

    by_stop : (stopped holds : Bool) (thrown : List Thrown) → All (OfThrown P) thrown → (stop : Option Halt)
        → OnSome (OfHalt P) stop → All (TellStands P) (decided_by stopped holds thrown stops stop ++ rest)
    by_stop stopped true thrown k None hit = (tt, h)
    by_stop stopped false thrown k None hit = (tt, h)
    by_stop stopped holds thrown k (Some halt) hit =
        (k, (tt, (tt, (told halt.cause halt.thread hit.0, by_surplus stopped))))

    by_phase : (attached : Bool) (logged : List (List ℕ)) → All (TellStands P)
        (cond attached (logged_first state logged stops (events_in hand.item)) [] ++ rest)
    by_phase false logged = h
    by_phase true [] = by_stop state.stopped (holds_entry state (events_in hand.item))
        (thrown_in state.wishes (events_in hand.item)) (all_thrown P state.wishes hand.item item)
        (stop_among stops (hits_in state.wishes (events_in hand.item)))
        (halt_stands P state.wishes stops hand.item s item)
    by_phase true (text ∷ texts) = (tt, (tt, h))
chosen_tells P choice state hand rest item s h =
    all_passing is_mute (mute_tells P) (chosen choice state hand) rest (chosen_mute choice state hand refl) h
