-- A stop is told of what halted a thread, or that the client asked for.
use Rattle.std.proofs.Common.{◌≡◌, ℕ, Bool, true, false, cond, ◌||◌, List, [], ◌∷◌, ◌++◌, Option, Some, None, refl, sym}
use Rattle.std.proofs.Common.{ap, subst, ◌∙◌, option_map, append_assoc, append-nil, arith}
use Rattle.std.specs.List.{AllByRecursion as All}
use Rattle.std.specs.Option.{option_or}
use Rattle.std.specs.BTreeSet.{insert_key}
use Rattle.std.specs.List.{Contains, list_any}
use Rattle.std.proofs.Common.{Ordering}
use Rattle.std.specs.Ordering.{match_ordering, nat_cmp, on}
use Rattle.std.specs.Prelude.{filter, find, fold, map}
use Rattle.std.proofs.lemmas.List.Elements.{Contains-get_or, recursion_from_All}
use Rattle.dap_messages.specs.declared.told.Event.TheVariants as events
use Rattle.dap_messages.specs.declared.told.StopReason.TheVariants as reasons
use Rattle.dap_messages.specs.declared.told.Stopped.{Stopped}
use Rattle.jdwp_events.specs.declared.event.Event.{Event as ATargetEvent}
use Rattle.jdwp_events.specs.declared.event.Event.TheVariants as happened
use Rattle.jdwp_events.specs.declared.kind.EventKind.TheVariants as kinds
use Rattle.jdwp_values.specs.declared.id.ObjectId.{ObjectId}
use Rattle.jdwp_values.specs.declared.location.Location.{Location}
use Rattle.machine_model.specs.Children.{object_named}
use Rattle.machine_model.specs.Due.{Load, asked_hand, busy, can_read, clear, due, hand_load, load_of, newly_lacked}
use Rattle.machine_model.specs.Due.{wanted}
use Rattle.machine_model.specs.Lookups.{finished, found_for, logged_of, stops_of, text_of}
use Rattle.machine_model.specs.Outcomes.{result_of}
use Rattle.machine_model.specs.Plans.{Need, Result, is_done, need}
use Rattle.machine_model.specs.Replying.{given_up, hand_replied}
use Rattle.machine_model.specs.Requests.{Wishes}
use Rattle.machine_model.specs.Rows.{chosen, failure_of, gone_parts, has_response, news_of, parts_of, pause_parts}
use Rattle.machine_model.specs.Rows.{row_of, thread_with, told_in, wanting}
use Rattle.machine_model.specs.Runs.{Allows, Message, Run, said}
use Rattle.machine_model.specs.State.{Hand, Machine, State, is_attached, is_gone, knowing, left}
use Rattle.machine_model.specs.Stopping.{HasHalted, IsHalt, IsHit, IsStop, IsToldAs, IsToldOf, WasHalted, WasJudged}
use Rattle.machine_model.specs.Stopping.{WasNamed, WereStruck}
use Rattle.machine_model.specs.Stops.{decided, decided_by, events_in, first_of, first_with, hit_by, hits_in}
use Rattle.machine_model.specs.Stops.{halt_at, holds_entry, is_live, is_thrown, logged_first, stop_among, stopping_at}
use Rattle.machine_model.specs.Stops.{strike_at, strike_told, strikes_by, strikes_in, surplus, thrown_in, told_part}
use Rattle.machine_model.specs.Suspending.{IsBoundFirst}
use Rattle.machine_model.specs.Telling.{after_event, reason_told}
use Rattle.machine_model.proofs.Bools.{first_fails, first_holds}
use Rattle.machine_steps.specs.Names.{Act, Attached, Choice, Command, Decides, Deed, Does, Event, Finding, Halt}
use Rattle.machine_steps.specs.Names.{HaltCause, Hit, Initialized, Item, Lookup, News, Part, Pause, Phase, Replied}
use Rattle.machine_steps.specs.Names.{Resume, StopCause, Stopping, TargetCommand, TellsNews, Terminated, ThreadId}
use Rattle.machine_steps.specs.Names.{Thrown, Want, a_composite, a_question, a_request, a_stop, an_effect, an_event}
use Rattle.machine_steps.specs.Names.{by_client, by_exception, by_step, came_to, exception_text, has_stepped}
use Rattle.machine_steps.specs.Names.{of_composite, some_news, threw, entry_verified, Judges, Logged, Strike}
use Rattle.machine_steps.specs.Names.{breakpoint_hits}
use Rattle.machine_steps.proofs.HoldingParts.{holding, may_all, may_front, may_stop, only_resumes}
use Rattle.machine_steps.proofs.HitIds.{told_strike}
use Rattle.machine_model.proofs.PlanIds.{OnSome}
use Rattle.machine_steps.proofs.RequestSteps.{decides, is_judging}
use Rattle.machine_steps.proofs.RestLaws.{is_free}
use Rattle.machine_steps.proofs.Stepping.{IsAt, Moves, by_runs, moved, with_said, Loses}
use Rattle.machine_laws.proofs.SuspendLaws.{bound_at_choice, bound_at_stop}
use Rattle.machine_steps.proofs.Tables.{free as free_test, free_once}
use Rattle.machine_steps.proofs.Testing.{tested, whole}
use Rattle.machine_steps.proofs.PartTests.{all_pass, all_passing, is_mute, is_of_stop, is_pause_command, is_request}
use Rattle.machine_steps.proofs.PartTests.{of_failure, passes, tells_more}
use Rattle.wish_sets.proofs.WishLaws.{is_itself}
use Rattle.wish_sets.specs.Entries.{entries_at}
use Rattle.wish_sets.specs.Order.{is_wish}
use Rattle.wish_sets.specs.declared.entry.EntryAt.{EntryAt}
use Rattle.wish_sets.specs.declared.wish.Wish.TheVariants as wish

-- Hits ----------------------------------------------------------------------------------------------------------------

-- what halted among some events halted among more
pub one_before : (w : Wishes) (event : ATargetEvent) (events : List ATargetEvent) (halt : Halt) → HasHalted w events halt
    → HasHalted w (event ∷ events) halt
one_before w event events halt h = record {
  before = event ∷ h.before;
  event = h.event;
  after = h.after;
  events_are = ap (λ (all : List ATargetEvent). event ∷ all) h.events_are;
  is_halt = h.is_halt;
}

-- one that came to no breakpoint
abbrev comes : HaltCause → Bool
comes (came_to at) = true
comes (threw object) = false
comes has_stepped = false

abbrev OtherHalt : Wishes → List ATargetEvent → Halt → Type 0
OtherHalt w events halt = HasHalted w events halt × (comes halt.cause ≡ false)

all_before : (w : Wishes) (event : ATargetEvent) (events : List ATargetEvent) (hits : List Halt)
    → All (OtherHalt w events) hits → All (OtherHalt w (event ∷ events)) hits
all_before w event events [] h = tt
all_before w event events (hit ∷ hits) h =
    ((one_before w event events hit h.0.0, h.0.1), all_before w event events hits h.1)

hits_are : (w : Wishes) (events : List ATargetEvent) → All (OtherHalt w events) (hits_in w events)
hits_are w [] = tt
hits_are w (event ∷ events) = by_event event (all_before w event events (hits_in w events) (hits_are w events))
  where
    by_live : (event : ATargetEvent) (halt : Halt) (live : Bool) → (live ≡ true → IsHalt w event halt)
        → comes halt.cause ≡ false → All (OtherHalt w (event ∷ events)) (hits_in w events)
        → All (OtherHalt w (event ∷ events)) (cond live (halt ∷ []) [] ++ hits_in w events)
    by_live event halt true is other h = (
      (record { before = []; event = event; after = events; events_are = refl; is_halt = is refl }, other),
      h,
    )
    by_live event halt false is other h = h

    by_event : (event : ATargetEvent) → All (OtherHalt w (event ∷ events)) (hits_in w events)
        → All (OtherHalt w (event ∷ events)) (hit_by w event ++ hits_in w events)
    by_event (happened.SingleStep request thread at) h =
        by_live (happened.SingleStep request thread at) (record { cause = has_stepped; thread = thread })
        (is_live w kinds.SingleStep request) (λ is. IsHalt.at_step is) refl h
    by_event (happened.Exception request thread at exception catch) h =
        by_live (happened.Exception request thread at exception catch)
        (record { cause = threw (record { 0 = object_named exception }); thread = thread })
        (is_live w kinds.Exception request) (λ is. IsHalt.at_exception is) refl h
    by_event _ h = h

-- what holds of all holds of the one that is picked
abbrev OfSome : (P : Halt → Type 0) → Option Halt → Type 0
OfSome P None = Unit {0}
OfSome P (Some halt) = P halt

found_of : (P : Halt → Type 0) (test : Halt → Bool) (hits : List Halt) → All P hits → OfSome P (find test hits)
found_of P test [] h = tt
found_of P test (hit ∷ hits) h = by_test (test hit) (found_of P test hits h.1)
  where
    by_test : (found : Bool) → OfSome P (find test hits) → OfSome P (cond found (Some hit) (find test hits))
    by_test true others = h.0
    by_test false others = others

first_halt : (P : Halt → Type 0) (hits : List Halt) → All P hits → OfSome P (first_with is_thrown hits (first_of hits))
first_halt P hits h = either (find (λ hit. is_thrown hit.cause) hits) (first_of hits)
    (found_of P (λ hit. is_thrown hit.cause) hits h) (first hits h)
  where
    first : (hits : List Halt) → All P hits → OfSome P (first_of hits)
    first [] h = tt
    first (hit ∷ hits) h = h.0

    either : (one other : Option Halt) → OfSome P one → OfSome P other → OfSome P (option_or one other)
    either None other h also = also
    either (Some halt) other h also = h

-- Breakpoints that threads came to ------------------------------------------------------------------------------------

-- a thread came to its place among these events
abbrev HasStruck : Wishes → List ATargetEvent → Strike → Type 0
HasStruck w events strike = HasHalted w events (halt_at strike)

more_struck : (w : Wishes) (event : ATargetEvent) (events : List ATargetEvent) (strikes : List Strike)
    → All (HasStruck w events) strikes → All (HasStruck w (event ∷ events)) strikes
more_struck w event events [] h = tt
more_struck w event events (strike ∷ strikes) h =
    (one_before w event events (halt_at strike) h.0, more_struck w event events strikes h.1)

strikes_are : (w : Wishes) (events : List ATargetEvent) → All (HasStruck w events) (strikes_in w events)
strikes_are w [] = tt
strikes_are w (event ∷ events) =
    by_event event (more_struck w event events (strikes_in w events) (strikes_are w events))
  where
    by_event : (event : ATargetEvent) → All (HasStruck w (event ∷ events)) (strikes_in w events)
        → All (HasStruck w (event ∷ events)) (strikes_by w event ++ strikes_in w events)
    by_event (happened.Breakpoint request thread at) h =
        by_live (is_live w kinds.Breakpoint request) (λ is. is)
      where
        each : (entries : List EntryAt) → is_live w kinds.Breakpoint request ≡ true
            → All (HasStruck w (happened.Breakpoint request thread at ∷ events))
            (map (strike_at thread at) entries ++ strikes_in w events)
        each [] is = h
        each (entry ∷ entries) is = (
          record {
            before = [];
            event = happened.Breakpoint request thread at;
            after = events;
            events_are = refl;
            is_halt = IsHalt.at_breakpoint is;
          },
          each entries is,
        )

        by_live : (live : Bool) → (live ≡ true → is_live w kinds.Breakpoint request ≡ true)
            → All (HasStruck w (happened.Breakpoint request thread at ∷ events))
            (cond live (map (strike_at thread at) (entries_at w.wanted at)) [] ++ strikes_in w events)
        by_live true is = each (entries_at w.wanted at) (is refl)
        by_live false is = h
    by_event _ h = h

-- What an item is still to tell ---------------------------------------------------------------------------------------

abbrev is_pause : Item → Bool
is_pause (a_request request) = is_pause_command request.command
is_pause _ = false

-- why it may tell of a stop
abbrev StopOf : List Message → Item → Stopping → StopCause → Type 0
StopOf messages item stopping (Hit entries) = IsHit messages item stopping
StopOf messages item stopping (by_exception text) = IsHit messages item stopping
StopOf messages item stopping by_step = IsHit messages item stopping
StopOf messages item stopping by_client = is_pause item ≡ true

-- a breakpoint was judged that logs this
pub record HasLogged (messages : List Message) (item : Item) (text : List ℕ) : Type 0 where
  found : Result Finding
  judged : WasJudged messages item found
  among : Contains (logged_of found) text

abbrev EventTells : List Message → Item → Event → Type 0
EventTells messages item Initialized = Unit {0}
EventTells messages item (some_news news) = Unit {0}
EventTells messages item (a_stop stopping) = StopOf messages item stopping stopping.cause
EventTells messages item (Logged text) = HasLogged messages item text
EventTells messages item Terminated = Unit {0}

-- what was thrown is looked up to be told
abbrev LookTells : List Message → Item → Lookup → Type 0
LookTells messages item (exception_text thread object) =
    WasHalted messages item (record { cause = threw object; thread = thread })
LookTells messages item (breakpoint_hits strikes) = WereStruck messages item strikes
LookTells messages item _ = Unit {0}

-- breakpoints were judged, these texts are among what they log, and these are those that stop
pub record Judged (messages : List Message) (item : Item) (logged : List (List ℕ)) (stops : List Strike) : Type 0 where
  found : Result Finding
  judged : WasJudged messages item found
  among : All (Contains (logged_of found)) logged
  stops_are : stops ≡ stops_of found

abbrev ChoiceTells : List Message → Item → Choice → Type 0
ChoiceTells messages item (Decides logged stops) = Judged messages item logged stops
ChoiceTells messages item _ = Unit {0}

abbrev PartTells : List Message → Item → Part → Type 0
PartTells messages item (Part.Tells event) = EventTells messages item event
PartTells messages item (Part.Responds outcome) = Unit {0}
PartTells messages item (Part.Sends deed) = Unit {0}
PartTells messages item (Part.Looks lookup) = LookTells messages item lookup
PartTells messages item (Part.Awaits guard) = Unit {0}
PartTells messages item Part.Updates = Unit {0}
PartTells messages item (Part.Notes note) = Unit {0}
PartTells messages item (Part.Unfolds choice) = ChoiceTells messages item choice
PartTells messages item (Part.Ends finish) = Unit {0}

abbrev HandTells : List Message → Option Hand → Type 0
HandTells messages None = Unit {0}
HandTells messages (Some hand) = All (PartTells messages hand.item) hand.parts

-- More messages -------------------------------------------------------------------------------------------------------

module _ (messages more : List Message) (item : Item) where
  halted_still : {halt : Halt} → WasHalted messages item halt → WasHalted (messages ++ more) item halt
  halted_still h = record {
    earlier = h.earlier;
    later = h.later ++ more;
    there = h.there;
    hand = h.hand;
    messages_are = ap (λ (all : List Message). all ++ more) h.messages_are ∙ append_assoc h.earlier h.later more;
    run = h.run;
    is_held = h.is_held;
    is_item = h.is_item;
    bound = h.bound;
    has_halted = h.has_halted;
  }

  named_still : {thread : ThreadId} {object : ObjectId} {text : Option (List ℕ)}
      → WasNamed messages item thread object text → WasNamed (messages ++ more) item thread object text
  named_still h = record {
    earlier = h.earlier;
    later = h.later ++ more;
    there = h.there;
    hand = h.hand;
    messages_are = ap (λ (all : List Message). all ++ more) h.messages_are ∙ append_assoc h.earlier h.later more;
    run = h.run;
    is_held = h.is_held;
    is_item = h.is_item;
    done = h.done;
    text_is = h.text_is;
  }

  struck_still : {strikes : List Strike} → WereStruck messages item strikes → WereStruck (messages ++ more) item strikes
  struck_still h = record {
    earlier = h.earlier;
    later = h.later ++ more;
    there = h.there;
    hand = h.hand;
    messages_are = ap (λ (all : List Message). all ++ more) h.messages_are ∙ append_assoc h.earlier h.later more;
    run = h.run;
    is_held = h.is_held;
    is_item = h.is_item;
    bound = h.bound;
    strikes_are = h.strikes_are;
  }

  judged_still : {found : Result Finding} → WasJudged messages item found → WasJudged (messages ++ more) item found
  judged_still h = record {
    strikes = h.strikes;
    struck = struck_still h.struck;
    earlier = h.earlier;
    later = h.later ++ more;
    there = h.there;
    hand = h.hand;
    messages_are = ap (λ (all : List Message). all ++ more) h.messages_are ∙ append_assoc h.earlier h.later more;
    run = h.run;
    is_held = h.is_held;
    is_item = h.is_item;
    done = h.done;
    found_is = h.found_is;
  }

  told_still : {halt : Halt} {stopping : Stopping} → IsToldOf messages item halt stopping
      → IsToldOf (messages ++ more) item halt stopping
  told_still (IsToldOf.of_breakpoint stops) = IsToldOf.of_breakpoint (record {
    found = stops.found;
    judged = judged_still stops.judged;
    entries_are = stops.entries_are;
    some = stops.some;
  })
  told_still (IsToldOf.of_exception named) = IsToldOf.of_exception (named_still named)
  told_still IsToldOf.of_step = IsToldOf.of_step

  hit_still : {stopping : Stopping} → IsHit messages item stopping → IsHit (messages ++ more) item stopping
  hit_still h =
      record { halt = h.halt; was_halted = halted_still h.was_halted; is_told_of = told_still h.is_told_of }

  cause_still : (stopping : Stopping) (cause : StopCause) → StopOf messages item stopping cause
      → StopOf (messages ++ more) item stopping cause
  cause_still stopping by_client h = h
  cause_still stopping _ h = hit_still h

  event_still : (event : Event) → EventTells messages item event → EventTells (messages ++ more) item event
  event_still (a_stop stopping) h = cause_still stopping stopping.cause h
  event_still (Logged text) h = record { found = h.found; judged = judged_still h.judged; among = h.among }
  event_still _ h = tt

  look_still : (lookup : Lookup) → LookTells messages item lookup → LookTells (messages ++ more) item lookup
  look_still (exception_text thread object) h = halted_still h
  look_still (breakpoint_hits strikes) h = struck_still h
  look_still _ h = tt

  choice_still : (choice : Choice) → ChoiceTells messages item choice → ChoiceTells (messages ++ more) item choice
  choice_still (Decides logged stops) h =
      record { found = h.found; judged = judged_still h.judged; among = h.among; stops_are = h.stops_are }
  choice_still _ h = tt

  part_still : (part : Part) → PartTells messages item part → PartTells (messages ++ more) item part
  part_still (Part.Tells event) h = event_still event h
  part_still (Part.Looks lookup) h = look_still lookup h
  part_still (Part.Unfolds choice) h = choice_still choice h
  part_still _ h = tt

  parts_still : (parts : List Part) → All (PartTells messages item) parts
      → All (PartTells (messages ++ more) item) parts
  parts_still [] h = tt
  parts_still (part ∷ parts) h = (part_still part h.0, parts_still parts h.1)

pub tells_still : (messages more : List Message) (hand : Option Hand) → HandTells messages hand
    → HandTells (messages ++ more) hand
tells_still messages more None h = tt
tells_still messages more (Some hand) h = parts_still messages more hand.item hand.parts h

-- The tables ----------------------------------------------------------------------------------------------------------

-- a part that tells of no thread, and is nothing to judge
abbrev is_still : Part → Bool
is_still (Part.Tells (Logged text)) = false
is_still (Part.Looks (breakpoint_hits strikes)) = false
is_still (Part.Unfolds (Decides logged stops)) = false
is_still part = is_mute part

still_tells : (messages : List Message) (item : Item) (part : Part) → is_still part ≡ true → PartTells messages item part
still_tells messages item (Part.Tells (a_stop stopping)) is = cc
still_tells messages item (Part.Tells (Logged text)) is = cc
still_tells messages item (Part.Looks (exception_text thread object)) is = cc
still_tells messages item (Part.Looks (breakpoint_hits strikes)) is = cc
still_tells messages item (Part.Unfolds (Decides logged stops)) is = cc
still_tells messages item _ is = tt

row_still : (command : Command) (state : State) → is_pause_command command ≡ false
    → passes is_still (row_of command state) ≡ true
row_still command state is = grind (arith, is)

begun_still : (state : State) (item : Item) → is_request item ≡ false → passes is_still (parts_of state item) ≡ true
begun_still state item is = grind (arith, is)

found_still : (lookup : Lookup) (result : Result Finding) (state : State) → is_of_stop lookup ≡ false
    → is_judging lookup ≡ false → passes is_still (finished lookup result state) ≡ true
found_still lookup result state is none = grind (arith, is, none)

abbrev judges : Choice → Bool
judges Judges = true
judges _ = false

chosen_still : (choice : Choice) (state : State) (hand : Hand) → tells_more choice ≡ false
    → judges choice ≡ false → passes is_still (chosen choice state hand) ≡ true
chosen_still choice state hand is none = grind (arith, is, none)

gone_still : (responds : Bool) (item : Item) → passes is_still (gone_parts responds item) ≡ true
gone_still responds item = grind arith

row_tells : (messages : List Message) (item : Item) (command : Command) (state : State)
    → (is_pause_command command ≡ true → is_pause item ≡ true) → All (PartTells messages item) (row_of command state)
row_tells messages item (Pause arguments) state is =
    by_stop state.stopped (thread_with state.threads arguments.thread_id) (is refl)
  where
    by_stop : (stopped : Bool) (thread : Option ThreadId) → is_pause item ≡ true
        → All (PartTells messages item) (pause_parts stopped thread)
    by_stop stopped None is = (tt, tt)
    by_stop true (Some thread) is = (tt, tt)
    by_stop false (Some thread) is = (tt, (tt, (tt, (tt, (is, tt)))))
row_tells messages item command state is =
    all_pass is_still (still_tells messages item) (row_of command state) (row_still command state refl)

begun_tells : (messages : List Message) (state : State) (item : Item) → All (PartTells messages item) (parts_of state item)
begun_tells messages state (a_request request) =
    of_failure (PartTells messages (a_request request)) (λ failure. tt) (failure_of (wanting request.command) state)
    (row_of request.command state) (row_tells messages (a_request request) request.command state (λ is. is))
begun_tells messages state item =
    all_pass is_still (still_tells messages item) (parts_of state item) (begun_still state item refl)

found_tells : {messages : List Message} {m : Machine} {hand : Hand} → Run messages m → m.hand ≡ Some hand
    → (lookup : Lookup) (found : Need Finding) → found_for lookup m.state hand ≡ found → is_done found ≡ true
    → (rest : List Part) → LookTells messages hand.item lookup → All (PartTells messages hand.item) rest
    → All (PartTells messages hand.item) (finished lookup (result_of found) m.state ++ rest)
found_tells {messages} {m} {hand} r is (exception_text thread object) found needs done rest looks h = (
  record {
    halt = record { cause = threw object; thread = thread };
    was_halted = looks;
    is_told_of = IsToldOf.of_exception (record {
      earlier = messages;
      later = [];
      there = m;
      hand = hand;
      messages_are = sym (append-nil messages);
      run = r;
      is_held = is;
      is_item = refl;
      done = ap is_done needs ∙ done;
      text_is = ap (λ (found : Need Finding). text_of (result_of found)) (sym needs);
    });
  },
  h,
)
found_tells {messages} {m} {hand} r is (breakpoint_hits strikes) found needs done rest looks h = (
  record {
    found = result_of found;
    judged = record {
      strikes = strikes;
      struck = looks;
      earlier = messages;
      later = [];
      there = m;
      hand = hand;
      messages_are = sym (append-nil messages);
      run = r;
      is_held = is;
      is_item = refl;
      done = ap is_done needs ∙ done;
      found_is = ap result_of (sym needs);
    };
    among = let logged = logged_of (result_of found) in
        recursion_from_All (Contains logged) logged (λ place text less. Contains-get_or logged place text less);
    stops_are = refl;
  },
  h,
)
found_tells {messages} {m} {hand} r is lookup found needs done rest looks h =
    all_passing is_still (still_tells messages hand.item) (finished lookup (result_of found) m.state) rest
    (found_still lookup (result_of found) m.state refl refl) h

-- Strikes that were judged --------------------------------------------------------------------------------------------

-- what stops is among what is judged
of_stops : (P : Strike → Type 0) (strikes : List Strike) (state : State) (hand : Hand) → All P strikes
    → All P (stops_of (result_of (found_for (breakpoint_hits strikes) state hand)))
unfolding need
of_stops P strikes state hand h = h

was_struck : (messages : List Message) (item : Item) (found : Result Finding) → WasJudged messages item found
    → All (λ strike. WasHalted messages item (halt_at strike)) (stops_of found)
was_struck messages item found j = subst (λ (found : Result Finding). All Was (stops_of found)) (sym j.found_is)
    (of_stops Was j.strikes j.there.state j.hand
    (subst (λ (strikes : List Strike). All Was strikes) (sym j.struck.strikes_are)
    (each (strikes_in j.struck.there.state.wishes (events_in item))
    (strikes_are j.struck.there.state.wishes (events_in item)))))
  where
    Was : Strike → Type 0
    Was strike = WasHalted messages item (halt_at strike)

    each : (strikes : List Strike) → All (HasStruck j.struck.there.state.wishes (events_in item)) strikes
        → All Was strikes
    each [] h = tt
    each (strike ∷ strikes) h = (
      record {
        earlier = j.struck.earlier;
        later = j.struck.later;
        there = j.struck.there;
        hand = j.struck.hand;
        messages_are = j.struck.messages_are;
        run = j.struck.run;
        is_held = j.struck.is_held;
        is_item = j.struck.is_item;
        bound = j.struck.bound;
        has_halted = h.0;
      },
      each strikes h.1,
    )

-- Where something stops, there is an entry that does
abbrev has_one : {A : Type 0} → List A → Bool
has_one [] = false
has_one (a ∷ others) = true

inserted_one : (entries : List EntryAt) (entry : EntryAt)
    → has_one (insert_key (on (λ (entry : EntryAt). entry.id) nat_cmp) entries entry) ≡ true
inserted_one [] entry = refl
inserted_one (first ∷ entries) entry = by_order (on (λ (entry : EntryAt). entry.id) nat_cmp entry first)
  where
    by_order : (order : Ordering) → has_one (match_ordering order (entry ∷ first ∷ entries) (first ∷ entries)
        (first ∷ insert_key (on (λ (entry : EntryAt). entry.id) nat_cmp) entries entry)) ≡ true
    by_order order = grind arith

folded_one : (start entries : List EntryAt) → has_one start ≡ true
    → has_one (fold (insert_key (on (λ (entry : EntryAt). entry.id) nat_cmp)) start entries) ≡ true
folded_one start [] h = h
folded_one start (entry ∷ entries) h =
    folded_one (insert_key (on (λ (entry : EntryAt). entry.id) nat_cmp) start entry) entries (inserted_one start entry)

abbrev is_at : Location → Strike → Bool
is_at at strike = is_wish (wish.Stop at) (wish.Stop strike.at)

stopping_one : (at : Location) (stops : List Strike) → list_any (is_at at) stops ≡ true
    → has_one (stopping_at at stops) ≡ true
stopping_one at [] is = cc
stopping_one at (strike ∷ stops) is = by_test (is_at at strike) (λ others. stopping_one at stops others) is
  where
    by_test : (there : Bool) → (list_any (is_at at) stops ≡ true → has_one (stopping_at at stops) ≡ true)
        → (there || list_any (is_at at) stops) ≡ true
        → has_one (fold (insert_key (on (λ (entry : EntryAt). entry.id) nat_cmp)) []
        (map (λ (strike : Strike). strike.entry) (cond there (strike ∷ filter (is_at at) stops)
        (filter (is_at at) stops)))) ≡ true
    by_test true others is =
        folded_one (strike.entry ∷ []) (map (λ (strike : Strike). strike.entry) (filter (is_at at) stops)) refl
    by_test false others is = others is

abbrev IsThere : List Strike → Strike → Type 0
IsThere stops strike = list_any (is_at strike.at) stops ≡ true

each_there : (stops : List Strike) → All (IsThere stops) stops
each_there [] = tt
each_there (first ∷ stops) = (rw (is_itself (wish.Stop first.at)) refl, more stops (each_there stops))
  where
    or_other : (one other : Bool) → other ≡ true → (one || other) ≡ true
    or_other true other is = refl
    or_other false other is = is

    more : (strikes : List Strike) → All (IsThere stops) strikes → All (IsThere (first ∷ stops)) strikes
    more [] h = tt
    more (strike ∷ strikes) h =
        (or_other (is_at strike.at first) (list_any (is_at strike.at) stops) h.0, more strikes h.1)

both_all : (P Q : Strike → Type 0) (strikes : List Strike) → All P strikes → All Q strikes
    → All (λ (strike : Strike). P strike × Q strike) strikes
both_all P Q [] h k = tt
both_all P Q (strike ∷ strikes) h k = ((h.0, k.0), both_all P Q strikes h.1 k.1)

-- what is decided of a composite tells of what halted a thread in it
decided_tells : {messages : List Message} {m : Machine} {hand : Hand} → Run messages m → m.hand ≡ Some hand
    → IsBoundFirst m.state → (logged : List (List ℕ)) (stops : List Strike) (rest : List Part)
    → Judged messages hand.item logged stops → All (PartTells messages hand.item) rest
    → All (PartTells messages hand.item) (decided m.state logged stops hand.item ++ rest)
decided_tells {messages} {m} {hand} r is bound logged stops rest j h = by_phase (is_attached m.state.phase) logged j.among
  where
    hits : List Halt
    hits = hits_in m.state.wishes (events_in hand.item)

    Struck : Strike → Type 0
    Struck strike = WasHalted messages hand.item (halt_at strike) × IsThere stops strike

    struck : All Struck stops
    struck = both_all (λ (strike : Strike). WasHalted messages hand.item (halt_at strike)) (IsThere stops) stops
        (subst (λ (stops : List Strike). All (λ (strike : Strike). WasHalted messages hand.item (halt_at strike)) stops)
        (sym j.stops_are) (was_struck messages hand.item j.found j.judged)) (each_there stops)

    was : (halt : Halt) → HasHalted m.state.wishes (events_in hand.item) halt → WasHalted messages hand.item halt
    was halt has_halted = record {
      earlier = messages;
      later = [];
      there = m;
      hand = hand;
      messages_are = sym (append-nil messages);
      run = r;
      is_held = is;
      is_item = refl;
      bound = bound;
      has_halted = has_halted;
    }

    by_place : (strike : Strike) → Struck strike
        → PartTells messages hand.item (told_part stops (came_to strike.at) strike.thread)
    by_place strike k = record {
      halt = halt_at strike;
      was_halted = k.0;
      is_told_of = IsToldOf.of_breakpoint (record {
        found = j.found;
        judged = j.judged;
        entries_are = ap (stopping_at strike.at) j.stops_are;
        some = λ none. let no : true ≡ false = sym (stopping_one strike.at stops k.1) ∙ ap has_one none in cc;
      });
    }

    by_other : (cause : HaltCause) (thread : ThreadId)
        → HasHalted m.state.wishes (events_in hand.item) (record { cause = cause; thread = thread })
        → comes cause ≡ false → PartTells messages hand.item (told_part stops cause thread)
    by_other (came_to at) thread halted other = cc
    by_other (threw object) thread halted other = was _ halted
    by_other has_stepped thread halted other = record {
      halt = record { cause = has_stepped; thread = thread };
      was_halted = was _ halted;
      is_told_of = IsToldOf.of_step;
    }

    Tells : Option Halt → Type 0
    Tells None = Unit {0}
    Tells (Some halt) = PartTells messages hand.item (told_part stops halt.cause halt.thread)

    by_hit : (found : Option Halt) → OfSome (OtherHalt m.state.wishes (events_in hand.item)) found → Tells found
    by_hit None k = tt
    by_hit (Some halt) k = by_other halt.cause halt.thread k.0 k.1

    by_strike : (found : Option Strike) → OnSome Struck found
        → Tells (option_or (option_map halt_at found) (first_with is_thrown hits (first_of hits)))
    by_strike (Some strike) k = by_place strike k
    by_strike None k = by_hit (first_with is_thrown hits (first_of hits))
        (first_halt (OtherHalt m.state.wishes (events_in hand.item)) hits
        (hits_are m.state.wishes (events_in hand.item)))

    by_surplus : (stopped : Bool) → All (PartTells messages hand.item) (surplus stopped ++ rest)
    by_surplus false = h
    by_surplus true = (tt, h)

    by_stop : (stopped holds : Bool) (thrown : List Thrown) (stop : Option Halt) → Tells stop
        → All (PartTells messages hand.item) (decided_by stopped holds thrown stops stop ++ rest)
    by_stop stopped true thrown None told = (tt, h)
    by_stop stopped false thrown None told = (tt, h)
    by_stop stopped holds thrown (Some halt) told = (tt, (tt, (tt, (told, by_surplus stopped))))

    by_phase : (attached : Bool) (logged : List (List ℕ)) → All (Contains (logged_of j.found)) logged
        → All (PartTells messages hand.item)
        (cond attached (logged_first m.state logged stops (events_in hand.item)) [] ++ rest)
    by_phase false logged among = h
    by_phase true [] among = by_stop m.state.stopped (holds_entry m.state (events_in hand.item))
        (thrown_in m.state.wishes (events_in hand.item)) (stop_among stops hits)
        (by_strike (strike_told stops) (told_strike Struck stops struck))
    by_phase true (text ∷ texts) among = (
      record { found = j.found; judged = j.judged; among = among.0 },
      (record { found = j.found; judged = j.judged; among = among.1; stops_are = j.stops_are }, h),
    )

chosen_tells : {messages : List Message} {m : Machine} {hand : Hand} → Run messages m → m.hand ≡ Some hand
    → (choice : Choice) (rest : List Part) → (decides (Part.Unfolds choice) ≡ true → IsBoundFirst m.state)
    → ChoiceTells messages hand.item choice → All (PartTells messages hand.item) rest
    → All (PartTells messages hand.item) (chosen choice m.state hand ++ rest)
chosen_tells {messages} {m} {hand} r is (TellsNews below) rest bound j h =
    by_news m.state.phase (news_of below m.state hand.item)
  where
    by_news : (phase : Phase) (news : List News) → All (PartTells messages hand.item) (told_in phase news ++ rest)
    by_news Attached (one ∷ news) = (tt, by_news Attached news)
    by_news _ _ = h
chosen_tells {messages} {m} {hand} r is Judges rest bound j h = by_phase (is_attached m.state.phase)
  where
    by_phase : (attached : Bool) → All (PartTells messages hand.item) (cond attached
        (Part.Looks (breakpoint_hits (strikes_in m.state.wishes (events_in hand.item))) ∷ []) [] ++ rest)
    by_phase false = h
    by_phase true = (
      record {
        earlier = messages;
        later = [];
        there = m;
        hand = hand;
        messages_are = sym (append-nil messages);
        run = r;
        is_held = is;
        is_item = refl;
        bound = bound refl;
        strikes_are = refl;
      },
      h,
    )
chosen_tells r is (Decides logged stops) rest bound j h = decided_tells r is (bound refl) logged stops rest j h
chosen_tells {messages} {m} {hand} r is choice rest bound j h =
    all_passing is_still (still_tells messages hand.item) (chosen choice m.state hand) rest
    (chosen_still choice m.state hand refl refl) h

given_tells : (messages : List Message) (hand : Option Hand) → HandTells messages (option_map given_up hand)
given_tells messages None = tt
given_tells messages (Some hand) =
    all_pass is_still (still_tells messages hand.item) (gone_parts (has_response hand.parts) hand.item)
    (gone_still (has_response hand.parts) hand.item)

-- In runs -------------------------------------------------------------------------------------------------------------

stops_front : (messages : List Message) {m : Machine} {hand : Hand} {part : Part} {rest : List Part}
    → HandTells messages m.hand → IsAt m hand part rest → All (PartTells messages hand.item) (part ∷ rest)
stops_front messages {m} {hand} h at =
    subst (λ (parts : List Part). All (PartTells messages hand.item) parts) at.parts
    (subst (λ (held : Option Hand). HandTells messages held) at.in_hand h)

replied_tells : (messages : List Message) (command : TargetCommand) (replied : Replied) (hand : Option Hand)
    → HandTells messages hand → HandTells messages (option_map (hand_replied command replied) hand)
replied_tells messages command replied None h = tt
replied_tells messages (a_question question) replied (Some hand) h = h
replied_tells messages (an_effect effect) replied (Some hand) h = h

asked_tells : (messages : List Message) (want : Want) (hand : Option Hand) → HandTells messages hand
    → HandTells messages (option_map (asked_hand want) hand)
asked_tells messages want None h = tt
asked_tells messages want (Some hand) h = h

-- what the next one tells is what could be told before its message
stopping_on : (messages : List Message) (m next : Machine) (said : Option Message) → Run messages m
    → HandTells messages m.hand → Moves m said next → HandTells messages next.hand
stopping_on messages m next said r h (Moves.begins picked free none is) = begun_tells messages m.state picked.item
stopping_on messages m next said r h (Moves.drops free is none) = tt
stopping_on messages m next said r h (Moves.responds free at is) = (stops_front messages h at).1
stopping_on messages m next said r h (Moves.finds {hand} {rest} {lookup} found free at needs done) =
    let front = stops_front messages h at in found_tells r at.in_hand lookup found needs done rest front.0 front.1
stopping_on messages m next said r h (Moves.passes_over free at why) = (stops_front messages h at).1
stopping_on messages m next said r h (Moves.tells free at) = (stops_front messages h at).1
stopping_on messages m next said r h (Moves.sends free at near) = (stops_front messages h at).1
stopping_on messages m next said r h (Moves.updates free at is near) = stops_front messages h at
stopping_on messages m next said r h (Moves.notes free at) = (stops_front messages h at).1
stopping_on messages m next said r h (Moves.unfolds {hand} {choice} {rest} free at) =
    let front = stops_front messages h at in
    chosen_tells r at.in_hand choice rest (λ is. bound_at_choice r at is) front.0 front.1
stopping_on messages m next said r h (Moves.queues free is) =
    subst (λ (held : Option Hand). HandTells messages held) is h
stopping_on messages m next said r h (Moves.asks {want = want} free room is are) =
    asked_tells messages want m.hand h
stopping_on messages m next said r h (Moves.answers {question} {replied} is waits reply stays) =
    replied_tells messages (a_question question) replied m.hand h
stopping_on messages m next said r h (Moves.replies {effect} {replied} is flies reply stays) =
    replied_tells messages (an_effect effect) replied m.hand h
stopping_on messages m next said r h (Moves.loses late near why) = given_tells messages m.hand
stopping_on messages m next said r h _ = h

said_tells : (messages : List Message) (said : Option Message) (hand : Option Hand) → HandTells messages hand
    → HandTells (with_said messages said) hand
said_tells messages None hand h = h
said_tells messages (Some message) hand h = tells_still messages (message ∷ []) hand h

always_stopping : {messages : List Message} {m : Machine} → Run messages m → HandTells messages m.hand
always_stopping r = by_runs {Holds = λ (messages : List Message) (m : Machine). HandTells messages m.hand} (record {
  starts = tt;
  moves = λ messages m next said before h moved after.
      said_tells messages said next.hand (stopping_on messages m next said before h moved);
  queues = λ messages m hand queue before may h. h;
}) r

-- The law -------------------------------------------------------------------------------------------------------------

-- only a composite has hits
no_halt : {A : Type 0} {w : Wishes} {halt : Halt} → HasHalted w [] halt → A
no_halt {A} h = by_list h.before h.event h.after h.events_are
  where
    by_list : (before : List ATargetEvent) (event : ATargetEvent) (after : List ATargetEvent)
        → [] ≡ before ++ event ∷ after → A
    by_list [] event after is = cc
    by_list (first ∷ before) event after is = cc

no_hit : {A : Type 0} {messages : List Message} {item : Item} {stopping : Stopping} → events_in item ≡ []
    → IsHit messages item stopping → A
no_hit none hit = no_halt (subst (λ (events : List ATargetEvent). HasHalted hit.was_halted.there.state.wishes events
    hit.halt) none hit.was_halted.has_halted)

told_stop : (messages : List Message) (m : Machine) (hand : Hand) (stopping : Stopping) (stop : Stopped)
    → m.hand ≡ Some hand → IsToldAs m.state stopping stop → IsBoundFirst m.state → (item : Item) → hand.item ≡ item
    → IsHit messages hand.item stopping → IsStop messages m stop
told_stop messages m hand stopping stop is told bound (a_composite at composite) item hit =
    IsStop.by_hit stopping is item hit told bound
told_stop messages m hand stopping stop is told bound _ item hit = no_hit (ap events_in item) hit

asked_stop : (messages : List Message) (m : Machine) (hand : Hand) (stop : Stopped) → m.hand ≡ Some hand → stop.reason ≡ reasons.Pause
    → m.state.stopped ≡ true → (item : Item) → hand.item ≡ item → is_pause item ≡ true → IsStop messages m stop
asked_stop messages m hand stop is reason stopped (a_request request) item pauses = by_command request.command refl pauses
  where
    by_command : (command : Command) → request.command ≡ command → is_pause_command command ≡ true → IsStop messages m stop
    by_command (Pause arguments) same pauses = IsStop.by_pause is item same reason stopped
    by_command _ same pauses = cc
asked_stop messages m hand stop is reason stopped _ item pauses = cc

stop_at : {messages : List Message} (m next : Machine) (said : Option Message) (stop : Stopped) → Run messages m
    → said ≡ Some (Message.tells (an_event (events.Stopped stop))) → Moves m said next → IsStop messages m stop
stop_at m next said stop r is (Moves.tells {event = some_news (entry_verified entry)} free at) = cc
stop_at {messages} m next said stop r is (Moves.tells {hand} {rest} {event = a_stop stopping} free at) =
    by_cause stopping.cause refl (stops_front messages (always_stopping r) at).0 (first_may (may_front (holding r) at))
  where
    told : IsToldAs m.state stopping stop
    told = cc

    first_may : may_all m.state.phase m.state.stopped m.state.entry (Part.Tells (a_stop stopping) ∷ rest) ≡ true
        → may_stop stopping.cause m.state.stopped rest ≡ true
    first_may may = first_holds (may_stop stopping.cause m.state.stopped rest) _ may

    reason_is : stop.reason ≡ reason_told stopping.cause (after_event (a_stop stopping) m.state)
    reason_is = cc

    by_hit : IsHit messages hand.item stopping → IsStop messages m stop
    by_hit hit = told_stop messages m hand stopping stop at.in_hand told (bound_at_stop r at) hand.item refl hit

    by_cause : (cause : StopCause) → stopping.cause ≡ cause → StopOf messages hand.item stopping cause
        → may_stop cause m.state.stopped rest ≡ true → IsStop messages m stop
    by_cause by_client same pauses may =
        asked_stop messages m hand stop at.in_hand (reason_is ∙ ap (λ (cause : StopCause).
        reason_told cause (after_event (a_stop stopping) m.state)) same) may hand.item refl pauses
    by_cause _ same hit may = by_hit hit
stop_at m next said stop r is (Moves.loses late near Loses.by_end) = cc
stop_at m next said stop r is _ = cc

-- A surplus -----------------------------------------------------------------------------------------------------------

-- where nothing hinders it, a deed in front is due
deed_due : (m : Machine) (hand : Hand) (deed : Deed) (rest : List Part) → load_of m ≡ clear
    → is_gone m.state.phase ≡ false → IsAt m hand (Part.Sends deed) rest → (due false m).act ≡ Act.Sends (Does deed)
unfolding due wanted
deed_due m hand deed rest free near at = rw (free, at.in_hand, at.parts, near) refl

-- what is told hinders nothing of what stands behind it
still_free : (m : Machine) (hand : Hand) (stopping : Stopping) (deed : Deed) (rest : List Part) → load_of m ≡ clear
    → is_gone m.state.phase ≡ false → m.hand ≡ Some hand
    → load_of (left (knowing m (after_event (a_stop stopping) m.state)) hand (Part.Sends deed ∷ rest)) ≡ clear
unfolding load_of newly_lacked
still_free m hand stopping deed rest free near is =
    let f = is_free m hand free near is in
    by_parts (is_gone m.state.phase) (can_read m) _ near
    (none_read (is_gone m.state.phase) (can_read m) (hand_load m.state m.hand) near free)
    (rw (f.lands, f.no_queue, f.silent) refl)
  where
    none_read : (gone read : Bool) (load : Load) → gone ≡ false → cond gone clear (cond read busy load) ≡ clear
        → read ≡ false
    none_read false false load near is = refl
    none_read _ _ load near is = cc

    by_parts : (gone read : Bool) (load : Load) → gone ≡ false → read ≡ false → load ≡ clear
        → cond gone clear (cond read busy load) ≡ clear
    by_parts gone read load near none is = grind (arith, near, none, is)

surplus_at : {messages : List Message} (m next : Machine) (said : Option Message) (stop : Stopped) → Run messages m
    → m.state.stopped ≡ true → ¬ (stop.reason ≡ reasons.Pause)
    → said ≡ Some (Message.tells (an_event (events.Stopped stop))) → Moves m said next
    → (due false next).act ≡ Act.Sends (Does (Resume of_composite))
surplus_at m next said stop r stopped hit is (Moves.tells {event = some_news (entry_verified entry)} free at) = cc
surplus_at m next said stop r stopped hit is (Moves.tells {hand} {rest} {event = a_stop stopping} free at) =
    by_cause stopping.cause refl (first_may (may_front (holding r) at))
  where
    near : is_gone m.state.phase ≡ false
    near = first_fails (is_gone m.state.phase) _ (whole free_once (tested free_test r) at)

    first_may : may_all m.state.phase m.state.stopped m.state.entry (Part.Tells (a_stop stopping) ∷ rest) ≡ true
        → may_stop stopping.cause m.state.stopped rest ≡ true
    first_may may = first_holds (may_stop stopping.cause m.state.stopped rest) _ may

    reason_is : stop.reason ≡ reason_told stopping.cause (after_event (a_stop stopping) m.state)
    reason_is = cc

    by_rest : (behind : List Part) → rest ≡ behind → only_resumes behind ≡ true
        → (due false (left (knowing m (after_event (a_stop stopping) m.state)) hand rest)).act
        ≡ Act.Sends (Does (Resume of_composite))
    by_rest (Part.Sends (Resume of_composite) ∷ []) same only =
        rw same (deed_due _ (record hand { parts = Part.Sends (Resume of_composite) ∷ [] }) (Resume of_composite) []
        (still_free m hand stopping (Resume of_composite) [] free near at.in_hand) near
        (record { in_hand = refl; parts = refl }))
    by_rest _ same only = cc

    by_hit : cond m.state.stopped (only_resumes rest) true ≡ true
        → (due false (left (knowing m (after_event (a_stop stopping) m.state)) hand rest)).act
        ≡ Act.Sends (Does (Resume of_composite))
    by_hit may = by_rest rest refl
        (sym (ap (λ (stopped : Bool). cond stopped (only_resumes rest) true) stopped) ∙ may)

    by_cause : (cause : StopCause) → stopping.cause ≡ cause → may_stop cause m.state.stopped rest ≡ true
        → (due false (left (knowing m (after_event (a_stop stopping) m.state)) hand rest)).act
        ≡ Act.Sends (Does (Resume of_composite))
    by_cause (Hit entries) same may = by_hit may
    by_cause (by_exception text) same may = by_hit may
    by_cause by_step same may = by_hit may
    by_cause by_client same may =
        absurd (hit (reason_is ∙ ap (λ (cause : StopCause). reason_told cause (after_event (a_stop stopping) m.state))
        same))
surplus_at m next said stop r stopped hit is (Moves.loses late near Loses.by_end) = cc
surplus_at m next said stop r stopped hit is _ = cc

pub undoes_surplus : (messages : List Message) (m : Machine) (stop : Stopped) → Run messages m
    → m.state.stopped ≡ true → ¬ (stop.reason ≡ reasons.Pause)
    → (due false m).act ≡ Act.Tells (an_event (events.Stopped stop))
    → (due false (due false m).next).act ≡ Act.Sends (Does (Resume of_composite))
undoes_surplus messages m stop r stopped hit is =
    surplus_at m (due false m).next _ stop r stopped hit refl (moved (Allows.acts (ap said is)))

pub tells_stops : (messages : List Message) (m : Machine) (stop : Stopped) → Run messages m
    → (due false m).act ≡ Act.Tells (an_event (events.Stopped stop)) → IsStop messages m stop
tells_stops messages m stop r is =
    stop_at m (due false m).next _ stop r refl (moved (Allows.acts (ap said is)))
