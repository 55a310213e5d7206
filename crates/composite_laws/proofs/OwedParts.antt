-- What is to be done with the suspension of the composite in hand, by what is left of it.
use Rattle.std.proofs.Common.{◌≡◌, ℕ, Bool, true, false, cond, not, ◌||◌, List, [], ◌∷◌, ◌++◌, Option, Some, None}
use Rattle.std.proofs.Common.{refl, sym, ap, ◌∙◌, option_map, arith}
use Rattle.std.specs.List.{AllByRecursion as All, list_any}
use Rattle.std.specs.Prelude.{find, map}
use Rattle.std.specs.Option.{option_or}
use Rattle.jdwp_events.specs.declared.event.Event.{Event as ATargetEvent}
use Rattle.jdwp_events.specs.declared.event.Event.TheVariants as happened
use Rattle.jdwp_events.specs.declared.kind.EventKind.TheVariants as kinds
use Rattle.jdwp_events.specs.declared.kind.Policy.{Policy}
use Rattle.jdwp_events.specs.declared.kind.Policy.TheVariants.{NoThread, EventThread, All as AllThreads}
use Rattle.machine_model.specs.Composites.{composite_parts, has_death}
use Rattle.machine_model.specs.Due.{asked_hand}
use Rattle.machine_model.specs.Lookups.{finished}
use Rattle.machine_model.specs.Plans.{Result}
use Rattle.machine_model.specs.Replying.{hand_replied}
use Rattle.machine_model.specs.Rows.{chosen, end_parts, failure_of, leaves, news_of, parts_by, refused_with, row_of}
use Rattle.machine_model.specs.Rows.{stepped_by, wanting, written_by}
use Rattle.machine_model.specs.State.{Hand, Machine, State, is_attached, is_empty, is_some}
use Rattle.machine_model.specs.Stops.{decided, decided_by, first_of, first_with, halt_at, has_start, hit_by, hits_in}
use Rattle.machine_model.specs.Stops.{holds_entry, is_live, is_thrown, is_start as starts_target, stop_among}
use Rattle.machine_model.specs.Stops.{strike_at, strike_told, strikes_by, strikes_in, surplus, thrown_in, told_part}
use Rattle.machine_steps.specs.Names.{Attached, Choice, Command, Composite, Decides, Failure, Finding, Fresh, Gone}
use Rattle.machine_steps.specs.Names.{Halt, HaltCause, Item, Judges, Leaves, Lookup, Part, Phase, Replied, Resume}
use Rattle.machine_steps.specs.Names.{Stepped, StopCause, Strike, TargetCommand, TellsNews, ThreadId, Thrown, Want}
use Rattle.machine_steps.specs.Names.{Written, a_composite, a_question, an_effect, breakpoint_hits, by_client}
use Rattle.machine_steps.specs.Names.{by_exception, by_step, Hit, came_to, exception_text, has_stepped, of_composite}
use Rattle.machine_steps.specs.Names.{threw, variable_write, a_stop as a_halt}
use Rattle.composite_laws.specs.Dealing.{Owed, a_decision, a_resume, a_stop, is_entry, is_start, is_stopping}
use Rattle.composite_laws.specs.Dealing.{owed_at_turn, owed_once_decided, owed_under}
use Rattle.jdwp_values.specs.declared.location.Location.{Location}
use Rattle.wish_sets.specs.Entries.{entries_at}
use Rattle.wish_sets.specs.declared.entry.EntryAt.{EntryAt}
use Rattle.machine_steps.proofs.HoldingParts.{may_all}
use Rattle.machine_steps.proofs.PartTests.{passes}
use Rattle.machine_steps.proofs.Stepping.{IsAt, Skips}
use Rattle.machine_steps.proofs.Tables.{free_once, told_alike}
use Rattle.machine_steps.proofs.Testing.{passed}

-- By what is left -----------------------------------------------------------------------------------------------------

abbrev pub is_composite : Item → Bool
is_composite (a_composite at composite) = true
is_composite _ = false

abbrev pub owed_on : Item → (Composite → Owed) → List Owed
owed_on (a_composite at composite) f = f composite ∷ []
owed_on _ f = []

-- the client's own stop is none of a composite
abbrev pub owed_cause : Item → StopCause → List Owed
owed_cause item by_client = []
owed_cause item _ = owed_on item a_stop

abbrev pub owed_part : Item → Part → List Owed
owed_part item (Part.Tells (a_halt stopping)) = owed_cause item stopping.cause
owed_part item (Part.Sends (Resume of_composite)) = owed_on item a_resume
owed_part item (Part.Looks (exception_text thread object)) = owed_on item a_stop
owed_part item (Part.Looks (breakpoint_hits strikes)) = owed_on item a_decision
owed_part item (Part.Unfolds Judges) = owed_on item a_decision
owed_part item (Part.Unfolds (Decides logged stops)) = owed_on item a_decision
owed_part item _ = []

abbrev pub owed_in : Item → List Part → List Owed
owed_in item [] = []
owed_in item (part ∷ parts) = owed_part item part ++ owed_in item parts

abbrev pub owed_by : Option Hand → List Owed
owed_by None = []
owed_by (Some hand) = owed_in hand.item hand.parts

pub front_owed : {m : Machine} {hand : Hand} {part : Part} {rest : List Part} → IsAt m hand part rest
    → owed_by m.hand ≡ owed_part hand.item part ++ owed_in hand.item rest
front_owed {hand = hand} at = ap owed_by at.in_hand ∙ ap (λ (parts : List Part). owed_in hand.item parts) at.parts

-- what is owed by a composite is owed by it alone
pub record IsOn (item : Item) (f : Composite → Owed) : Type 0 where
  pub composite : Composite
  pub are : owed_on item f ≡ f composite ∷ []

pub on_composite : (item : Item) (f : Composite → Owed) → is_composite item ≡ true → IsOn item f
on_composite (a_composite at composite) f is = record { composite = composite; are = refl }
on_composite _ f is = cc

module _ (P : Owed → Type 0) (item : Item) (decision : All P (owed_on item a_decision))
    (stop : All P (owed_on item a_stop)) (resume : All P (owed_on item a_resume)) where
  owed_cause_of : (cause : StopCause) → All P (owed_cause item cause)
  owed_cause_of by_client = tt
  owed_cause_of (Hit entries) = stop
  owed_cause_of (by_exception text) = stop
  owed_cause_of by_step = stop

  owed_part_of : (part : Part) → All P (owed_part item part)
  owed_part_of (Part.Tells (a_halt stopping)) = owed_cause_of stopping.cause
  owed_part_of (Part.Sends (Resume of_composite)) = resume
  owed_part_of (Part.Looks (exception_text thread object)) = stop
  owed_part_of (Part.Looks (breakpoint_hits strikes)) = decision
  owed_part_of (Part.Unfolds Judges) = decision
  owed_part_of (Part.Unfolds (Decides logged stops)) = decision
  owed_part_of _ = tt

  owed_more : (owed others : List Owed) → All P owed → All P others → All P (owed ++ others)
  owed_more [] others h more = more
  owed_more (one ∷ owed) others h more = (h.0, owed_more owed others h.1 more)

  pub owed_all : (parts : List Part) → All P (owed_in item parts)
  owed_all [] = tt
  owed_all (part ∷ parts) =
      owed_more (owed_part item part) (owed_in item parts) (owed_part_of part) (owed_all parts)

-- The tables ----------------------------------------------------------------------------------------------------------

abbrev pub is_clients : StopCause → Bool
is_clients by_client = true
is_clients _ = false

-- a part that does nothing with the suspension of a composite
abbrev is_aside : Part → Bool
is_aside (Part.Tells (a_halt stopping)) = is_clients stopping.cause
is_aside (Part.Sends (Resume of_composite)) = false
is_aside (Part.Looks (exception_text thread object)) = false
is_aside (Part.Looks (breakpoint_hits strikes)) = false
is_aside (Part.Unfolds Judges) = false
is_aside (Part.Unfolds (Decides logged stops)) = false
is_aside _ = true

clients_none : (item : Item) (cause : StopCause) → is_clients cause ≡ true → owed_cause item cause ≡ []
clients_none item by_client is = refl
clients_none item _ is = cc

part_none : (item : Item) (part : Part) → is_aside part ≡ true → owed_part item part ≡ []
part_none item (Part.Tells (a_halt stopping)) is = clients_none item stopping.cause is
part_none item (Part.Sends (Resume of_composite)) is = cc
part_none item (Part.Looks (exception_text thread object)) is = cc
part_none item (Part.Looks (breakpoint_hits strikes)) is = cc
part_none item (Part.Unfolds Judges) is = cc
part_none item (Part.Unfolds (Decides logged stops)) is = cc
part_none item _ is = refl

none_owed : (item : Item) (parts : List Part) → passes is_aside parts ≡ true → owed_in item parts ≡ []
none_owed item [] is = refl
none_owed item (part ∷ parts) is = by_test (is_aside part) refl is (none_owed item parts)
  where
    by_test : (first : Bool) → is_aside part ≡ first → cond first (passes is_aside parts) false ≡ true
        → (passes is_aside parts ≡ true → owed_in item parts ≡ [])
        → owed_part item part ++ owed_in item parts ≡ []
    by_test true one is others = rw (part_none item part one) (others is)
    by_test false one is others = cc

row_aside : (failure : Option Failure) (command : Command) (state : State)
    → passes is_aside (parts_by failure (row_of command state)) ≡ true
row_aside failure command state = grind arith

end_aside : (terminated : Bool) → passes is_aside (end_parts terminated) ≡ true
end_aside terminated = grind arith

-- nothing is owed by another item
pub request_owed : (state : State) (command : Command) (item : Item)
    → owed_in item (parts_by (failure_of (wanting command) state) (row_of command state)) ≡ []
request_owed state command item =
    none_owed item (parts_by (failure_of (wanting command) state) (row_of command state))
    (row_aside (failure_of (wanting command) state) command state)

pub end_owed : (terminated : Bool) (item : Item) → owed_in item (end_parts terminated) ≡ []
end_owed terminated item = none_owed item (end_parts terminated) (end_aside terminated)

-- a composite that suspends the whole target owes a decision, as long as the session is attached
pub composite_owed : (at below : ℕ) (composite : Composite)
    → owed_in (a_composite at composite)
    (composite_parts Attached (has_death composite.events) composite.policy at below) ≡ owed_at_turn composite
composite_owed at below composite = by_row (has_death composite.events) composite.policy
  where
    by_row : (dies : Bool) (policy : Policy)
        → owed_in (a_composite at composite) (composite_parts Attached dies policy at below)
        ≡ cond dies [] (owed_under policy composite)
    by_row true NoThread = refl
    by_row true EventThread = refl
    by_row true AllThreads = refl
    by_row false NoThread = refl
    by_row false EventThread = refl
    by_row false AllThreads = refl

pub found_owed : (item : Item) (lookup : Lookup) (result : Result Finding) (state : State) (rest : List Part)
    → owed_in item (finished lookup result state ++ rest) ≡ owed_in item (Part.Looks lookup ∷ rest)
found_owed item (variable_write thing name text) result state rest = grind arith
found_owed item _ result state rest = refl

pub skipped_owed : {m : Machine} {hand : Hand} {part : Part} (item : Item) (rest : List Part) → Skips m hand part
    → owed_in item rest ≡ owed_in item (part ∷ rest)
skipped_owed item rest (Skips.by_guard is) = refl
skipped_owed item rest (Skips.by_wishes is) = refl
skipped_owed item rest (Skips.no_request is) = refl

pub replied_owed : (command : TargetCommand) (replied : Replied) (hand : Option Hand)
    → owed_by (option_map (hand_replied command replied) hand) ≡ owed_by hand
replied_owed command replied None = refl
replied_owed (a_question question) replied (Some hand) = refl
replied_owed (an_effect effect) replied (Some hand) = refl

pub asked_owed : (want : Want) (hand : Option Hand) → owed_by (option_map (asked_hand want) hand) ≡ owed_by hand
asked_owed want None = refl
asked_owed want (Some hand) = refl

-- Choices -------------------------------------------------------------------------------------------------------------

-- it is decided now, and nothing more is to be logged
abbrev pub decides_now : Choice → Bool
decides_now (Decides [] stops) = true
decides_now _ = false

-- the session is attached, and nothing stands behind
pub record IsLast (state : State) (rest : List Part) : Type 0 where
  pub attached : is_attached state.phase ≡ true
  pub none : rest ≡ []

last_by : (state : State) (attached other : Bool) (rest : List Part) → is_attached state.phase ≡ attached
    → cond (cond attached (is_empty rest) false) other false ≡ true → IsLast state rest
last_by state true other [] is may = record { attached = is; none = refl }
last_by state true other (part ∷ rest) is may = cc
last_by state false other rest is may = cc

pub last_judged : (state : State) (rest : List Part)
    → may_all state.phase state.stopped state.entry (Part.Unfolds Judges ∷ rest) ≡ true → IsLast state rest
last_judged state rest may = last_by state (is_attached state.phase) _ rest refl may

pub last_decided : (state : State) (logged : List (List ℕ)) (stops : List Strike) (rest : List Part)
    → may_all state.phase state.stopped state.entry (Part.Unfolds (Decides logged stops) ∷ rest) ≡ true
    → IsLast state rest
last_decided state logged stops rest may = last_by state (is_attached state.phase) _ rest refl may

-- another choice changes nothing to what is owed
pub chosen_owed : (choice : Choice) (state : State) (hand : Hand) (rest : List Part) → decides_now choice ≡ false
    → may_all state.phase state.stopped state.entry (Part.Unfolds choice ∷ rest) ≡ true
    → owed_in hand.item (chosen choice state hand ++ rest) ≡ owed_in hand.item (Part.Unfolds choice ∷ rest)
chosen_owed (TellsNews below) state hand rest is may =
    told_alike (owed_in hand.item) (λ news parts. refl) state.phase (news_of below state hand.item) rest
chosen_owed Judges state hand rest is may = rw (last_judged state rest may).attached refl
chosen_owed (Decides [] stops) state hand rest is may = cc
chosen_owed (Decides (text ∷ texts) stops) state hand rest is may =
    rw (last_decided state (text ∷ texts) stops rest may).attached refl
chosen_owed Stepped state hand rest is may = by_code (refused_with hand.effect)
  where
    by_code : (code : Option ℕ) → owed_in hand.item (stepped_by code ++ rest) ≡ owed_in hand.item rest
    by_code None = refl
    by_code (Some code) = refl
chosen_owed (Written seen) state hand rest is may = by_code (refused_with hand.effect)
  where
    by_code : (code : Option ℕ) → owed_in hand.item (written_by seen code ++ rest) ≡ owed_in hand.item rest
    by_code None = refl
    by_code (Some code) = refl
chosen_owed (Leaves exits) state hand rest is may = by_phase state.phase exits
  where
    by_phase : (phase : Phase) (exits : Bool) → owed_in hand.item (leaves phase exits ++ rest) ≡ owed_in hand.item rest
    by_phase Fresh exits = refl
    by_phase Attached true = refl
    by_phase Attached false = refl
    by_phase Gone exits = refl

-- The decision --------------------------------------------------------------------------------------------------------

some_strike : (stops : List Strike) → is_some (strike_told stops) ≡ not (is_empty stops)
some_strike [] = refl
some_strike (strike ∷ stops) = either (find (λ (one : Strike). one.entry.line) (strike ∷ stops))
  where
    either : (found : Option Strike) → is_some (option_or found (Some strike)) ≡ true
    either None = refl
    either (Some one) = refl

some_halt : (hits : List Halt) → is_some (first_with is_thrown hits (first_of hits)) ≡ not (is_empty hits)
some_halt [] = refl
some_halt (hit ∷ hits) = either (find (λ (one : Halt). is_thrown one.cause) (hit ∷ hits))
  where
    either : (found : Option Halt) → is_some (option_or found (Some hit)) ≡ true
    either None = refl
    either (Some one) = refl

some_stop : (stops : List Strike) (hits : List Halt)
    → is_some (stop_among stops hits) ≡ (not (is_empty stops) || not (is_empty hits))
some_stop stops hits = either (strike_told stops) (some_strike stops)
  where
    either : (found : Option Strike) → is_some found ≡ not (is_empty stops)
        → is_some (option_or (option_map halt_at found) (first_with is_thrown hits (first_of hits)))
        ≡ (not (is_empty stops) || not (is_empty hits))
    either None is = rw (sym is) (some_halt hits)
    either (Some strike) is = rw (sym is) refl

-- something halted a thread where the test says so
some_event : (m : Machine) (events : List ATargetEvent)
    → (not (is_empty (strikes_in m.state.wishes events)) || not (is_empty (hits_in m.state.wishes events)))
    ≡ list_any (is_stopping m) events
some_event m [] = refl
some_event m (event ∷ events) = by_event event (some_event m events)
  where
    strikes : List Strike
    strikes = strikes_in m.state.wishes events

    hits : List Halt
    hits = hits_in m.state.wishes events

    Others : Type 0
    Others = (not (is_empty strikes) || not (is_empty hits)) ≡ list_any (is_stopping m) events

    by_place : (live : Bool) (entries : List EntryAt) (thread : ThreadId) (at : Location) → Others
        → (not (is_empty (cond live (map (strike_at thread at) entries) [] ++ strikes)) || not (is_empty hits))
        ≡ (cond live (not (is_empty entries)) false || list_any (is_stopping m) events)
    by_place true [] thread at others = others
    by_place true (entry ∷ entries) thread at others = refl
    by_place false entries thread at others = others

    either : (some : Bool) → (some || true) ≡ true
    either some = grind arith

    by_live : (live : Bool) (halt : Halt) → Others
        → (not (is_empty strikes) || not (is_empty (cond live (halt ∷ []) [] ++ hits)))
        ≡ (live || list_any (is_stopping m) events)
    by_live true halt others = either (not (is_empty strikes))
    by_live false halt others = others

    by_event : (event : ATargetEvent) → Others
        → (not (is_empty (strikes_by m.state.wishes event ++ strikes))
        || not (is_empty (hit_by m.state.wishes event ++ hits)))
        ≡ (is_stopping m event || list_any (is_stopping m) events)
    by_event (happened.Breakpoint request thread at) others =
        by_place (is_live m.state.wishes kinds.Breakpoint request) (entries_at m.state.wishes.wanted at) thread at
        others
    by_event (happened.Exception request thread at exception catch) others =
        by_live (is_live m.state.wishes kinds.Exception request) _ others
    by_event (happened.SingleStep request thread at) others =
        by_live (is_live m.state.wishes kinds.SingleStep request) _ others
    by_event _ others = others

start_is : (event : ATargetEvent) → starts_target event ≡ is_start event
start_is event = grind arith

starts_are : (events : List ATargetEvent) → has_start events ≡ list_any is_start events
starts_are [] = refl
starts_are (event ∷ events) = rw (start_is event, starts_are events) refl

entry_is : (m : Machine) (composite : Composite) → holds_entry m.state composite.events ≡ is_entry m composite
entry_is m composite = by_flags m.state.configured m.state.entry (has_start composite.events)
    (list_any is_start composite.events) (starts_are composite.events)
  where
    by_flags : (configured entry has some : Bool) → has ≡ some
        → cond configured false (cond entry false has) ≡ cond some (not (configured || entry)) false
    by_flags configured entry has some is = grind (arith, is)

-- what is decided is owed from there on
pub decided_owed : (m : Machine) (place : ℕ) (composite : Composite) (stops : List Strike)
    → is_attached m.state.phase ≡ true → stops ≡ strikes_in m.state.wishes composite.events
    → owed_in (a_composite place composite) (decided m.state [] stops (a_composite place composite) ++ [])
    ≡ owed_once_decided composite (list_any (is_stopping m) composite.events) m.state.stopped (is_entry m composite)
decided_owed m place composite stops attached are = rw attached (by_stop m.state.stopped
    (holds_entry m.state composite.events) (thrown_in m.state.wishes composite.events) (stop_among stops hits)
    ∙ ap (λ (stopping : Bool).
    owed_once_decided composite stopping m.state.stopped (holds_entry m.state composite.events))
    (ap (λ (stops : List Strike). is_some (stop_among stops hits)) are
    ∙ some_stop (strikes_in m.state.wishes composite.events) hits ∙ some_event m composite.events)
    ∙ ap (λ (entry : Bool).
    owed_once_decided composite (list_any (is_stopping m) composite.events) m.state.stopped entry)
    (entry_is m composite))
  where
    hits : List Halt
    hits = hits_in m.state.wishes composite.events

    item : Item
    item = a_composite place composite

    by_halt : (stopped holds : Bool) (cause : HaltCause) (thread : ThreadId)
        → owed_in item (told_part stops cause thread ∷ surplus stopped ++ [])
        ≡ owed_once_decided composite true stopped holds
    by_halt true holds (came_to at) thread = refl
    by_halt true holds (threw object) thread = refl
    by_halt true holds has_stepped thread = refl
    by_halt false holds (came_to at) thread = refl
    by_halt false holds (threw object) thread = refl
    by_halt false holds has_stepped thread = refl

    by_stop : (stopped holds : Bool) (thrown : List Thrown) (stop : Option Halt)
        → owed_in item (decided_by stopped holds thrown stops stop ++ [])
        ≡ owed_once_decided composite (is_some stop) stopped holds
    by_stop stopped true thrown None = refl
    by_stop stopped false thrown None = refl
    by_stop stopped holds thrown (Some halt) = by_halt stopped holds halt.cause halt.thread

-- In a target that is gone --------------------------------------------------------------------------------------------

free_owed : (item : Item) (parts : List Part) → free_once true parts ≡ true → owed_in item parts ≡ []
free_owed item [] is = refl
free_owed item (part ∷ parts) is = grind (arith, is, free_owed item parts)

pub gone_owed : (gone : Bool) (hand : Option Hand) → gone ≡ true → passed free_once gone hand ≡ true → owed_by hand ≡ []
gone_owed true None is f = refl
gone_owed true (Some hand) is f = free_owed hand.item hand.parts f
gone_owed false hand is f = cc
