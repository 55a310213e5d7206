-- The ids in composites that wait for their turn were read, and so those of the classes that are learnt then.
use Rattle.std.proofs.Common.{◌≡◌, Bool, true, false, cond, List, [], ◌∷◌, ◌++◌, Option, Some, None, refl, subst, sym}
use Rattle.std.proofs.Common.{option_map, arith}
use Rattle.std.specs.List.{AllByRecursion as All, flat_map}
use Rattle.class_tables.specs.Facts.{Known}
use Rattle.jdwp_commands.specs.declared.listed.LoadedClass.{LoadedClass}
use Rattle.jdwp_events.specs.declared.event.Event.{Event as ATargetEvent}
use Rattle.jdwp_events.specs.declared.event.Event.TheVariants as happened
use Rattle.jdwp_events.specs.declared.kind.Policy.{Policy}
use Rattle.jdwp_events.specs.declared.kind.Policy.TheVariants.{EventThread}
use Rattle.machine_model.specs.Composites.{has_death, learnt_by, learnt_in, prepared_by, prepared_in, prepared_under}
use Rattle.machine_model.specs.Due.{Picked, after_deed, asked_hand, passed_by, pick}
use Rattle.machine_model.specs.Ids.{Id, class, ids_of_event}
use Rattle.machine_model.specs.Runs.{Message}
use Rattle.machine_model.specs.Outcomes.{result_of}
use Rattle.machine_model.specs.Replying.{hand_replied, replied_to}
use Rattle.machine_model.specs.Rows.{noted}
use Rattle.machine_model.specs.State.{Hand, Machine, State, is_gone, is_raw}
use Rattle.machine_model.specs.Telling.{after_event, numbered_by}
use Rattle.machine_model.proofs.IdRows.{all_back, all_front, all_joined}
use Rattle.machine_model.proofs.PlanIds.{AreKnown, OfThread, OfThrown}
use Rattle.machine_steps.specs.Names.{Attached, Item, Phase, a_composite, a_raw, a_request, Part, Replied}
use Rattle.machine_steps.specs.Names.{TargetCommand, ThreadId, Want, a_question, an_effect, Deed, Event, Note, Outcome}
use Rattle.machine_steps.specs.Names.{Resume, Terminated, Throws, of_stop}
use Rattle.machine_steps.proofs.RequestSteps.{near_before}
use Rattle.machine_steps.proofs.Standing.{IsKept, at_front, ids_said}
use Rattle.machine_steps.proofs.StandingReplies.{loaded_known}
use Rattle.machine_steps.proofs.Stepping.{IsAt, Moves}
use Rattle.machine_steps.proofs.ThingIds.{AreThings, things_on}
use Rattle.machine_steps.proofs.HitIds.{ItemStands}
use Rattle.machine_steps.proofs.ThreadIds.{NoteTells, TellStands, begun_tells, chosen_tells, event_threads, found_tells}
use Rattle.machine_steps.proofs.ThreadIds.{noted_threads, replied_threads, responded_threads, taken_threads}

-- the ids of the item in hand pass, and of the threads that it tells
abbrev pub HandStands : (Id → Type 0) → Option Hand → Type 0
HandStands P None = Unit {0}
HandStands P (Some hand) = ItemStands P hand.item × All (TellStands P) hand.parts

-- while the target isn't gone, the ids in what waits and what is in hand pass, and those of threads that were told, of
-- what was told by numbers in the stop in hand, and of what was thrown in it
pub record AreItems (P : Id → Type 0) (m : Machine) : Type 0 where
  pub waiting : All (ItemStands P) m.waiting
  pub held : HandStands P m.hand
  pub threads : All (OfThread P) m.state.threads
  pub things : AreThings P m.state.numbers
  pub thrown : All (OfThrown P) m.state.thrown

abbrev pub Waits : (Id → Type 0) → Machine → Type 0
Waits P m = is_gone m.state.phase ≡ false → AreItems P m

-- What is learnt ------------------------------------------------------------------------------------------------------

prepared_stand : (P : Id → Type 0) (events : List ATargetEvent) → All P (flat_map ids_of_event events)
    → All (λ (c : LoadedClass). P (class c.class.0)) (flat_map prepared_by events)
prepared_stand P [] h = tt
prepared_stand P (event ∷ events) h = all_joined (λ (c : LoadedClass). P (class c.class.0)) (prepared_by event)
    (flat_map prepared_by events) (by_event event (all_front P (ids_of_event event) (flat_map ids_of_event events) h))
    (prepared_stand P events (all_back P (ids_of_event event) (flat_map ids_of_event events) h))
  where
    by_event : (event : ATargetEvent) → All P (ids_of_event event)
        → All (λ (c : LoadedClass). P (class c.class.0)) (prepared_by event)
    by_event (happened.ClassPrepare request thread tag c signature status) h = (h.1.0, tt)
    by_event _ h = tt

under_stand : (P : Id → Type 0) (policy : Policy) (classes : List LoadedClass)
    → All (λ (c : LoadedClass). P (class c.class.0)) classes
    → All (λ (c : LoadedClass). P (class c.class.0)) (prepared_under policy classes)
under_stand P EventThread classes h = tt
under_stand P _ classes h = h

-- the facts of classes, once an item is taken
pub taken_stand : (P : Id → Type 0) (phase : Phase) (item : Item) (known : Known) → ItemStands P item
    → AreKnown P known → AreKnown P (learnt_by phase item known)
taken_stand P phase (a_composite at composite) known h k = by_phase phase
  where
    by_death : (prepared : List LoadedClass) (dies : Bool)
        → All (λ (c : LoadedClass). P (class c.class.0)) prepared
        → All (λ (c : LoadedClass). P (class c.class.0)) (cond dies [] prepared)
    by_death prepared true some = tt
    by_death prepared false some = some

    by_phase : (phase : Phase) → AreKnown P (learnt_in phase composite known)
    by_phase Attached = loaded_known P (prepared_in composite) known
        (by_death _ (has_death composite.events)
        (under_stand P composite.policy (flat_map prepared_by composite.events)
        (prepared_stand P composite.events h))) k
    by_phase _ = k
taken_stand P phase _ known h k = k

-- What waits ----------------------------------------------------------------------------------------------------------

raw_stands : (P : Id → Type 0) (item : Item) → is_raw item ≡ true → ItemStands P item
raw_stands P (a_composite at composite) is = cc
raw_stands P _ is = tt

-- what is picked stood among what waited
pub picked_stand : (P : Id → Type 0) (gone : Bool) (items : List Item) (picked : Picked)
    → pick gone items ≡ Some picked → All (ItemStands P) items
    → ItemStands P picked.item × All (ItemStands P) picked.rest
picked_stand P gone [] picked is h = cc
picked_stand P gone (item ∷ items) picked is h =
    by_raw (cond gone false (is_raw item)) (pick gone items) (λ other are. picked_stand P gone items other are h.1) is
  where
    by_raw : (skips : Bool) (found : Option Picked)
        → ((other : Picked) → found ≡ Some other → ItemStands P other.item × All (ItemStands P) other.rest)
        → cond skips (passed_by item found) (Some (record { item = item; rest = items })) ≡ Some picked
        → ItemStands P picked.item × All (ItemStands P) picked.rest
    by_raw true None rest now = cc
    by_raw true (Some other) rest now =
        let one : record { item = other.item; rest = item ∷ other.rest } ≡ picked = cc in
        let (first, others) = rest other refl in
        subst (λ (picked : Picked). ItemStands P picked.item × All (ItemStands P) picked.rest) one
        (first, (h.0, others))
    by_raw false found rest now =
        let one : record { item = item; rest = items } ≡ picked = cc in
        subst (λ (picked : Picked). ItemStands P picked.item × All (ItemStands P) picked.rest) one h

read_stand : (P : Id → Type 0) (before after : List Item) (raw item : Item) → ItemStands P item
    → All (ItemStands P) (before ++ raw ∷ after) → All (ItemStands P) (before ++ item ∷ after)
read_stand P [] after raw item is h = (is, h.1)
read_stand P (first ∷ before) after raw item is h = (h.0, read_stand P before after raw item is h.1)

waits_on : (P : Id → Type 0) (m next : Machine) (said : Option Message) → All (ItemStands P) m.waiting
    → is_gone next.state.phase ≡ false → Moves m said next → All P (ids_said said) → All (ItemStands P) next.waiting
waits_on P m next said h here (Moves.begins picked free none is) brought =
    (picked_stand P (is_gone m.state.phase) m.waiting picked is h).1
waits_on P m next said h here (Moves.hears {request} read is) brought =
    all_joined (ItemStands P) m.waiting (a_request request ∷ []) h (tt, tt)
waits_on P m next said h here (Moves.comes {at} {composite} read sized taken) brought =
    all_joined (ItemStands P) m.waiting (a_composite at composite ∷ []) h (brought, tt)
waits_on P m next said h here (Moves.keeps {at} {body} is) brought =
    all_joined (ItemStands P) m.waiting (a_raw at body ∷ []) h (tt, tt)
waits_on P m next said h here (Moves.reads {at} {body} {composite} before after read is none taken) brought =
    read_stand P before after (a_raw at body) (a_composite at composite) brought
    (subst (λ (items : List Item). All (ItemStands P) items) is h)
waits_on P m next said h here (Moves.loses late away why) brought = cc
waits_on P m next said h here _ brought = h

-- What is in hand ----------------------------------------------------------------------------------------------------

pub in_front : {P : Id → Type 0} {m : Machine} {hand : Hand} {part : Part} {rest : List Part} → AreItems P m
    → IsAt m hand part rest → ItemStands P hand.item × TellStands P part × All (TellStands P) rest
in_front {P} {m} {hand} h at =
    let held = subst (λ (held : Option Hand). HandStands P held) at.in_hand h.held in
    let tells = subst (λ (parts : List Part). All (TellStands P) parts) at.parts held.1 in
    (held.0, tells.0, tells.1)

replied_held : (P : Id → Type 0) (command : TargetCommand) (replied : Replied) (hand : Option Hand)
    → HandStands P hand → HandStands P (option_map (hand_replied command replied) hand)
replied_held P command replied None h = tt
replied_held P (a_question question) replied (Some hand) h = h
replied_held P (an_effect effect) replied (Some hand) h = h

asked_held : (P : Id → Type 0) (want : Want) (hand : Option Hand) → HandStands P hand
    → HandStands P (option_map (asked_hand want) hand)
asked_held P want None h = tt
asked_held P want (Some hand) h = h

held_on : (P : Id → Type 0) (messages : List Message) (m next : Machine) (said : Option Message) → AreItems P m
    → IsKept P messages m → is_gone next.state.phase ≡ false → Moves m said next → HandStands P next.hand
    × All (OfThread P) next.state.threads
held_on P messages m next said h k here (Moves.begins picked free none is) = (
  (
    (picked_stand P (is_gone m.state.phase) m.waiting picked is h.waiting).0,
    begun_tells P m.state picked.item h.threads,
  ),
  taken_threads P picked.item m.state h.threads,
)
held_on P messages m next said h k here (Moves.drops free is none) = (tt, h.threads)
held_on P messages m next said h k here (Moves.responds {outcome = outcome} free at is) =
    let f = in_front h at in
    let stands = ((at_front k at).near (near_before m next said (Moves.responds free at is) here)).parts.0 in
    ((f.0, f.2), responded_threads P outcome m.state stands h.threads)
held_on P messages m next said h k here (Moves.finds {hand} {rest} {lookup} found free at is done) =
    let f = in_front h at in
    ((f.0, found_tells P lookup (result_of found) m.state rest f.1 f.2), h.threads)
held_on P messages m next said h k here (Moves.passes_over free at why) =
    let f = in_front h at in ((f.0, f.2), h.threads)
held_on P messages m next said h k here (Moves.tells {event = event} free at) =
    let f = in_front h at in ((f.0, f.2), event_threads P event m.state f.1 h.threads)
held_on P messages m next said h k here (Moves.sends free at is) =
    let f = in_front h at in ((f.0, f.2), h.threads)
held_on P messages m next said h k here (Moves.updates free at is near) =
    let f = in_front h at in ((f.0, (tt, f.2)), h.threads)
held_on P messages m next said h k here (Moves.notes {note = note} free at) =
    let f = in_front h at in
    ((f.0, f.2), subst (λ (threads : List ThreadId). All (OfThread P) threads) (sym (noted_threads note m.state)) h.threads)
held_on P messages m next said h k here (Moves.unfolds {hand} {choice} {rest} free at) =
    let f = in_front h at in
    let stands = ((at_front k at).near (near_before m next said (Moves.unfolds free at) here)).parts.0 in
    ((f.0, chosen_tells P choice m.state hand rest f.0 stands f.2), h.threads)
held_on P messages m next said h k here (Moves.queues free is) =
    (subst (λ (held : Option Hand). HandStands P held) is h.held, h.threads)
held_on P messages m next said h k here (Moves.asks {want = want} free room is are) =
    (asked_held P want m.hand h.held, h.threads)
held_on P messages m next said h k here (Moves.answers {question} {replied} is waits reply last) = (
  replied_held P (a_question question) replied m.hand h.held,
  subst (λ (threads : List ThreadId). All (OfThread P) threads)
      (sym (replied_threads (a_question question) replied m.state)) h.threads,
)
held_on P messages m next said h k here (Moves.replies {effect} {replied} is flying reply last) =
    (replied_held P (an_effect effect) replied m.hand h.held, h.threads)
held_on P messages m next said h k here (Moves.loses late away why) = cc
held_on P messages m next said h k here _ = (h.held, h.threads)

-- What was thrown ----------------------------------------------------------------------------------------------------

event_thrown : (P : Id → Type 0) (event : Event) (state : State) → All (OfThrown P) state.thrown
    → All (OfThrown P) (after_event event state).thrown
event_thrown P Terminated state h = tt
event_thrown P _ state h = h

deed_thrown : (P : Id → Type 0) (deed : Deed) (state : State) → All (OfThrown P) state.thrown
    → All (OfThrown P) (after_deed deed state).thrown
deed_thrown P (Resume of_stop) state h = tt
deed_thrown P _ state h = h

note_thrown : (P : Id → Type 0) (note : Note) (state : State) → NoteTells P note → All (OfThrown P) state.thrown
    → All (OfThrown P) (noted note state).thrown
note_thrown P (Throws thrown) state k h = all_joined (OfThrown P) state.thrown thrown h k
note_thrown P _ state k h = h

responded_thrown : (outcome : Outcome) (state : State) → (numbered_by outcome state).thrown ≡ state.thrown
responded_thrown outcome state = grind arith

replied_thrown : (command : TargetCommand) (replied : Replied) (state : State)
    → (replied_to command replied state).thrown ≡ state.thrown
replied_thrown command replied state = grind arith

thrown_on : (P : Id → Type 0) (m next : Machine) (said : Option Message) → AreItems P m
    → is_gone next.state.phase ≡ false → Moves m said next → All (OfThrown P) next.state.thrown
thrown_on P m next said h here (Moves.responds {outcome = outcome} free at is) = rw (responded_thrown outcome m.state) h.thrown
thrown_on P m next said h here (Moves.tells {event = event} free at) = event_thrown P event m.state h.thrown
thrown_on P m next said h here (Moves.sends {deed = deed} free at is) = deed_thrown P deed m.state h.thrown
thrown_on P m next said h here (Moves.notes {note = note} free at) =
    note_thrown P note m.state (in_front h at).1 h.thrown
thrown_on P m next said h here (Moves.answers {question} {replied} is waits reply last) =
    rw (replied_thrown (a_question question) replied m.state) h.thrown
thrown_on P m next said h here (Moves.loses late away why) = cc
thrown_on P m next said h here _ = h.thrown

pub waiting_on : (P : Id → Type 0) (messages : List Message) (m next : Machine) (said : Option Message) → Waits P m
    → IsKept P messages m → Moves m said next → (is_gone next.state.phase ≡ false → All P (ids_said said))
    → Waits P next
waiting_on P messages m next said h k moved brought here =
    let items = h (near_before m next said moved here) in
    let held = held_on P messages m next said items k here moved in record {
      waiting = waits_on P m next said items.waiting here moved (brought here);
      held = held.0;
      threads = held.1;
      things = things_on P messages m next said items.things k here moved;
      thrown = thrown_on P m next said items here moved;
    }
