-- Where an `exceptionInfo` succeeds, the thread that it names threw something in the stop in hand.
use Rattle.std.proofs.Common.{◌≡◌, ◌==◌, ◌||◌, ℕ, Bool, true, false, cond, not, List, [], ◌∷◌, ◌++◌, Option, Some, None}
use Rattle.std.proofs.Common.{refl, sym, ap, subst, ◌∙◌, append-nil, append_assoc, option_map, arith}
use Rattle.std.specs.List.{AllByRecursion as All}
use Rattle.std.specs.Prelude.{option_and_then}
use Rattle.std.proofs.lemmas.Bool.{eqb-true}
use Rattle.dap_messages.specs.declared.requests.ThreadArguments.{ThreadArguments}
use Rattle.dap_messages.specs.declared.told.Outcome.TheVariants as outcomes
use Rattle.dap_messages.specs.declared.told.Response.{Response}
use Rattle.dap_messages.specs.declared.told.Shape.{Shape}
use Rattle.jdwp_events.specs.declared.event.Event.{Event as ATargetEvent}
use Rattle.jdwp_events.specs.declared.event.Event.TheVariants as happened
use Rattle.jdwp_events.specs.declared.kind.EventKind.TheVariants as kinds
use Rattle.jdwp_values.specs.declared.id.ObjectId.{ObjectId}
use Rattle.machine_model.specs.Children.{object_named}
use Rattle.machine_model.specs.Due.{after_deed, asked_hand, due, sent}
use Rattle.machine_model.specs.Knowing.{HasNumber}
use Rattle.machine_model.specs.Lookups.{finished}
use Rattle.machine_model.specs.Outcomes.{result_of}
use Rattle.machine_model.specs.Pending.{has_such}
use Rattle.machine_model.specs.Plans.{Result}
use Rattle.machine_model.specs.ReferenceNumbers.{ends_stop}
use Rattle.machine_model.specs.Replying.{given_up, hand_replied, replied_machine, replied_to}
use Rattle.machine_model.specs.Requests.{Wishes}
use Rattle.machine_model.specs.Rows.{chosen, exception_parts, failure_of, gone_parts, gone_row, gone_tail}
use Rattle.machine_model.specs.Rows.{has_response, if_stopped, news_of, noted, parts_by, parts_of, refused_with}
use Rattle.machine_model.specs.Rows.{request_parts, row_of, stepped_by, thread_with, thrown_first, wanting}
use Rattle.machine_model.specs.Runs.{Allows, Message, Run, said}
use Rattle.machine_model.specs.State.{Hand, Machine, State, is_attached, is_gone, knowing, left}
use Rattle.machine_model.specs.Stopping.{HasHalted, IsHalt}
use Rattle.machine_model.specs.Stops.{decided_by, events_in, hits_in, holds_entry, is_live, stop_among, surplus}
use Rattle.machine_model.specs.Stops.{thrown_by, thrown_in, told_part, logged_first}
use Rattle.machine_model.specs.Telling.{after_event, event_told, numbered_by, outcome_told}
use Rattle.machine_model.proofs.Bools.{first_holds, never, second_holds}
use Rattle.machine_model.proofs.IdRows.{all_joined, all_weak}
use Rattle.machine_steps.specs.Names.{Act, Choice, Command, Decides, Deed, Does, Event, ExceptionInfo, Failure}
use Rattle.machine_steps.specs.Names.{Judges, Logged, Strike}
use Rattle.machine_steps.specs.Names.{Finding, Halt, HaltCause, Item, Lookup, Note, Outcome, Part, Replied, Request}
use Rattle.machine_steps.specs.Names.{Resume, Stepped, TargetCommand, TellsNews, Terminated, ThreadId, Throws, Thrown}
use Rattle.machine_steps.specs.Names.{Initialized, Want, a_composite, a_question, a_request, a_response, a_stop}
use Rattle.machine_steps.specs.Names.{an_effect, an_event, of_stop, some_news, threw}
use Rattle.machine_laws.specs.ThrownExceptions.{HasThrown, IsOfThrown, IsThrown}
use Rattle.machine_laws.proofs.CausedChanges.{is_running, is_to_run, purpose, purpose_of}
use Rattle.machine_laws.proofs.ConfiguredEntry.{succeeds}
use Rattle.machine_laws.proofs.LeavingLaws.{first_in}
use Rattle.machine_laws.proofs.NumberLaws.{one_of_id}
use Rattle.machine_steps.proofs.PartTests.{both_pass, is_request, passes}
use Rattle.machine_laws.proofs.PausedStops.{thread_has}
use Rattle.machine_steps.proofs.ReferenceLaws.{due_request}
use Rattle.machine_steps.proofs.RequestSteps.{asked_left, parts_left, replied_left}
use Rattle.machine_steps.proofs.Stepping.{IsAt, Loses, Moves, by_runs, moved, with_said}
use Rattle.machine_laws.proofs.StopLaws.{one_before}
use Rattle.machine_laws.proofs.StopTurns.{request_quiet, says_end}
use Rattle.machine_laws.proofs.SuspendLaws.{bound_at_choice}
use Rattle.machine_steps.proofs.Tables.{of_decided, told_alike, judged_alike}
use Rattle.machine_steps.proofs.Testing.{IsTest, gone_behind, tested, whole}
use Rattle.machine_laws.proofs.ThreadLaws.{Grows, grows_on, kept}
use Rattle.machine_laws.proofs.WrittenValues.{success_of}

-- What is thrown by events --------------------------------------------------------------------------------------------

abbrev halt_of : Thrown → Halt
halt_of one = record { cause = threw one.object; thread = one.thread }

all_before : (w : Wishes) (event : ATargetEvent) (events : List ATargetEvent) (thrown : List Thrown)
    → All (λ (one : Thrown). HasHalted w events (halt_of one)) thrown
    → All (λ (one : Thrown). HasHalted w (event ∷ events) (halt_of one)) thrown
all_before w event events [] h = tt
all_before w event events (one ∷ thrown) h =
    (one_before w event events (halt_of one) h.0, all_before w event events thrown h.1)

thrown_are : (w : Wishes) (events : List ATargetEvent)
    → All (λ (one : Thrown). HasHalted w events (halt_of one)) (thrown_in w events)
thrown_are w [] = tt
thrown_are w (event ∷ events) = by_event event (all_before w event events (thrown_in w events) (thrown_are w events))
  where
    by_live : (event : ATargetEvent) (one : Thrown) (live : Bool) → (live ≡ true → IsHalt w event (halt_of one))
        → All (λ (one : Thrown). HasHalted w (event ∷ events) (halt_of one)) (thrown_in w events)
        → All (λ (one : Thrown). HasHalted w (event ∷ events) (halt_of one))
        (cond live (one ∷ []) [] ++ thrown_in w events)
    by_live event one true is h =
        (record { before = []; event = event; after = events; events_are = refl; is_halt = is refl }, h)
    by_live event one false is h = h

    by_event : (event : ATargetEvent)
        → All (λ (one : Thrown). HasHalted w (event ∷ events) (halt_of one)) (thrown_in w events)
        → All (λ (one : Thrown). HasHalted w (event ∷ events) (halt_of one)) (thrown_by w event ++ thrown_in w events)
    by_event (happened.Exception request thread at exception catch) h =
        by_live (happened.Exception request thread at exception catch)
        (record {
          thread = thread;
          object = record { 0 = object_named exception };
          caught = not (catch.class.0 == 0);
        })
        (is_live w kinds.Exception request) (λ is. IsHalt.at_exception is) h
    by_event _ h = h

-- More messages -------------------------------------------------------------------------------------------------------

abbrev AllThrown : List Message → List Thrown → Type 0
AllThrown messages thrown = All (λ (one : Thrown). HasThrown messages one.thread one.object) thrown

such_more : (test : Message → Bool) (messages : List Message) (message : Message) → has_such test messages ≡ false
    → test message ≡ false → has_such test (messages ++ message ∷ []) ≡ false
such_more test [] message none is = rw is refl
such_more test (first ∷ messages) message none is = by_first (test first) none
    (λ others. such_more test messages message others is)
  where
    by_first : (one : Bool) → (one || has_such test messages) ≡ false
        → (has_such test messages ≡ false → has_such test (messages ++ message ∷ []) ≡ false)
        → (one || has_such test (messages ++ message ∷ [])) ≡ false
    by_first true none k = cc
    by_first false none k = k none

one_still : (messages : List Message) (message : Message) {thread : ThreadId} {object : ObjectId}
    → ends_stop message ≡ false → HasThrown messages thread object → HasThrown (messages ++ message ∷ []) thread object
one_still messages message quiet h = let was = h.was_halted in record {
  place = h.place;
  composite = h.composite;
  was_halted = record {
    earlier = was.earlier;
    later = was.later ++ message ∷ [];
    there = was.there;
    hand = was.hand;
    messages_are = ap (λ (all : List Message). all ++ message ∷ []) was.messages_are
        ∙ append_assoc was.earlier was.later (message ∷ []);
    run = was.run;
    is_held = was.is_held;
    is_item = was.is_item;
    bound = was.bound;
    has_halted = was.has_halted;
  };
  in_stop = such_more ends_stop was.later message h.in_stop quiet;
}

said_still : (messages : List Message) (said : Option Message) {thread : ThreadId} {object : ObjectId}
    → says_end said ≡ false → HasThrown messages thread object → HasThrown (with_said messages said) thread object
said_still messages None quiet h = h
said_still messages (Some message) quiet h = one_still messages message quiet h

all_still : (messages : List Message) (said : Option Message) (thrown : List Thrown) → says_end said ≡ false
    → AllThrown messages thrown → AllThrown (with_said messages said) thrown
all_still messages said [] quiet h = tt
all_still messages said (one ∷ thrown) quiet h =
    (said_still messages said quiet h.0, all_still messages said thrown quiet h.1)

-- What the part in front writes down ----------------------------------------------------------------------------------

abbrev noted_thrown : Note → List Thrown
noted_thrown (Throws thrown) = thrown
noted_thrown _ = []

abbrev part_thrown : Part → List Thrown
part_thrown (Part.Notes note) = noted_thrown note
part_thrown _ = []

abbrev front_thrown : List Part → List Thrown
front_thrown [] = []
front_thrown (part ∷ rest) = part_thrown part

abbrev is_calm_note : Note → Bool
is_calm_note (Throws thrown) = false
is_calm_note _ = true

abbrev is_calm : Part → Bool
is_calm (Part.Notes note) = is_calm_note note
is_calm _ = true

-- behind the part in front nothing that was thrown is written down
abbrev calm_behind : Bool → List Part → Bool
calm_behind gone [] = true
calm_behind gone (part ∷ rest) = passes is_calm rest

calm_front : (parts : List Part) → passes is_calm parts ≡ true → front_thrown parts ≡ []
calm_front [] is = refl
calm_front (Part.Notes note ∷ rest) is = by_note note (first_holds (is_calm_note note) (passes is_calm rest) is)
  where
    by_note : (note : Note) → is_calm_note note ≡ true → noted_thrown note ≡ []
    by_note (Throws thrown) is = cc
    by_note _ is = refl
calm_front (part ∷ rest) is = refl

calm_tail : (gone : Bool) (parts : List Part) → passes is_calm parts ≡ true → calm_behind gone parts ≡ true
calm_tail gone [] is = refl
calm_tail gone (part ∷ rest) is = second_holds (is_calm part) (passes is_calm rest) is

row_calm : (failure : Option Failure) (command : Command) (state : State)
    → passes is_calm (parts_by failure (row_of command state)) ≡ true
row_calm failure command state = grind arith

other_calm : (state : State) (item : Item) → is_request item ≡ false → passes is_calm (parts_of state item) ≡ true
other_calm state item is = grind (arith, is)

begun_calm : (state : State) (item : Item) → passes is_calm (parts_of state item) ≡ true
begun_calm state (a_request request) = row_calm (failure_of (wanting request.command) state) request.command state
begun_calm state item = other_calm state item refl

found_calm : (lookup : Lookup) (result : Result Finding) (state : State)
    → passes is_calm (finished lookup result state) ≡ true
found_calm lookup result state = grind arith

gone_calm : (responds : Bool) (item : Item) → passes is_calm (gone_parts responds item) ≡ true
gone_calm responds item = grind arith

abbrev is_decision : Choice → Bool
is_decision (Decides logged stops) = true
is_decision _ = false

other_choice : (choice : Choice) (state : State) (hand : Hand) (rest : List Part) → is_decision choice ≡ false
    → passes is_calm rest ≡ true → passes is_calm (chosen choice state hand ++ rest) ≡ true
other_choice (TellsNews below) state hand rest other is =
    told_alike (passes is_calm) (λ news parts. refl) state.phase (news_of below state hand.item) rest ∙ is
other_choice Judges state hand rest other is =
    judged_alike (passes is_calm) (λ strikes parts. refl) state hand.item rest ∙ is
other_choice (Decides logged stops) state hand rest other is = cc
other_choice Stepped state hand rest other is = by_code (refused_with hand.effect)
  where
    by_code : (code : Option ℕ) → passes is_calm (stepped_by code ++ rest) ≡ true
    by_code code = grind (arith, is)
other_choice choice state hand rest other is = grind (arith, is)

chosen_calm : (gone : Bool) (choice : Choice) (state : State) (hand : Hand) (rest : List Part)
    → passes is_calm rest ≡ true → calm_behind gone (chosen choice state hand ++ rest) ≡ true
chosen_calm gone (Decides logged stops) state hand rest is =
    of_decided (λ (parts : List Part). calm_behind gone (parts ++ rest) ≡ true) (calm_tail gone rest is) is is
    (λ again thrown stops halt. by_halt again stops halt.cause halt.thread) (λ text texts stops. is) state logged stops
    hand.item
  where
    by_halt : (again : Bool) (stops : List Strike) (cause : HaltCause) (thread : ThreadId)
        → passes is_calm (told_part stops cause thread ∷ surplus again ++ rest) ≡ true
    by_halt again stops cause thread = grind (arith, is)
chosen_calm gone choice state hand rest is =
    calm_tail gone (chosen choice state hand ++ rest) (other_choice choice state hand rest refl is)

calm_test : IsTest calm_behind
calm_test = record {
  none = λ gone. refl;
  tail = λ gone part rest is. calm_tail (gone_behind part gone) rest is;
  begins = λ state item. calm_tail (is_gone state.phase) (parts_of state item) (begun_calm state item);
  unfolds = λ choice state hand rest is. chosen_calm (is_gone state.phase) choice state hand rest is;
  finds = λ lookup result state rest is. calm_tail (is_gone state.phase) (finished lookup result state ++ rest)
      (both_pass is_calm (finished lookup result state) rest (found_calm lookup result state) is);
  gives_up = λ responds item. calm_tail true (gone_parts responds item) (gone_calm responds item);
}

-- What was thrown, in runs --------------------------------------------------------------------------------------------

-- what was thrown in the stop, and what the part in front writes down
record AreThrown (messages : List Message) (thrown : List Thrown) (parts : List Part) : Type 0 where
  known : AllThrown messages thrown
  front : AllThrown messages (front_thrown parts)

none_thrown : (messages : List Message) (thrown : List Thrown) → thrown ≡ [] → AllThrown messages thrown
none_thrown messages thrown none = subst (λ (thrown : List Thrown). AllThrown messages thrown) (sym none) tt

calm_rest : {messages : List Message} {m : Machine} {hand : Hand} {part : Part} {rest : List Part} → Run messages m
    → IsAt m hand part rest → front_thrown rest ≡ []
calm_rest {rest = rest} r at = calm_front rest (whole calm_behind (tested calm_test r) at)

-- behind a part that leaves what was thrown
behind : {messages : List Message} {m : Machine} {hand : Hand} {part : Part} {rest : List Part} {thrown : List Thrown}
    → Run messages m → IsAt m hand part rest → AllThrown messages thrown → AreThrown messages thrown rest
behind {messages} {rest = rest} r at known =
    record { known = known; front = none_thrown messages (front_thrown rest) (calm_rest r at) }

-- behind a move: what was thrown before its message, which ends no stop; or nothing
data Onward (messages : List Message) (said : Option Message) (next : Machine) : Type 0 where
  goes_on : says_end said ≡ false → AreThrown messages next.state.thrown (parts_left next.hand)
      → Onward messages said next
  over : next.state.thrown ≡ [] → front_thrown (parts_left next.hand) ≡ [] → Onward messages said next

numbered_thrown : (outcome : Outcome) (state : State) → (numbered_by outcome state).thrown ≡ state.thrown
numbered_thrown outcome state = grind arith

replied_thrown : (command : TargetCommand) (replied : Replied) (state : State)
    → (replied_to command replied state).thrown ≡ state.thrown
replied_thrown command replied state = grind arith

noted_on : (messages : List Message) (note : Note) (state : State) → AllThrown messages state.thrown
    → AllThrown messages (noted_thrown note) → AllThrown messages (noted note state).thrown
noted_on messages (Throws thrown) state known front =
    all_joined (λ (one : Thrown). HasThrown messages one.thread one.object) state.thrown thrown known front
noted_on messages _ state known front = known

at_front : {messages : List Message} {m : Machine} {hand : Hand} {part : Part} {rest : List Part}
    → AreThrown messages m.state.thrown (parts_left m.hand) → IsAt m hand part rest
    → AllThrown messages (part_thrown part)
at_front {messages} {m} h at =
    subst (λ (parts : List Part). AllThrown messages (front_thrown parts)) at.parts
    (subst (λ (held : Option Hand). AllThrown messages (front_thrown (parts_left held))) at.in_hand h.front)

-- what is decided of a composite writes down what was thrown in it
decided_front : {messages : List Message} {m : Machine} {hand : Hand} {rest : List Part} (logged : List (List ℕ))
    (stops : List Strike) → Run messages m → IsAt m hand (Part.Unfolds (Decides logged stops)) rest
    → AllThrown messages (front_thrown (chosen (Decides logged stops) m.state hand ++ rest))
decided_front {messages} {m} {hand} {rest} logged stops r at = by_phase (is_attached m.state.phase) logged
  where
    by_item : (item : Item) → hand.item ≡ item → AllThrown messages (thrown_in m.state.wishes (events_in item))
    by_item (a_composite place composite) same =
        all_weak (λ (one : Thrown). HasHalted m.state.wishes composite.events (halt_of one))
        (λ (one : Thrown). HasThrown messages one.thread one.object)
        (λ one halted. record {
          place = place;
          composite = composite;
          was_halted = record {
            earlier = messages;
            later = [];
            there = m;
            hand = hand;
            messages_are = sym (append-nil messages);
            run = r;
            is_held = at.in_hand;
            is_item = same;
            bound = bound_at_choice r at refl;
            has_halted = halted;
          };
          in_stop = refl;
        })
        (thrown_in m.state.wishes composite.events) (thrown_are m.state.wishes composite.events)
    by_item _ same = tt

    by_stop : (stopped holds : Bool) (thrown : List Thrown) (stop : Option Halt) → AllThrown messages thrown
        → AllThrown messages (front_thrown (decided_by stopped holds thrown stops stop ++ rest))
    by_stop stopped true thrown None h = tt
    by_stop stopped false thrown None h = tt
    by_stop stopped holds thrown (Some halt) h = h

    by_phase : (attached : Bool) (logged : List (List ℕ)) → AllThrown messages (front_thrown
        (cond attached (logged_first m.state logged stops (events_in hand.item)) [] ++ rest))
    by_phase false logged = none_thrown messages (front_thrown rest) (calm_rest r at)
    by_phase true [] = by_stop m.state.stopped (holds_entry m.state (events_in hand.item))
        (thrown_in m.state.wishes (events_in hand.item))
        (stop_among stops (hits_in m.state.wishes (events_in hand.item))) (by_item hand.item refl)
    by_phase true (text ∷ texts) = tt

chosen_front : {messages : List Message} {m : Machine} {hand : Hand} {rest : List Part} (choice : Choice)
    → Run messages m → IsAt m hand (Part.Unfolds choice) rest
    → AllThrown messages (front_thrown (chosen choice m.state hand ++ rest))
chosen_front (Decides logged stops) r at = decided_front logged stops r at
chosen_front {messages} {m} {hand} {rest} choice r at =
    none_thrown messages (front_thrown (chosen choice m.state hand ++ rest))
    (calm_front (chosen choice m.state hand ++ rest)
    (other_choice choice m.state hand rest refl (whole calm_behind (tested calm_test r) at)))

given_front : (hand : Option Hand) → front_thrown (parts_left (option_map given_up hand)) ≡ []
given_front None = refl
given_front (Some hand) = calm_front (gone_parts (has_response hand.parts) hand.item)
    (gone_calm (has_response hand.parts) hand.item)

told_onward : {messages : List Message} {m : Machine} {hand : Hand} {rest : List Part} (event : Event) → Run messages m
    → IsAt m hand (Part.Tells event) rest → AllThrown messages m.state.thrown
    → Onward messages (Some (Message.tells (an_event (event_told event (after_event event m.state)))))
    (left (knowing m (after_event event m.state)) hand rest)
told_onward Terminated r at known = Onward.over refl (calm_rest r at)
told_onward Initialized r at known = Onward.goes_on refl (behind r at known)
told_onward (Logged text) r at known = Onward.goes_on refl (behind r at known)
told_onward (some_news news) r at known = Onward.goes_on refl (behind r at known)
told_onward (a_stop stopping) r at known = Onward.goes_on refl (behind r at known)

sent_onward : {messages : List Message} {m : Machine} {hand : Hand} {rest : List Part} (deed : Deed) → Run messages m
    → IsAt m hand (Part.Sends deed) rest → AllThrown messages m.state.thrown
    → Onward messages (Some (Message.sends (an_effect (Does deed))))
    (sent (knowing m (after_deed deed m.state)) hand rest (Does deed))
sent_onward (Resume of_stop) r at known = Onward.over refl (calm_rest r at)
sent_onward _ r at known = Onward.goes_on refl (behind r at known)

replied_onward : (messages : List Message) (m : Machine) (command : TargetCommand) (replied : Replied)
    → AreThrown messages m.state.thrown (parts_left m.hand)
    → Onward messages (Some (Message.answers command replied)) (replied_machine m command replied)
replied_onward messages m command replied h = Onward.goes_on refl (record {
  known = subst (λ (thrown : List Thrown). AllThrown messages thrown)
      (sym (replied_thrown command replied m.state)) h.known;
  front = subst (λ (parts : List Part). AllThrown messages (front_thrown parts))
      (sym (replied_left command replied m.hand)) h.front;
})

onward : (messages : List Message) (m next : Machine) (said : Option Message) → Run messages m
    → AreThrown messages m.state.thrown (parts_left m.hand) → Moves m said next → Onward messages said next
onward messages m next said r h (Moves.begins picked free none is) = Onward.goes_on refl (record {
  known = h.known;
  front = none_thrown messages (front_thrown (parts_of m.state picked.item))
      (calm_front (parts_of m.state picked.item) (begun_calm m.state picked.item));
})
onward messages m next said r h (Moves.drops free is none) =
    Onward.goes_on refl (record { known = h.known; front = tt })
onward messages m next said r h (Moves.responds {outcome = outcome} free at is) = Onward.goes_on refl (behind r at
    (subst (λ (thrown : List Thrown). AllThrown messages thrown) (sym (numbered_thrown outcome m.state)) h.known))
onward messages m next said r h (Moves.finds {rest = rest} {lookup} found free at needs done) =
    Onward.goes_on refl (record {
      known = h.known;
      front = none_thrown messages (front_thrown (finished lookup (result_of found) m.state ++ rest))
          (calm_front (finished lookup (result_of found) m.state ++ rest)
          (both_pass is_calm (finished lookup (result_of found) m.state) rest
          (found_calm lookup (result_of found) m.state) (whole calm_behind (tested calm_test r) at)));
    })
onward messages m next said r h (Moves.passes_over free at why) = Onward.goes_on refl (behind r at h.known)
onward messages m next said r h (Moves.tells {event = event} free at) = told_onward event r at h.known
onward messages m next said r h (Moves.sends {deed = deed} free at near) = sent_onward deed r at h.known
onward messages m next said r h (Moves.updates {effect = effect} free at is near) =
    Onward.goes_on (request_quiet effect (due_request m.state.wishes effect is))
    (record { known = h.known; front = tt })
onward messages m next said r h (Moves.notes {note = note} free at) =
    Onward.goes_on refl (behind r at (noted_on messages note m.state h.known (at_front h at)))
onward messages m next said r h (Moves.unfolds {choice = choice} free at) =
    Onward.goes_on refl (record { known = h.known; front = chosen_front choice r at })
onward messages m next said r h (Moves.queues free is) = Onward.goes_on refl (record {
  known = h.known;
  front = subst (λ (held : Option Hand). AllThrown messages (front_thrown (parts_left held))) is h.front;
})
onward messages m next said r h (Moves.asks {want = want} free room is are) = Onward.goes_on refl (record {
  known = h.known;
  front = subst (λ (parts : List Part). AllThrown messages (front_thrown parts)) (sym (asked_left want m.hand)) h.front;
})
onward messages m next said r h (Moves.answers {question} {replied} is waits reply lasts) =
    replied_onward messages m (a_question question) replied h
onward messages m next said r h (Moves.replies {effect} {replied} is flies reply lasts) =
    replied_onward messages m (an_effect effect) replied h
onward messages m next said r h (Moves.loses late near why) = Onward.over refl (given_front m.hand)
onward messages m next said r h _ = Onward.goes_on refl h

thrown_on : (messages : List Message) (said : Option Message) (next : Machine) → Onward messages said next
    → AreThrown (with_said messages said) next.state.thrown (parts_left next.hand)
thrown_on messages said next (Onward.goes_on quiet h) = record {
  known = all_still messages said next.state.thrown quiet h.known;
  front = all_still messages said (front_thrown (parts_left next.hand)) quiet h.front;
}
thrown_on messages said next (Onward.over known front) = record {
  known = none_thrown (with_said messages said) next.state.thrown known;
  front = none_thrown (with_said messages said) (front_thrown (parts_left next.hand)) front;
}

thrown : {messages : List Message} {m : Machine} → Run messages m
    → AreThrown messages m.state.thrown (parts_left m.hand)
thrown r = by_runs
    {Holds = λ (messages : List Message) (m : Machine). AreThrown messages m.state.thrown (parts_left m.hand)} (record {
      starts = record { known = tt; front = tt };
      moves = λ messages m next said before h moved after.
          thrown_on messages said next (onward messages m next said before h moved);
      queues = λ messages m hand queue before may h. h;
    }) r

-- What an `exceptionInfo` finds ---------------------------------------------------------------------------------------

abbrev is_failure : Part → Bool
is_failure (Part.Responds outcome) = not (succeeds outcome)
is_failure _ = false

-- an `exceptionInfo` that may succeed names a thread that threw something
abbrev HandThrown : List Message → List ThreadId → Option Hand → Type 0
HandThrown messages threads None = Unit {0}
HandThrown messages threads (Some hand) = (request : Request) (arguments : ThreadArguments)
    → hand.item ≡ a_request request → request.command ≡ ExceptionInfo arguments
    → passes is_failure hand.parts ≡ false → IsThrown messages threads arguments.thread_id

abbrev OfFirst : List Message → ThreadId → Option Thrown → Type 0
OfFirst messages thread None = Unit {0}
OfFirst messages thread (Some one) =
    HasThrown messages one.thread one.object × ((one.thread.0 == thread.0) ≡ true)

first_of : (messages : List Message) (thread : ThreadId) (thrown : List Thrown) → AllThrown messages thrown
    → OfFirst messages thread (thrown_first thrown thread)
first_of messages thread [] h = tt
first_of messages thread (one ∷ thrown) h =
    by_test (one.thread.0 == thread.0) refl (first_of messages thread thrown h.1)
  where
    by_test : (same : Bool) → (one.thread.0 == thread.0) ≡ same → OfFirst messages thread (thrown_first thrown thread)
        → OfFirst messages thread (cond same (Some one) (thrown_first thrown thread))
    by_test true same others = (h.0, same)
    by_test false same others = others

begun_thrown : (messages : List Message) (state : State) (arguments : ThreadArguments)
    → AllThrown messages state.thrown
    → passes is_failure (request_parts (ExceptionInfo arguments) state) ≡ false
    → IsThrown messages state.threads arguments.thread_id
begun_thrown messages state arguments h may =
    by_thread (if_stopped state.stopped state.phase) (thread_with state.threads arguments.thread_id) refl may
  where
    by_first : (thread : ThreadId) (found : Option Thrown) → HasNumber state.threads thread arguments.thread_id
        → OfFirst messages thread found → passes is_failure (exception_parts found) ≡ false
        → IsThrown messages state.threads arguments.thread_id
    by_first thread None number first may = cc
    by_first thread (Some one) number first may = record {
      thread = thread;
      object = one.object;
      has_number = number;
      has_thrown = subst (λ (thread : ThreadId). HasThrown messages thread one.object)
          (one_of_id (eqb-true one.thread.0 thread.0 first.1)) first.0;
    }

    by_thread : (failure : Option Failure) (found : Option ThreadId)
        → thread_with state.threads arguments.thread_id ≡ found
        → passes is_failure (parts_by failure (exception_parts
        (option_and_then (thrown_first state.thrown) found))) ≡ false
        → IsThrown messages state.threads arguments.thread_id
    by_thread (Some failure) found is may = cc
    by_thread None None is may = cc
    by_thread None (Some thread) is may = by_first thread (thrown_first state.thrown thread)
        (thread_has state.threads arguments.thread_id thread is) (first_of messages thread state.thrown h) may

-- what may succeed may do so before a part is done, too
may_before : (part : Part) (rest : List Part) → passes is_failure rest ≡ false
    → passes is_failure (part ∷ rest) ≡ false
may_before part rest may = rw may (never (is_failure part))

front_hand : {messages : List Message} {threads : List ThreadId} {m : Machine} {hand : Hand} {part : Part}
    {rest : List Part} → HandThrown messages threads m.hand → IsAt m hand part rest → (request : Request)
    (arguments : ThreadArguments) → hand.item ≡ a_request request → request.command ≡ ExceptionInfo arguments
    → passes is_failure (part ∷ rest) ≡ false → IsThrown messages threads arguments.thread_id
front_hand {messages} {threads} h at request arguments item command may =
    (subst (λ (held : Option Hand). HandThrown messages threads held) at.in_hand h) request arguments item command
    (ap (passes is_failure) at.parts ∙ may)

-- as long as it is in hand, and its parts go on
tail_hand : {messages : List Message} {threads : List ThreadId} {m : Machine} {hand : Hand} {part : Part}
    {rest : List Part} → HandThrown messages threads m.hand → IsAt m hand part rest → (request : Request)
    (arguments : ThreadArguments) → hand.item ≡ a_request request → request.command ≡ ExceptionInfo arguments
    → passes is_failure rest ≡ false → IsThrown messages threads arguments.thread_id
tail_hand {part = part} {rest} h at request arguments item command may =
    front_hand h at request arguments item command (may_before part rest may)

replied_hand : (messages : List Message) (threads : List ThreadId) (command : TargetCommand) (replied : Replied)
    (hand : Option Hand) → HandThrown messages threads hand
    → HandThrown messages threads (option_map (hand_replied command replied) hand)
replied_hand messages threads command replied None h = tt
replied_hand messages threads (a_question question) replied (Some hand) h = h
replied_hand messages threads (an_effect effect) replied (Some hand) h = h

asked_hands : (messages : List Message) (threads : List ThreadId) (want : Want) (hand : Option Hand)
    → HandThrown messages threads hand → HandThrown messages threads (option_map (asked_hand want) hand)
asked_hands messages threads want None h = tt
asked_hands messages threads want (Some hand) h = h

-- in a target that is gone it fails
gone_fails : (responds : Bool) (request : Request) (arguments : ThreadArguments)
    → request.command ≡ ExceptionInfo arguments
    → passes is_failure (gone_parts responds (a_request request)) ≡ true
gone_fails true request arguments command =
    ap (λ (command : Command). passes is_failure (gone_row command)) command
gone_fails false request arguments command =
    ap (λ (command : Command). passes is_failure (gone_tail command)) command

given_hand : (messages : List Message) (threads : List ThreadId) (hand : Option Hand)
    → HandThrown messages threads (option_map given_up hand)
given_hand messages threads None = tt
given_hand messages threads (Some hand) = λ request arguments item command may.
    let fails = ap (λ (item : Item). passes is_failure (gone_parts (has_response hand.parts) item)) item
    ∙ gone_fails (has_response hand.parts) request arguments command in
    let no : true ≡ false = sym fails ∙ may in cc

hand_on : {messages : List Message} {m next : Machine} {said : Option Message} → Run messages m
    → HandThrown messages m.state.threads m.hand → Moves m said next
    → HandThrown messages m.state.threads next.hand
hand_on {messages} {m} r h (Moves.begins picked free none is) = λ request arguments item command may.
    begun_thrown messages m.state arguments (thrown r).known
    (ap (λ (command : Command). passes is_failure (request_parts command m.state)) (sym command)
    ∙ ap (λ (item : Item). passes is_failure (parts_of m.state item)) (sym item) ∙ may)
hand_on r h (Moves.drops free is none) = tt
hand_on r h (Moves.responds free at is) = tail_hand h at
hand_on r h (Moves.finds found free at needs done) = λ request arguments item command may.
    front_hand h at request arguments item command refl
hand_on r h (Moves.passes_over free at why) = tail_hand h at
hand_on r h (Moves.tells free at) = tail_hand h at
hand_on r h (Moves.sends free at near) = tail_hand h at
hand_on r h (Moves.updates free at is near) = front_hand h at
hand_on r h (Moves.notes free at) = tail_hand h at
hand_on r h (Moves.unfolds free at) = λ request arguments item command may.
    front_hand h at request arguments item command refl
hand_on {messages} {m} r h (Moves.queues free is) =
    subst (λ (held : Option Hand). HandThrown messages m.state.threads held) is h
hand_on {messages} {m} r h (Moves.asks {want = want} free room is are) =
    asked_hands messages m.state.threads want m.hand h
hand_on {messages} {m} r h (Moves.answers {question} {replied} is waits reply lasts) =
    replied_hand messages m.state.threads (a_question question) replied m.hand h
hand_on {messages} {m} r h (Moves.replies {effect} {replied} is flies reply lasts) =
    replied_hand messages m.state.threads (an_effect effect) replied m.hand h
hand_on {messages} {m} r h (Moves.loses late near why) = given_hand messages m.state.threads m.hand
hand_on r h _ = h

-- a target that ends ends no stop by its message
lost_quiet : {m : Machine} {message : Message} {late : List TargetCommand} → Loses m message late
    → ends_stop message ≡ false
lost_quiet Loses.by_end = refl
lost_quiet (Loses.by_question is waits reply last) = refl
lost_quiet (Loses.by_effect is flies reply last) = refl

-- an `exceptionInfo` ends no stop
quiet_on : {messages : List Message} {m next : Machine} {said : Option Message} → Run messages m → Moves m said next
    → (hand : Hand) (request : Request) (arguments : ThreadArguments) → next.hand ≡ Some hand
    → hand.item ≡ a_request request → request.command ≡ ExceptionInfo arguments → says_end said ≡ false
quiet_on r (Moves.sends {hand = here} {deed = Resume of_stop} free at near) hand request arguments is item command =
    let items = ap (option_map (λ (hand : Hand). hand.item)) is in
    let same : here.item ≡ hand.item = cc in
    let no : true ≡ false = sym (is_to_run r at) ∙ ap (λ (item : Item). is_running (purpose_of item)) (same ∙ item)
    ∙ ap (λ (command : Command). is_running (purpose command)) command in cc
quiet_on {m = m} r (Moves.updates {effect = effect} free at due_now near) hand request arguments is item command =
    request_quiet effect (due_request m.state.wishes effect due_now)
quiet_on r (Moves.loses late near why) hand request arguments is item command = lost_quiet why
quiet_on r _ hand request arguments is item command = refl

still_thrown : (messages : List Message) (said : Option Message) (threads now : List ThreadId) (number : ℕ)
    → says_end said ≡ false → Grows threads now → IsThrown messages threads number
    → IsThrown (with_said messages said) now number
still_thrown messages said threads now number quiet more t = record {
  thread = t.thread;
  object = t.object;
  has_number = kept more t.has_number;
  has_thrown = said_still messages said quiet t.has_thrown;
}

hand_still : {messages : List Message} {m next : Machine} {said : Option Message} → Run messages m → Moves m said next
    → (held : Option Hand) → next.hand ≡ held → HandThrown messages m.state.threads held
    → HandThrown (with_said messages said) next.state.threads held
hand_still r moved None is h = tt
hand_still {messages} {m} {next} {said} r moved (Some hand) is h = λ request arguments item command may.
    still_thrown messages said m.state.threads next.state.threads arguments.thread_id
    (quiet_on r moved hand request arguments is item command) (grows_on m next said moved)
    (h request arguments item command may)

hand_thrown : {messages : List Message} {m : Machine} → Run messages m → HandThrown messages m.state.threads m.hand
hand_thrown r = by_runs
    {Holds = λ (messages : List Message) (m : Machine). HandThrown messages m.state.threads m.hand} (record {
      starts = tt;
      moves = λ messages m next said before h moved after.
          hand_still before moved next.hand refl (hand_on before h moved);
      queues = λ messages m hand queue before may h. h;
    }) r

-- The law -------------------------------------------------------------------------------------------------------------

of_thrown : {messages : List Message} (m next : Machine) (said : Option Message) (response : Response) (shape : Shape)
    → Run messages m → said ≡ Some (Message.tells (a_response response))
    → response.outcome ≡ outcomes.Success shape → Moves m said next → IsOfThrown messages m response
of_thrown m next said response shape r is success (Moves.responds {hand} {rest} {request} {outcome} free at item) =
    let same : response ≡ record {
      request_seq = request.seq;
      command = request.name;
      outcome = outcome_told outcome m.state;
    } = cc in
    let succeeded = success_of outcome m.state shape
    (sym (ap (λ (response : Response). response.outcome) same) ∙ success) in
    record {
      request = request;
      first = first_in r at item refl;
      answers = record {
        seq = ap (λ (response : Response). response.request_seq) same;
        command = ap (λ (response : Response). response.command) same;
      };
      is_thrown = λ arguments command. front_hand (hand_thrown r) at request arguments item command
          (ap (λ (success : Bool). cond (not success) (passes is_failure rest) false) succeeded);
    }
of_thrown {messages} m next said response shape r is success (Moves.loses late near why) = by_loss why is
  where
    by_loss : {message : Message} {late : List TargetCommand} → Loses m message late
        → Some message ≡ Some (Message.tells (a_response response)) → IsOfThrown messages m response
    by_loss Loses.by_end is = cc
    by_loss _ is = cc
of_thrown m next said response shape r is success _ = cc

pub shows_thrown : (messages : List Message) (m : Machine) (response : Response) (shape : Shape) → Run messages m
    → (due false m).act ≡ Act.Tells (a_response response) → response.outcome ≡ outcomes.Success shape
    → IsOfThrown messages m response
shows_thrown messages m response shape r is success =
    of_thrown m (due false m).next _ response shape r refl success (moved (Allows.acts (ap said is)))
