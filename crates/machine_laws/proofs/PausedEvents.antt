-- A `pause` that succeeds while the client knows of no stop is told next.
use Rattle.std.proofs.Common.{◌≡◌, Bool, true, false, cond, List, [], ◌∷◌, ◌++◌, Option, Some, None, refl, sym, ap}
use Rattle.std.proofs.Common.{◌∙◌, ◌⊎◌, inl, inr, append_assoc, fold, arith, subst}
use Rattle.std.specs.List.{flat_map}
use Rattle.std.proofs.lemmas.List.{append_cancel_left}
use Rattle.std.proofs.lemmas.List.Sums.{fold-append}
use Rattle.dap_messages.specs.declared.requests.ThreadArguments.{ThreadArguments}
use Rattle.dap_messages.specs.declared.told.Outcome.{Outcome as OutcomeTold}
use Rattle.dap_messages.specs.declared.told.Outcome.TheVariants as outcomes
use Rattle.dap_messages.specs.declared.told.Response.{Response}
use Rattle.dap_messages.specs.declared.told.Shape.{Shape}
use Rattle.dap_messages.specs.declared.told.StopReason.TheVariants as reasons
use Rattle.dap_messages.specs.declared.told.Stopped.{Stopped}
use Rattle.machine_model.specs.Due.{Load, busy, can_read, clear, due, hand_load, lacked_by, load_of, newly_lacked}
use Rattle.machine_model.specs.Due.{wanted}
use Rattle.machine_model.specs.Events.{is_clients}
use Rattle.machine_model.specs.Names.{Told, a_response}
use Rattle.machine_model.specs.Replying.{ended}
use Rattle.machine_model.specs.Rest.{told_by, without_response}
use Rattle.machine_model.specs.Rows.{has_response}
use Rattle.machine_model.specs.Runs.{Allows, Message, Run, said}
use Rattle.machine_model.specs.State.{Hand, Machine, State, has_raw, has_waiting, is_empty, is_flying, is_gone, is_raw}
use Rattle.machine_model.specs.State.{is_some}
use Rattle.machine_model.specs.Telling.{after_event, event_told, number_among, numbered_by, outcome_told, reason_told}
use Rattle.machine_model.specs.Telling.{response_to}
use Rattle.machine_laws.specs.ClientStops.{AreRead, configured_by, stop_by_event, stop_by_outcome}
use Rattle.machine_steps.specs.Names.{Act, Failed, Item, Outcome, Part, Pause, Request, StopCause, Stopping}
use Rattle.machine_steps.specs.Names.{Success, a_composite, a_raw, a_request, a_stop, an_event, by_client}
use Rattle.machine_laws.specs.Pausing.{HasSucceeded, IsPauseDue, IsPaused}
use Rattle.machine_steps.proofs.IdLaws.{last_or_not}
use Rattle.machine_laws.proofs.ItemLaws.{raw_more}
use Rattle.machine_laws.proofs.PausedAnswers.{is_client, starts_paused}
use Rattle.machine_laws.proofs.PausedStops.{pauses}
use Rattle.machine_steps.proofs.QuietLaws.{waits_some}
use Rattle.machine_steps.proofs.RequestSteps.{near_before}
use Rattle.machine_steps.proofs.RestLaws.{IsFree, is_free}
use Rattle.machine_steps.proofs.ServedLaws.{one_more, responded_left}
use Rattle.machine_laws.proofs.ShownStops.{paused_next, shows_stops}
use Rattle.machine_steps.proofs.SizeLaws.{told_sizes}
use Rattle.machine_steps.proofs.Stepping.{IsAt, Loses, Moves, gone_on, moved, none_to_ask}
use Rattle.machine_steps.proofs.Tables.{once, responds_once}
use Rattle.machine_steps.proofs.Testing.{tested, whole}
use Rattle.std.proofs.lemmas.Bool.{not-true}

-- Where a message stands ----------------------------------------------------------------------------------------------

-- none stands among no messages
pub none_yet : {A : Type 0} (before after : List Message) (message : Message) → [] ≡ before ++ message ∷ after → A
none_yet [] after message is = cc
none_yet (first ∷ before) after message is = cc

none_both : {B : Type 0} (one other : List B) → one ++ other ≡ [] → (one ≡ []) × (other ≡ [])
none_both [] other is = (refl, is)
none_both (first ∷ one) other is = cc

-- the last message is the last of those behind one, which have nothing
pub behind_more : {B : Type 0} (f : Message → List B) (messages before rest after : List Message) (one last : Message)
    → messages ≡ before ++ one ∷ rest → messages ++ last ∷ [] ≡ before ++ one ∷ after → flat_map f after ≡ []
    → (flat_map f rest ≡ []) × (f last ≡ [])
behind_more f messages before rest after one last was is none =
    let more = append_cancel_left before (one ∷ rest ++ last ∷ []) (one ∷ after)
    (sym (append_assoc before (one ∷ rest) (last ∷ []))
    ∙ ap (λ (messages : List Message). messages ++ last ∷ []) (sym was) ∙ is) in
    let same : rest ++ last ∷ [] ≡ after = cc in
    none_both (flat_map f rest) (f last) (sym (one_more f rest last) ∙ ap (flat_map f) same ∙ none)

-- What the client knows by the messages is one thing ------------------------------------------------------------------

record Reading : Type 0 where
  requests : List Request
  stopped : Bool
  configured : Bool

abbrev answered_with : OutcomeTold → List Request → Reading → Reading
answered_with outcome [] reading = reading
answered_with outcome (request ∷ requests) reading = record {
  requests = requests;
  stopped = stop_by_outcome request.command outcome reading.stopped;
  configured = configured_by request.command outcome reading.configured;
}

abbrev told_now : Told → Reading → Reading
told_now (a_response response) reading = answered_with response.outcome reading.requests reading
told_now (an_event event) reading = record reading { stopped = stop_by_event event reading.stopped }

abbrev read_now : Reading → Message → Reading
read_now reading (Message.hears request) = record reading { requests = reading.requests ++ request ∷ [] }
read_now reading (Message.tells told) = told_now told reading
read_now reading _ = reading

abbrev reading_of : List Message → Reading
reading_of messages = fold read_now (record { requests = []; stopped = false; configured = false }) messages

read_more : (messages : List Message) (message : Message) (reading : Reading) → reading_of messages ≡ reading
    → reading_of (messages ++ message ∷ []) ≡ read_now reading message
read_more messages message reading is =
    fold-append read_now (record { requests = []; stopped = false; configured = false }) messages (message ∷ [])
    ∙ ap (λ (reading : Reading). read_now reading message) is

read_apart : (reading : Reading) (message : Message) → is_clients message ≡ false → read_now reading message ≡ reading
read_apart reading (Message.hears request) apart = cc
read_apart reading (Message.tells told) apart = cc
read_apart reading _ apart = refl

are_read : {messages : List Message} {requests : List Request} {stopped configured : Bool}
    → AreRead messages requests stopped configured
    → reading_of messages ≡ record { requests = requests; stopped = stopped; configured = configured }
are_read AreRead.none = refl
are_read (AreRead.aside {messages} {requests} {stopped} {configured} message apart before) =
    read_more messages message _ (are_read before)
    ∙ read_apart (record { requests = requests; stopped = stopped; configured = configured }) message apart
are_read (AreRead.hears {messages} request before) =
    read_more messages (Message.hears request) _ (are_read before)
are_read (AreRead.responds {messages} response answers before) =
    read_more messages (Message.tells (a_response response)) _ (are_read before)
are_read (AreRead.tells {messages} event before) =
    read_more messages (Message.tells (an_event event)) _ (are_read before)

alike : {messages : List Message} {requests others : List Request} {stopped configured shown settled : Bool}
    → AreRead messages requests stopped configured → AreRead messages others shown settled
    → (requests ≡ others) × (stopped ≡ shown)
alike one other =
    let same = sym (are_read one) ∙ are_read other in
    (ap (λ (reading : Reading). reading.requests) same, ap (λ (reading : Reading). reading.stopped) same)

-- The stop is told next -----------------------------------------------------------------------------------------------

-- the stop stands in front of the `pause` in hand, and nothing hinders it
record IsTelling (m : Machine) (request : Request) : Type 0 where
  hand : Hand
  stopping : Stopping
  rest : List Part
  front : IsAt m hand (Part.Tells (a_stop stopping)) rest
  is_request : hand.item ≡ a_request request
  is_pause : stopping.cause ≡ by_client
  lands : is_flying hand.effect ≡ false
  silent : has_waiting hand.asked ≡ false
  no_queue : is_empty hand.queue ≡ true
  none_read : can_read m ≡ false

clear_by : (gone reads : Bool) (load : Load) → gone ≡ false → reads ≡ false → load ≡ clear
    → cond gone clear (cond reads busy load) ≡ clear
clear_by gone reads load near none is = grind (arith, near, none, is)

free_hand : (m : Machine) (hand : Hand) (stopping : Stopping) (rest : List Part)
    → hand.parts ≡ Part.Tells (a_stop stopping) ∷ rest → is_flying hand.effect ≡ false
    → has_waiting hand.asked ≡ false → is_empty hand.queue ≡ true → hand_load m.state (Some hand) ≡ clear
unfolding newly_lacked
free_hand m hand stopping rest parts lands silent none = rw (lands, none, parts, silent) refl

telling_free : {m : Machine} {request : Request} → is_gone m.state.phase ≡ false → IsTelling m request
    → load_of m ≡ clear
unfolding load_of
telling_free {m} near t = clear_by (is_gone m.state.phase) (can_read m) (hand_load m.state m.hand) near t.none_read
    (ap (λ (hand : Option Hand). hand_load m.state hand) t.front.in_hand
    ∙ free_hand m t.hand t.stopping t.rest t.front.parts t.lands t.silent t.no_queue)

abbrev told_as : Machine → Stopping → Act
told_as m stopping = Act.Tells (an_event (event_told (a_stop stopping) (after_event (a_stop stopping) m.state)))

stop_due : (m : Machine) (hand : Hand) (stopping : Stopping) (rest : List Part) → load_of m ≡ clear
    → IsAt m hand (Part.Tells (a_stop stopping)) rest → (due false m).act ≡ told_as m stopping
unfolding due wanted
stop_due m hand stopping rest free at = rw (free, at.in_hand, at.parts) refl

telling_due : {m : Machine} {request : Request} → is_gone m.state.phase ≡ false → (t : IsTelling m request)
    → (due false m).act ≡ told_as m t.stopping
telling_due {m} near t = stop_due m t.hand t.stopping t.rest (telling_free near t) t.front

-- Behind the success --------------------------------------------------------------------------------------------------

none_read_by : (gone reads : Bool) (load : Load) → gone ≡ false → cond gone clear (cond reads busy load) ≡ clear
    → reads ≡ false
none_read_by false false load near is = refl
none_read_by _ _ load near is = cc

free_reads : (m : Machine) → load_of m ≡ clear → is_gone m.state.phase ≡ false → can_read m ≡ false
unfolding load_of
free_reads m free near = none_read_by (is_gone m.state.phase) (can_read m) (hand_load m.state m.hand) near free

abbrev reads_in : Bool → Bool → Bool → Bool
reads_in gone sized raw = cond gone false (cond sized raw false)

-- the response keeps what can be read
still_read : (outcome : Outcome) (m : Machine) → can_read m ≡ false
    → reads_in (is_gone (numbered_by outcome m.state).phase) (is_some (numbered_by outcome m.state).sizes)
    (has_raw m.waiting) ≡ false
still_read outcome m none = rw ((told_sizes outcome m.state).0, (told_sizes outcome m.state).1) none

-- the first part is the stop
begins_telling : {m : Machine} (hand : Hand) (request : Request) (rest : List Part) → m.hand ≡ Some hand
    → hand.parts ≡ rest → hand.item ≡ a_request request → is_flying hand.effect ≡ false
    → has_waiting hand.asked ≡ false → is_empty hand.queue ≡ true → can_read m ≡ false → starts_paused rest ≡ true
    → IsTelling m request
begins_telling hand request [] held parts item lands silent none reads starts = cc
begins_telling {m} hand request (Part.Tells (a_stop stopping) ∷ rest) held parts item lands silent none reads starts =
    record {
      hand = hand;
      stopping = stopping;
      rest = rest;
      front = record { in_hand = held; parts = parts };
      is_request = item;
      is_pause = by_cause stopping.cause starts;
      lands = lands;
      silent = silent;
      no_queue = none;
      none_read = reads;
    }
  where
    by_cause : (cause : StopCause) → is_client cause ≡ true → cause ≡ by_client
    by_cause by_client is = refl
    by_cause _ is = cc
begins_telling hand request (part ∷ rest) held parts item lands silent none reads starts = cc

-- the response that is told is that of the `pause` in hand
responded_next : {messages : List Message} {m : Machine} {hand : Hand} {rest : List Part} {other : Request}
    {arguments : ThreadArguments} {shape : Shape} {others : List Request} {configured : Bool} (request : Request)
    (outcome : Outcome) (next : Machine) → Run messages m → is_gone m.state.phase ≡ false → load_of m ≡ clear
    → IsAt m hand (Part.Responds outcome) rest → hand.item ≡ a_request other → request.command ≡ Pause arguments
    → AreRead messages (request ∷ others) false configured → outcome_told outcome m.state ≡ outcomes.Success shape
    → next.hand ≡ Some (record hand { parts = rest }) → can_read next ≡ false → IsTelling next request
responded_next request (Failed failure) next r near free at is pauses_it read told held none = cc
responded_next {messages} {m} {hand} {rest} {other} {others = others} request (Success body) next r near free at is
    pauses_it read told held none =
    begins_telling (record hand { parts = rest }) request rest held refl item f.lands f.silent f.no_queue none
    (paused_next r near at item pauses_it (λ shown configured known. (alike known read).1))
  where
    f : IsFree m hand
    f = is_free m hand free near at.in_hand

    known : without_response m ≡ request ∷ others
    known = (alike (shows_stops messages m r near).told read).0

    none_more : has_response rest ≡ false
    none_more = not-true (has_response rest) (whole responds_once (tested once r) at)

    item : hand.item ≡ a_request request
    item = is ∙ ap a_request (first_same (sym (responded_left at is none_more) ∙ known))
      where
        first_same : {left : List Request} → other ∷ left ≡ request ∷ others → other ≡ request
        first_same same = cc

-- the response that is told is this one
pub same_told : {one other : Response}
    → Some (Message.tells (a_response one)) ≡ Some (Message.tells (a_response other)) → one ≡ other
same_told is = cc

-- the success is told: the stop is next
succeeded : {messages : List Message} {arguments : ThreadArguments} {shape : Shape} {others : List Request}
    {configured : Bool} (m next : Machine) (said : Option Message) (request : Request) → Run messages m
    → is_gone m.state.phase ≡ false → request.command ≡ Pause arguments
    → AreRead messages (request ∷ others) false configured
    → said ≡ Some (Message.tells (response_to request (outcomes.Success shape))) → Moves m said next
    → IsTelling next request
succeeded {shape = shape} m next said request r near pauses_it read is
    (Moves.responds {outcome = outcome} free at same) =
    responded_next {shape = shape} request outcome next r near free at same pauses_it read
    (ap (λ (response : Response). response.outcome) (same_told is)) refl
    (still_read outcome m (free_reads m free near))
succeeded m next said request r near pauses_it read is (Moves.tells free at) = cc
succeeded m next said request r near pauses_it read is (Moves.loses late close Loses.by_end) = cc
succeeded m next said request r near pauses_it read is _ = cc

-- Until it is told ----------------------------------------------------------------------------------------------------

-- where nothing raw came, nothing can be read
still_unread : (gone sized was now : Bool) → (was ≡ false → now ≡ false) → reads_in gone sized was ≡ false
    → reads_in gone sized now ≡ false
still_unread true sized was now k is = refl
still_unread false false was now k is = refl
still_unread false true was now k is = k is

-- one more waits
one_waits : (m : Machine) (item : Item) → is_raw item ≡ false → can_read m ≡ false
    → reads_in (is_gone m.state.phase) (is_some m.state.sizes) (has_raw (m.waiting ++ item ∷ [])) ≡ false
one_waits m item plain none = still_unread (is_gone m.state.phase) (is_some m.state.sizes) (has_raw m.waiting)
    (has_raw (m.waiting ++ item ∷ [])) (raw_more m.waiting item plain) none

-- nor can one that is kept
kept_waits : (m : Machine) (item : Item) → is_some m.state.sizes ≡ false
    → reads_in (is_gone m.state.phase) (is_some m.state.sizes) (has_raw (m.waiting ++ item ∷ [])) ≡ false
kept_waits m item unsized = by_bools (is_gone m.state.phase) (is_some m.state.sizes) (has_raw (m.waiting ++ item ∷ []))
    unsized
  where
    by_bools : (gone sized raw : Bool) → sized ≡ false → reads_in gone sized raw ≡ false
    by_bools gone sized raw is = grind (arith, is)

-- what comes changes nothing of it
still_telling : {m : Machine} {request : Request} (next : Machine) → next.hand ≡ m.hand → can_read next ≡ false
    → IsTelling m request → IsTelling next request
still_telling next same none t = record {
  hand = t.hand;
  stopping = t.stopping;
  rest = t.rest;
  front = record { in_hand = same ∙ t.front.in_hand; parts = t.front.parts };
  is_request = t.is_request;
  is_pause = t.is_pause;
  lands = t.lands;
  silent = t.silent;
  no_queue = t.no_queue;
  none_read = none;
}

-- one item is in hand
pub same_held : {held : Option Hand} {one other : Hand} → held ≡ Some one → held ≡ Some other → one ≡ other
same_held {one = one} {other} is held = let same : Some one ≡ Some other = sym is ∙ held in cc

-- something is told
not_silent : {A : Type 0} {told : Told} {message : Message} → Some (Message.tells told) ≡ Some message
    → told_by message ≡ [] → A
not_silent {told = told} {message} is none =
    let same : Message.tells told ≡ message = cc in
    let no : told ∷ [] ≡ [] = ap told_by same ∙ none in cc

telling_on : {m : Machine} {request : Request} (next : Machine) (message : Message) → is_gone m.state.phase ≡ false
    → is_gone next.state.phase ≡ false → told_by message ≡ [] → IsTelling m request → Allows m message next
    → IsTelling next request
telling_on {m} next message near here none t (Allows.acts is) =
    not_silent (ap said (sym (telling_due near t)) ∙ is) none
telling_on {m} next message near here none t (Allows.hears {request} read open_now) =
    still_telling next refl (one_waits m (a_request request) refl read) t
telling_on next message near here none t (Allows.greeted read is) = still_telling next refl read t
telling_on {m} next message near here none t (Allows.answers {question} hand read held waits reply) =
    let no : false ≡ true = sym t.silent ∙ ap (λ (hand : Hand). has_waiting hand.asked) (same_held t.front.in_hand held)
    ∙ waits_some question hand.asked waits in cc
telling_on {m} next message near here none t (Allows.replies hand read held flies reply) =
    let no : false ≡ true = sym t.lands ∙ ap (λ (hand : Hand). is_flying hand.effect)
    (same_held t.front.in_hand held) ∙ ap is_flying flies in cc
telling_on next message near here none t (Allows.late before after read is reply) = still_telling next refl read t
telling_on {m} next message near here none t (Allows.ends read) =
    let no : true ≡ false = subst (λ (gone : Bool). is_gone (ended gone m).state.phase ≡ false) near here in cc
telling_on {m} next message near here none t (Allows.comes {at} {composite} read sized taken) =
    still_telling next refl (one_waits m (a_composite at composite) refl read) t
telling_on {m} next message near here none t (Allows.keeps {at} {body} unsized) =
    still_telling next refl (kept_waits m (a_raw at body) unsized) t
telling_on next message near here none t (Allows.reads before after read is plain taken) =
    let no : false ≡ true = sym t.none_read ∙ read in cc

-- once a `pause` has succeeded outside a stop, the stop stands in front until it is told
telling : {messages : List Message} {m : Machine} {request : Request} {arguments : ThreadArguments} → Run messages m
    → is_gone m.state.phase ≡ false → request.command ≡ Pause arguments → HasSucceeded messages request
    → IsTelling m request
telling Run.starts near pauses_it h = none_yet h.before h.after _ h.messages_are
telling {request = request} (Run.goes {messages} {m} r goes) near pauses_it h =
    let close = near_before m (due false m).next None (gone_on goes) near in
    let t = telling r close pauses_it h in
    let no : Act.Goes ≡ told_as m t.stopping = sym goes ∙ telling_due close t in cc
telling {request = request} (Run.queues {m = m} {hand} {queue} r may) near pauses_it h =
    let t = telling r near pauses_it h in
    let same = same_held may.held t.front.in_hand in
    let parts : hand.parts ≡ Part.Tells (a_stop t.stopping) ∷ t.rest =
    ap (λ (hand : Hand). hand.parts) same ∙ t.front.parts in
    record {
      hand = record hand { queue = queue };
      stopping = t.stopping;
      rest = t.rest;
      front = record { in_hand = refl; parts = parts };
      is_request = ap (λ (hand : Hand). hand.item) same ∙ t.is_request;
      is_pause = t.is_pause;
      lands = ap (λ (hand : Hand). is_flying hand.effect) same ∙ t.lands;
      silent = ap (λ (hand : Hand). has_waiting hand.asked) same ∙ t.silent;
      no_queue = ap is_empty (none_to_ask may (ap (lacked_by m.state hand) parts));
      none_read = t.none_read;
    }
telling {request = request} (Run.moves {messages} {m} {next} {message} r allows) near pauses_it h =
    by_place (last_or_not messages message it h.before h.after h.messages_are)
    (λ earlier. telling r close pauses_it earlier)
  where
    it : Message
    it = Message.tells (response_to request (outcomes.Success h.shape))

    close : is_gone m.state.phase ≡ false
    close = near_before m next (Some message) (moved allows) near

    by_place : ((messages ≡ h.before) × (message ≡ it))
        ⊎ ((rest : List Message) × (messages ≡ h.before ++ it ∷ rest))
        → (HasSucceeded messages request → IsTelling m request) → IsTelling next request
    by_place (inl (same, is)) others =
        succeeded m next (Some message) request r close pauses_it
        (subst (λ (before : List Message). AreRead before (request ∷ h.others) false h.configured) (sym same) h.no_stop)
        (ap Some is) (moved allows)
    by_place (inr (rest, was)) others =
        let none = behind_more told_by messages h.before rest h.after it message was h.messages_are h.is_last in
        telling_on next message close near none.1 (others (record {
          before = h.before;
          after = rest;
          shape = h.shape;
          others = h.others;
          configured = h.configured;
          messages_are = was;
          is_last = none.0;
          no_stop = h.no_stop;
        })) allows

-- The law -------------------------------------------------------------------------------------------------------------

pub tells_pauses : (messages : List Message) (m : Machine) (request : Request) (arguments : ThreadArguments)
    → Run messages m → is_gone m.state.phase ≡ false → request.command ≡ Pause arguments
    → HasSucceeded messages request → IsPauseDue m arguments.thread_id
tells_pauses messages m request arguments r near pauses_it h = record {
  stop = stop;
  is_due = telling_due near t;
  is_pause = reason;
  is_named = p.is_named ∙ ap (λ (arguments : ThreadArguments). arguments.thread_id) named;
}
  where
    t : IsTelling m request
    t = telling r near pauses_it h

    now : State
    now = after_event (a_stop t.stopping) m.state

    stop : Stopped
    stop = record {
      reason = reason_told t.stopping.cause now;
      thread = number_among now.threads t.stopping.thread;
    }

    reason : stop.reason ≡ reasons.Pause
    reason = ap (λ (cause : StopCause). reason_told cause now) t.is_pause

    p : IsPaused messages m stop
    p = pauses messages m stop r (telling_due near t) reason

    one : p.request ≡ request
    one = request_same (sym p.is_request
        ∙ ap (λ (hand : Hand). hand.item) (same_held p.is_held t.front.in_hand) ∙ t.is_request)
      where
        request_same : {one other : Request} → a_request one ≡ a_request other → one ≡ other
        request_same same = cc

    named : p.arguments ≡ arguments
    named = arguments_same (sym p.is_pause ∙ ap (λ (request : Request). request.command) one ∙ pauses_it)
      where
        arguments_same : {one other : ThreadArguments} → Pause one ≡ Pause other → one ≡ other
        arguments_same same = cc
