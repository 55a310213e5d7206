-- The event `stopped` of a `pause` tells of the thread that this names.
use Rattle.std.proofs.Common.{◌≡◌, ◌+◌, ◌==◌, ℕ, Bool, true, false, cond, List, [], ◌∷◌, ◌++◌, Option, Some, None}
use Rattle.std.proofs.Common.{refl, sym, ap, subst, ◌∙◌, append_assoc, option_map, arith}
use Rattle.std.specs.Prelude.{◌-◌, map, slice_get, zero, suc}
use Rattle.std.specs.List.{AllByRecursion as All, list_any}
use Rattle.std.proofs.lemmas.Bool.{eqb-true}
use Rattle.dap_messages.specs.declared.told.Event.TheVariants as events
use Rattle.dap_messages.specs.declared.told.StopReason.TheVariants as reasons
use Rattle.dap_messages.specs.declared.told.Stopped.{Stopped}
use Rattle.machine_model.specs.Due.{asked_hand, due}
use Rattle.machine_model.specs.Knowing.{HasNumber}
use Rattle.machine_model.specs.Lookups.{finished}
use Rattle.machine_model.specs.Outcomes.{result_of}
use Rattle.machine_model.specs.Plans.{Result}
use Rattle.machine_model.specs.Replying.{given_up, hand_replied}
use Rattle.machine_model.specs.Rows.{chosen, failure_of, gone_parts, has_response, news_of, parts_of, pause_parts}
use Rattle.machine_model.specs.Rows.{row_of, thread_with, told_in, wanting}
use Rattle.machine_model.specs.Runs.{Allows, Message, Run, said}
use Rattle.machine_model.specs.State.{Hand, Machine, State}
use Rattle.machine_model.specs.Stops.{surplus, told_part}
use Rattle.machine_model.specs.Telling.{after_event, is_among, number_among, numbered_by, reason_told, with_thread}
use Rattle.wish_sets.specs.Entries.{entries_at}
use Rattle.machine_steps.specs.Names.{Act, Attached, Choice, Command, Decides, Event, Finding, HaltCause, Hit}
use Rattle.machine_steps.specs.Names.{Logged, Strike}
use Rattle.machine_steps.specs.Names.{Initialized, Item, Lookup, NamedThread, News, Outcome, Part, Pause, Phase}
use Rattle.machine_steps.specs.Names.{Replied, Request, StopCause, Success, TargetCommand, TellsNews}
use Rattle.machine_steps.specs.Names.{Terminated, ThreadId, Want, a_question, a_request, a_stop, an_effect, an_event}
use Rattle.machine_steps.specs.Names.{by_client, by_exception, by_step, came_to, entry_verified, exception_text}
use Rattle.machine_steps.specs.Names.{has_stepped, some_news, thread_changed, thread_list, threw}
use Rattle.machine_laws.specs.Pausing.{IsPaused, IsToldLast}
use Rattle.machine_laws.proofs.KnowingLaws.{is_known}
use Rattle.machine_laws.proofs.NumberLaws.{grows}
use Rattle.machine_steps.proofs.PartTests.{all_pass, all_passing, begun_mute, chosen_mute, found_mute, given_mute}
use Rattle.machine_steps.proofs.PartTests.{is_mute, of_failure, row_mute}
use Rattle.machine_laws.proofs.PausedAnswers.{told_last}
use Rattle.machine_steps.proofs.Stepping.{IsAt, Loses, Moves, by_moves, moved}
use Rattle.machine_steps.proofs.Tables.{of_decided}
use Rattle.machine_steps.proofs.ThreadIds.{noted_threads, replied_threads}

-- Numbers of threads --------------------------------------------------------------------------------------------------

-- a thread that was told stays at its place
pub still_numbered : {threads : List ThreadId} {thread : ThreadId} {number : ℕ} (more : List ThreadId)
    → HasNumber threads thread number → HasNumber (threads ++ more) thread number
still_numbered {threads} {thread} more h = record {
  before = h.before;
  after = h.after ++ more;
  threads_are = ap (λ (all : List ThreadId). all ++ more) h.threads_are
      ∙ append_assoc h.before (thread ∷ h.after) more;
  number_is = h.number_is;
}

one_before : (first : ThreadId) {threads : List ThreadId} {thread : ThreadId} {number : ℕ}
    → HasNumber threads thread number → HasNumber (first ∷ threads) thread (number + 1)
one_before first h = record {
  before = first ∷ h.before;
  after = h.after;
  threads_are = ap (λ (all : List ThreadId). first ∷ all) h.threads_are;
  number_is = let is = h.number_is in omega arith;
}

-- a thread with this number has it
pub thread_has : (threads : List ThreadId) (number : ℕ) (thread : ThreadId) → thread_with threads number ≡ Some thread
    → HasNumber threads thread number
thread_has threads number thread is = by_zero (number == 0) refl is
  where
    at : (threads : List ThreadId) (place : ℕ) → slice_get threads place ≡ Some thread
        → HasNumber threads thread (place + 1)
    at [] place is = cc
    at (first ∷ threads) zero is =
        let same : first ≡ thread = cc in record {
          before = [];
          after = threads;
          threads_are = ap (λ (one : ThreadId). one ∷ threads) same;
          number_is = refl;
        }
    at (first ∷ threads) (suc place) is =
        subst (λ (number : ℕ). HasNumber (first ∷ threads) thread number)
        (let one : (place + 1) + 1 ≡ suc place + 1 = omega arith in one) (one_before first (at threads place is))

    some : (number : ℕ) → (number == 0) ≡ false → (number - 1) + 1 ≡ number
    some zero is = cc
    some (suc number) is = omega arith

    by_zero : (none : Bool) → (number == 0) ≡ none → cond none None (slice_get threads (number - 1)) ≡ Some thread
        → HasNumber threads thread number
    by_zero true none is = cc
    by_zero false none is = subst (λ (number : ℕ). HasNumber threads thread number) (some number none)
        (at threads (number - 1) is)

-- and it is told by a number that it has
number_has : (threads : List ThreadId) (thread : ThreadId) → is_among threads thread ≡ true
    → HasNumber threads thread (number_among threads thread)
number_has [] thread is = cc
number_has (first ∷ threads) thread is = by_first (first.0 == thread.0) refl is (number_has threads thread)
  where
    by_first : (same : Bool) → (first.0 == thread.0) ≡ same → cond same true (is_among threads thread) ≡ true
        → (is_among threads thread ≡ true → HasNumber threads thread (number_among threads thread))
        → HasNumber (first ∷ threads) thread (cond same 1 (number_among threads thread + 1))
    by_first true same is rest = record {
      before = [];
      after = threads;
      threads_are = let thread_of : ℕ → ThreadId = λ n. record { 0 = n } in
          ap (λ (n : ℕ). thread_of n ∷ threads) (eqb-true first.0 thread.0 same);
      number_is = refl;
    }
    by_first false same is rest = one_before first (rest is)

has_among : {threads : List ThreadId} {thread : ThreadId} {number : ℕ} → HasNumber threads thread number
    → is_among threads thread ≡ true
has_among {threads} {thread} h =
    subst (λ (all : List ThreadId). is_among all thread ≡ true) (sym h.threads_are) (at h.before)
  where
    itself : (thread.0 == thread.0) ≡ true
    itself = grind arith

    at : (before : List ThreadId) → is_among (before ++ thread ∷ h.after) thread ≡ true
    at [] = rw itself refl
    at (first ∷ before) = by_first (first.0 == thread.0) (at before)
      where
        by_first : (same : Bool) → is_among (before ++ thread ∷ h.after) thread ≡ true
            → cond same true (is_among (before ++ thread ∷ h.after) thread) ≡ true
        by_first true rest = refl
        by_first false rest = rest

-- What an item is still to tell ---------------------------------------------------------------------------------------

-- a stop is told for a `pause` alone, of the thread that it names
abbrev CommandNames : List ThreadId → Command → ThreadId → Type 0
CommandNames threads (Pause arguments) thread = HasNumber threads thread arguments.thread_id
CommandNames threads _ thread = ⊥

abbrev ItemNames : List ThreadId → Item → ThreadId → Type 0
ItemNames threads (a_request request) thread = CommandNames threads request.command thread
ItemNames threads _ thread = ⊥

abbrev CauseNames : List ThreadId → Item → ThreadId → StopCause → Type 0
CauseNames threads item thread by_client = ItemNames threads item thread
CauseNames threads item thread _ = Unit {0}

abbrev EventNames : List ThreadId → Item → Event → Type 0
EventNames threads item (a_stop stopping) = CauseNames threads item stopping.thread stopping.cause
EventNames threads item _ = Unit {0}

abbrev PartNames : List ThreadId → Item → Part → Type 0
PartNames threads item (Part.Tells event) = EventNames threads item event
PartNames threads item _ = Unit {0}

abbrev HandNames : List ThreadId → Option Hand → Type 0
HandNames threads None = Unit {0}
HandNames threads (Some hand) = All (PartNames threads hand.item) hand.parts

-- also among more threads
still_names : (threads more : List ThreadId) (item : Item) (thread : ThreadId) → ItemNames threads item thread
    → ItemNames (threads ++ more) item thread
still_names threads more (a_request request) thread h = by_command request.command h
  where
    by_command : (command : Command) → CommandNames threads command thread
        → CommandNames (threads ++ more) command thread
    by_command (Pause arguments) h = still_numbered more h
    by_command _ h = absurd h
still_names threads more _ thread h = absurd h

part_still : (threads more : List ThreadId) (item : Item) (part : Part) → PartNames threads item part
    → PartNames (threads ++ more) item part
part_still threads more item (Part.Tells (a_stop stopping)) h = by_cause stopping.cause h
  where
    by_cause : (cause : StopCause) → CauseNames threads item stopping.thread cause
        → CauseNames (threads ++ more) item stopping.thread cause
    by_cause by_client h = still_names threads more item stopping.thread h
    by_cause _ h = tt
part_still threads more item (Part.Tells Initialized) h = tt
part_still threads more item (Part.Tells (Logged text)) h = tt
part_still threads more item (Part.Tells (some_news news)) h = tt
part_still threads more item (Part.Tells Terminated) h = tt
part_still threads more item _ h = tt

parts_still : (threads more : List ThreadId) (item : Item) (parts : List Part) → All (PartNames threads item) parts
    → All (PartNames (threads ++ more) item) parts
parts_still threads more item [] h = tt
parts_still threads more item (part ∷ parts) h =
    (part_still threads more item part h.0, parts_still threads more item parts h.1)

-- The tables ----------------------------------------------------------------------------------------------------------

mute_names : (threads : List ThreadId) (item : Item) (part : Part) → is_mute part ≡ true → PartNames threads item part
mute_names threads item (Part.Tells (a_stop stopping)) is = cc
mute_names threads item (Part.Tells Initialized) is = tt
mute_names threads item (Part.Tells (Logged text)) is = tt
mute_names threads item (Part.Tells (some_news news)) is = tt
mute_names threads item (Part.Tells Terminated) is = tt
mute_names threads item _ is = tt

-- what a request with this command tells
row_names : (state : State) (request : Request) (command : Command) → request.command ≡ command
    → All (PartNames state.threads (a_request request)) (row_of command state)
row_names state request (Pause arguments) same =
    by_stop state.stopped (thread_with state.threads arguments.thread_id) refl
  where
    named : (thread : ThreadId) → HasNumber state.threads thread arguments.thread_id
        → CommandNames state.threads request.command thread
    named thread h = subst (λ (command : Command). CommandNames state.threads command thread) (sym same) h

    by_stop : (stopped : Bool) (thread : Option ThreadId) → thread_with state.threads arguments.thread_id ≡ thread
        → All (PartNames state.threads (a_request request)) (pause_parts stopped thread)
    by_stop stopped None is = (tt, tt)
    by_stop true (Some thread) is = (tt, tt)
    by_stop false (Some thread) is =
        (tt, (tt, (tt, (tt, (named thread (thread_has state.threads arguments.thread_id thread is), tt)))))
row_names state request command same = all_pass is_mute (mute_names state.threads (a_request request))
    (row_of command state) (row_mute command state refl)

begun_names : (state : State) (item : Item) → All (PartNames state.threads item) (parts_of state item)
begun_names state (a_request request) =
    of_failure (PartNames state.threads (a_request request)) (λ failure. tt)
    (failure_of (wanting request.command) state) (row_of request.command state)
    (row_names state request request.command refl)
begun_names state item =
    all_pass is_mute (mute_names state.threads item) (parts_of state item) (begun_mute state item refl)

found_names : (threads : List ThreadId) (item : Item) (lookup : Lookup) (result : Result Finding) (state : State)
    (rest : List Part) → All (PartNames threads item) rest
    → All (PartNames threads item) (finished lookup result state ++ rest)
found_names threads item (exception_text thread one) result state rest h = (tt, h)
found_names threads item lookup result state rest h =
    all_passing is_mute (mute_names threads item) (finished lookup result state) rest
    (found_mute lookup result state refl) h

chosen_names : (threads : List ThreadId) (item : Item) (choice : Choice) (state : State) (hand : Hand)
    (rest : List Part) → All (PartNames threads item) rest
    → All (PartNames threads item) (chosen choice state hand ++ rest)
chosen_names threads item (TellsNews below) state hand rest h = by_news state.phase (news_of below state hand.item)
  where
    by_news : (phase : Phase) (news : List News) → All (PartNames threads item) (told_in phase news ++ rest)
    by_news Attached (one ∷ news) = (tt, by_news Attached news)
    by_news _ _ = h
chosen_names threads item (Decides logged stops) state hand rest h =
    of_decided (λ (parts : List Part). All (PartNames threads item) (parts ++ rest)) h (tt, h) (tt, h)
    (λ again thrown stops halt. (tt, (tt, (tt, (by_cause stops halt.cause halt.thread, by_surplus again)))))
    (λ text texts stops. (tt, (tt, h))) state logged stops hand.item
  where
    by_cause : (stops : List Strike) (cause : HaltCause) (thread : ThreadId)
        → PartNames threads item (told_part stops cause thread)
    by_cause stops (came_to at) thread = tt
    by_cause stops (threw one) thread = tt
    by_cause stops has_stepped thread = tt

    by_surplus : (again : Bool) → All (PartNames threads item) (surplus again ++ rest)
    by_surplus false = h
    by_surplus true = (tt, h)
chosen_names threads item choice state hand rest h =
    all_passing is_mute (mute_names threads item) (chosen choice state hand) rest (chosen_mute choice state hand refl) h

given_names : (threads : List ThreadId) (hand : Option Hand) → HandNames threads (option_map given_up hand)
given_names threads None = tt
given_names threads (Some hand) = all_pass is_mute (mute_names threads hand.item)
    (gone_parts (has_response hand.parts) hand.item) (given_mute (has_response hand.parts) hand.item)

-- In runs -------------------------------------------------------------------------------------------------------------

names_front : (threads : List ThreadId) {m : Machine} {hand : Hand} {part : Part} {rest : List Part}
    → HandNames threads m.hand → IsAt m hand part rest → All (PartNames threads hand.item) (part ∷ rest)
names_front threads {m} {hand} h at = subst (λ (parts : List Part). All (PartNames threads hand.item) parts) at.parts
    (subst (λ (held : Option Hand). HandNames threads held) at.in_hand h)

-- behind a message more threads may be known
outcome_names : (outcome : Outcome) (state : State) (item : Item) (rest : List Part)
    → All (PartNames state.threads item) rest → All (PartNames (numbered_by outcome state).threads item) rest
outcome_names (Success (thread_list named)) state item rest h =
    let more = grows state.threads named in
    subst (λ (threads : List ThreadId). All (PartNames threads item) rest) (sym more.1)
    (parts_still state.threads more.0 item rest h)
outcome_names _ state item rest h = h

one_more : (threads : List ThreadId) (thread : ThreadId) (item : Item) (rest : List Part)
    → All (PartNames threads item) rest → All (PartNames (with_thread threads thread) item) rest
one_more threads thread item rest h =
    let named : List NamedThread = record { thread = thread; name = [] } ∷ [] in
    let more = grows threads named in
    subst (λ (threads : List ThreadId). All (PartNames threads item) rest) (sym more.1)
    (parts_still threads more.0 item rest h)

event_names : (event : Event) (state : State) (item : Item) (rest : List Part)
    → All (PartNames state.threads item) rest → All (PartNames (after_event event state).threads item) rest
event_names (some_news (thread_changed started thread)) state item rest h = one_more state.threads thread item rest h
event_names (a_stop stopping) state item rest h = one_more state.threads stopping.thread item rest h
event_names _ state item rest h = h

replied_names : (threads : List ThreadId) (command : TargetCommand) (replied : Replied) (hand : Option Hand)
    → HandNames threads hand → HandNames threads (option_map (hand_replied command replied) hand)
replied_names threads command replied None h = tt
replied_names threads (a_question question) replied (Some hand) h = h
replied_names threads (an_effect effect) replied (Some hand) h = h

asked_names : (threads : List ThreadId) (want : Want) (hand : Option Hand) → HandNames threads hand
    → HandNames threads (option_map (asked_hand want) hand)
asked_names threads want None h = tt
asked_names threads want (Some hand) h = h

names_on : (m next : Machine) (said : Option Message) → HandNames m.state.threads m.hand → Moves m said next
    → HandNames next.state.threads next.hand
names_on m next said h (Moves.begins picked free none is) = begun_names m.state picked.item
names_on m next said h (Moves.drops free is none) = tt
names_on m next said h (Moves.responds {hand} {rest} {outcome = outcome} free at is) =
    outcome_names outcome m.state hand.item rest (names_front m.state.threads h at).1
names_on m next said h (Moves.finds {hand} {rest} {lookup} found free at needs done) =
    found_names m.state.threads hand.item lookup (result_of found) m.state rest (names_front m.state.threads h at).1
names_on m next said h (Moves.passes_over free at why) = (names_front m.state.threads h at).1
names_on m next said h (Moves.tells {hand} {rest} {event} free at) =
    event_names event m.state hand.item rest (names_front m.state.threads h at).1
names_on m next said h (Moves.sends free at near) = (names_front m.state.threads h at).1
names_on m next said h (Moves.updates free at is near) = names_front m.state.threads h at
names_on m next said h (Moves.notes {hand} {note} {rest} free at) =
    subst (λ (threads : List ThreadId). All (PartNames threads hand.item) rest) (sym (noted_threads note m.state))
    (names_front m.state.threads h at).1
names_on m next said h (Moves.unfolds {hand} {choice} {rest} free at) =
    chosen_names m.state.threads hand.item choice m.state hand rest (names_front m.state.threads h at).1
names_on m next said h (Moves.queues free is) = subst (λ (held : Option Hand). HandNames m.state.threads held) is h
names_on m next said h (Moves.asks {want = want} free room is are) = asked_names m.state.threads want m.hand h
names_on m next said h (Moves.answers {question} {replied} is waits reply lasts) =
    subst (λ (threads : List ThreadId). HandNames threads (option_map (hand_replied (a_question question) replied)
    m.hand))
    (sym (replied_threads (a_question question) replied m.state))
    (replied_names m.state.threads (a_question question) replied m.hand h)
names_on m next said h (Moves.replies {effect} {replied} is flies reply lasts) =
    subst (λ (threads : List ThreadId). HandNames threads (option_map (hand_replied (an_effect effect) replied) m.hand))
    (sym (replied_threads (an_effect effect) replied m.state))
    (replied_names m.state.threads (an_effect effect) replied m.hand h)
names_on m next said h (Moves.loses late near why) = given_names m.state.threads m.hand
names_on m next said h _ = h

always_names : {messages : List Message} {m : Machine} → Run messages m → HandNames m.state.threads m.hand
always_names r = by_moves {Holds = λ (messages : List Message) (m : Machine). HandNames m.state.threads m.hand}
    (record {
      starts = tt;
      moves = λ messages m next said h moved. names_on m next said h moved;
      queues = λ messages m hand queue may h. h;
    }) r

-- The law -------------------------------------------------------------------------------------------------------------

-- the stop is told by the number that the request names
named_stop : {messages : List Message} {m : Machine} {hand : Hand} {thread : ThreadId} {stop : Stopped}
    → m.hand ≡ Some hand → stop.thread ≡ number_among (with_thread m.state.threads thread) thread
    → ((number : ℕ) → HasNumber m.state.threads thread number
    → HasNumber m.state.threads thread (number_among m.state.threads thread)
    → number_among m.state.threads thread ≡ number) → (item : Item) → hand.item ≡ item
    → ((request : Request) → hand.item ≡ a_request request → IsToldLast messages request)
    → ItemNames m.state.threads item thread → IsPaused messages m stop
named_stop {messages} {m} {hand} {thread} {stop} held told once (a_request request) item last h =
    by_command request.command refl h
  where
    by_command : (command : Command) → request.command ≡ command → CommandNames m.state.threads command thread
        → IsPaused messages m stop
    by_command (Pause arguments) same h =
        let there : is_among m.state.threads thread ≡ true = has_among h in
        let alike : with_thread m.state.threads thread ≡ m.state.threads = rw there refl in
        let is = told ∙ ap (λ (threads : List ThreadId). number_among threads thread) alike
        ∙ once arguments.thread_id h (number_has m.state.threads thread there) in record {
          hand = hand;
          request = request;
          arguments = arguments;
          thread = thread;
          is_held = held;
          is_request = item;
          is_pause = same;
          answered = last request item;
          is_named = is;
          is_known = subst (λ (number : ℕ). HasNumber m.state.threads thread number) (sym is) h;
        }
    by_command _ same h = absurd h
named_stop held told once _ item last h = absurd h

paused_at : {messages : List Message} (m next : Machine) (said : Option Message) (stop : Stopped) → Run messages m
    → stop.reason ≡ reasons.Pause → said ≡ Some (Message.tells (an_event (events.Stopped stop))) → Moves m said next
    → IsPaused messages m stop
paused_at m next said stop r reason is (Moves.tells {event = some_news (entry_verified entry)} free at) = cc
paused_at {messages} m next said stop r reason is (Moves.tells {hand} {event = a_stop stopping} free at) =
    by_cause stopping.cause refl (names_front m.state.threads (always_names r) at).0
  where
    reason_is : stop.reason ≡ reason_told stopping.cause (after_event (a_stop stopping) m.state)
    reason_is = cc

    thread_is : stop.thread ≡ number_among (with_thread m.state.threads stopping.thread) stopping.thread
    thread_is = cc

    once : (number : ℕ) → HasNumber m.state.threads stopping.thread number
        → HasNumber m.state.threads stopping.thread (number_among m.state.threads stopping.thread)
        → number_among m.state.threads stopping.thread ≡ number
    once number h told = (is_known messages m r).once.one_number told h refl

    no_hit : (line : Bool) (lines functions : List ℕ)
        → cond line (reasons.Breakpoint lines) (reasons.FunctionBreakpoint functions) ≡ reasons.Pause
        → IsPaused messages m stop
    no_hit true lines functions is = cc
    no_hit false lines functions is = cc

    other : (cause : StopCause) → stopping.cause ≡ cause
        → reason_told cause (after_event (a_stop stopping) m.state) ≡ reasons.Pause
    other why same = sym (ap (λ (cause : StopCause). reason_told cause (after_event (a_stop stopping) m.state)) same)
        ∙ sym reason_is ∙ reason

    by_cause : (cause : StopCause) → stopping.cause ≡ cause → CauseNames m.state.threads hand.item stopping.thread cause
        → IsPaused messages m stop
    by_cause by_client same h =
        named_stop at.in_hand thread_is once hand.item refl
        (λ request item. told_last stopping request r at same item) h
    by_cause (Hit entries) same h =
        no_hit (list_any (λ entry. entry.line) entries) (map (λ entry. entry.id) entries)
        (map (λ entry. entry.id) entries) (other (Hit entries) same)
    by_cause (by_exception text) same h =
        let no : reasons.Exception text ≡ reasons.Pause = other (by_exception text) same in cc
    by_cause by_step same h = let no : reasons.Step ≡ reasons.Pause = other by_step same in cc
paused_at m next said stop r reason is (Moves.loses late near Loses.by_end) = cc
paused_at m next said stop r reason is _ = cc

pub pauses : (messages : List Message) (m : Machine) (stop : Stopped) → Run messages m
    → (due false m).act ≡ Act.Tells (an_event (events.Stopped stop)) → stop.reason ≡ reasons.Pause
    → IsPaused messages m stop
pauses messages m stop r is reason =
    paused_at m (due false m).next _ stop r reason refl (moved (Allows.acts (ap said is)))
