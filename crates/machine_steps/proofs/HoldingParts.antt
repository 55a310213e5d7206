-- What an item in hand does with suspensions of the target: it undoes only what is held, it begins a stop only where none
-- is in hand, and it decides on a composite's suspension once, at its end.
use Rattle.std.proofs.Common.{◌≡◌, Bool, true, false, cond, not, List, [], ◌∷◌, ◌++◌, Option, Some, None, refl, subst}
use Rattle.std.proofs.Common.{◌∙◌, option_map, arith, ℕ}
use Rattle.jdwp_events.specs.declared.kind.Policy.{Policy}
use Rattle.machine_model.specs.Composites.{composite_parts, has_death}
use Rattle.machine_model.specs.Due.{asked_hand, entry_by}
use Rattle.machine_model.specs.Knowing.{stopped_behind, stopped_told}
use Rattle.machine_model.specs.Lookups.{finished}
use Rattle.machine_model.specs.Outcomes.{result_of}
use Rattle.machine_model.specs.Plans.{Result}
use Rattle.machine_model.specs.Replying.{given_up, hand_replied, replied_to}
use Rattle.machine_model.specs.Rows.{written_by, chosen, gone_parts, has_response, leaves, news_of, noted, parts_of}
use Rattle.machine_model.specs.Rows.{request_parts, refused_with, stepped_by}
use Rattle.machine_model.specs.Runs.{Message, Run}
use Rattle.machine_model.specs.State.{Hand, Machine, State, is_attached, is_empty, is_gone}
use Rattle.machine_model.specs.Stops.{decided, decided_by, events_in, has_start, hits_in, judged, logged_first}
use Rattle.machine_model.specs.Stops.{stop_among, strikes_in, surplus, thrown_in, told_part}
use Rattle.machine_model.specs.Telling.{after_event, attached_from, numbered_by}
use Rattle.machine_model.proofs.Bools.{first_fails, second_holds}
use Rattle.machine_steps.specs.Names.{Writes, Written, variable_write, Choice, Command, Decides, Deed, Dispose}
use Rattle.machine_steps.specs.Names.{EntryHeld, Event, Exit, Finding, Gone, Hit, Initialized, Item, Leaves, Lookup}
use Rattle.machine_steps.specs.Names.{Note, Outcome, Part, Phase, Replied, Resume, StopCause, Suspend, Suspension}
use Rattle.machine_steps.specs.Names.{TargetCommand, TellsNews, Terminated, ThreadId, Want, a_composite, a_question}
use Rattle.machine_steps.specs.Names.{a_raw, a_request, a_stop, an_effect, by_client, of_composite, of_entry, of_stop}
use Rattle.machine_steps.specs.Names.{some_news, target_end, Halt, Thrown, by_step, HaltCause, Stepped, by_exception}
use Rattle.machine_steps.specs.Names.{Attached, Fresh, Judges, Logged, Strike, breakpoint_hits, exception_text}
use Rattle.machine_steps.proofs.Stepping.{IsAt, Moves, Skips, by_moves, by_runs}
use Rattle.machine_steps.proofs.Tables.{free, free_once, told_alike}
use Rattle.machine_steps.proofs.Testing.{Passed, same_numbered, same_replied, tested, whole}

-- What a part needs, and what it leaves -------------------------------------------------------------------------------

abbrev phase_told : Event → Phase → Phase
phase_told Initialized phase = attached_from phase
phase_told (some_news news) phase = phase
phase_told (a_stop stopping) phase = phase
phase_told (Logged text) phase = phase
phase_told Terminated phase = Gone

abbrev phase_behind : Part → Phase → Phase
phase_behind (Part.Tells event) phase = phase_told event phase
phase_behind _ phase = phase

abbrev entry_told : Event → Bool → Bool
entry_told Initialized entry = entry
entry_told (some_news news) entry = entry
entry_told (a_stop stopping) entry = entry
entry_told (Logged text) entry = entry
entry_told Terminated entry = false

abbrev entry_noted : Note → Bool → Bool
entry_noted EntryHeld entry = true
entry_noted _ entry = entry

abbrev entry_behind : Part → Bool → Bool
entry_behind (Part.Tells event) entry = entry_told event entry
entry_behind (Part.Sends deed) entry = entry_by deed entry
entry_behind (Part.Notes note) entry = entry_noted note entry
entry_behind _ entry = entry

-- the suspension of the composite in hand is undone, and nothing else is done
abbrev pub only_resumes : List Part → Bool
only_resumes (Part.Sends (Resume of_composite) ∷ []) = true
only_resumes _ = false

-- a hit that is told in a stop is a surplus, and a pause is told in its stop
abbrev pub may_stop : StopCause → Bool → List Part → Bool
may_stop (Hit entries) stopped rest = cond stopped (only_resumes rest) true
may_stop (by_exception text) stopped rest = cond stopped (only_resumes rest) true
may_stop by_step stopped rest = cond stopped (only_resumes rest) true
may_stop by_client stopped rest = stopped

-- behind what is logged it is decided on the suspension
abbrev pub decides_next : List Part → Bool
decides_next (Part.Unfolds (Decides logged stops) ∷ rest) = true
decides_next _ = false

abbrev may_tell_so : Event → Bool → List Part → Bool
may_tell_so Initialized stopped rest = true
may_tell_so (some_news news) stopped rest = true
may_tell_so (a_stop stopping) stopped rest = may_stop stopping.cause stopped rest
may_tell_so (Logged text) stopped rest = decides_next rest
may_tell_so Terminated stopped rest = true

abbrev may_undo : Suspension → Bool → Bool → Bool
may_undo of_composite stopped entry = true
may_undo of_entry stopped entry = entry
may_undo of_stop stopped entry = stopped

abbrev pub may_do_so : Deed → Bool → Bool → Bool
may_do_so Suspend stopped entry = not stopped
may_do_so (Resume suspension) stopped entry = may_undo suspension stopped entry
may_do_so Dispose stopped entry = true
may_do_so Exit stopped entry = true
may_do_so (Writes write) stopped entry = true

abbrev may_note : Note → Bool → Bool
may_note EntryHeld entry = not entry
may_note _ entry = true

abbrev may_choose : Choice → Phase → Bool → List Part → Bool
may_choose (TellsNews below) phase stopped rest = true
may_choose Judges phase stopped rest = cond (is_attached phase) (is_empty rest) false
may_choose (Decides logged stops) phase stopped rest = cond (is_attached phase) (is_empty rest) false
may_choose Stepped phase stopped rest = cond stopped (is_empty rest) false
may_choose (Written seen) phase stopped rest = true
may_choose (Leaves exits) phase stopped rest = true

-- what was thrown is told as a hit is; by the breakpoints that threads came to it is decided
abbrev may_look : Lookup → Phase → Bool → List Part → Bool
may_look (exception_text thread object) phase stopped rest = cond stopped (only_resumes rest) true
may_look (breakpoint_hits strikes) phase stopped rest = cond (is_attached phase) (is_empty rest) false
may_look _ phase stopped rest = true

abbrev may_part : Phase → Bool → Bool → Part → List Part → Bool
may_part phase stopped entry (Part.Tells event) rest = may_tell_so event stopped rest
may_part phase stopped entry (Part.Sends deed) rest = may_do_so deed stopped entry
may_part phase stopped entry (Part.Notes note) rest = may_note note entry
may_part phase stopped entry (Part.Unfolds choice) rest = may_choose choice phase stopped rest
may_part phase stopped entry (Part.Looks lookup) rest = may_look lookup phase stopped rest
may_part phase stopped entry _ rest = true

-- each part may be done where the parts before it were
abbrev pub may_all : Phase → Bool → Bool → List Part → Bool
may_all phase stopped entry [] = true
may_all phase stopped entry (part ∷ parts) = cond (may_part phase stopped entry part parts)
    (may_all (phase_behind part phase) (stopped_behind part stopped) (entry_behind part entry) parts) false

abbrev hand_may : State → Option Hand → Bool
hand_may state None = true
hand_may state (Some hand) = may_all state.phase state.stopped state.entry hand.parts

abbrev pub IsHolding : Machine → Type 0
IsHolding m = hand_may m.state m.hand ≡ true

pub may_front : {m : Machine} {hand : Hand} {part : Part} {rest : List Part} → IsHolding m → IsAt m hand part rest
    → may_all m.state.phase m.state.stopped m.state.entry (part ∷ rest) ≡ true
may_front {m} h at = subst (λ (parts : List Part). may_all m.state.phase m.state.stopped m.state.entry parts ≡ true)
    at.parts (subst (λ (held : Option Hand). hand_may m.state held ≡ true) at.in_hand h)

-- The tables ----------------------------------------------------------------------------------------------------------

row_may : (state : State) (command : Command)
    → may_all state.phase state.stopped state.entry (request_parts command state) ≡ true
row_may state command = grind arith

begun_may : (state : State) (item : Item) → may_all state.phase state.stopped state.entry (parts_of state item) ≡ true
begun_may state (a_request request) = row_may state request.command
begun_may state target_end = grind arith
begun_may state (a_composite at composite) =
    by_phase state.phase (has_death composite.events) composite.policy state.stopped state.entry
  where
    by_phase : (phase : Phase) (dies : Bool) (policy : Policy) (stopped entry : Bool)
        → may_all phase stopped entry (composite_parts phase dies policy at state.next_entry) ≡ true
    by_phase phase dies policy stopped entry = grind arith
begun_may state (a_raw at body) = refl

found_may : (phase : Phase) (stopped entry : Bool) (lookup : Lookup) (result : Result Finding) (state : State)
    (rest : List Part)
    → may_all phase stopped entry (finished lookup result state ++ rest)
    ≡ may_all phase stopped entry (Part.Looks lookup ∷ rest)
found_may phase stopped entry (variable_write thing name text) result state rest = grind arith
found_may phase stopped entry (exception_text thread object) result state rest = by_stop stopped
  where
    by_stop : (stopped : Bool) → may_all phase stopped entry (finished (exception_text thread object) result state ++ rest)
        ≡ may_all phase stopped entry (Part.Looks (exception_text thread object) ∷ rest)
    by_stop stopped = grind arith
found_may phase stopped entry _ result state rest = refl

-- What is decided fits: the entry is held once, and a stop is told by a hit.
decided_may : (state : State) (logged : List (List ℕ)) (stops : List Strike) (item : Item)
    → may_all state.phase state.stopped state.entry (decided state logged stops item ++ []) ≡ true
decided_may state logged stops item = by_phase state.phase logged
  where
    by_halt : (phase : Phase) (stopped entry : Bool) (cause : HaltCause) (thread : ThreadId)
        → may_all phase stopped entry (told_part stops cause thread ∷ surplus stopped) ≡ true
    by_halt phase stopped entry cause thread = grind arith

    by_stop : (phase : Phase) (stopped entry configured starts : Bool) (thrown : List Thrown) (stop : Option Halt)
        → may_all phase stopped entry
        (decided_by stopped (cond configured false (cond entry false starts)) thrown stops stop ++ []) ≡ true
    by_stop phase stopped entry true starts thrown None = refl
    by_stop phase stopped true false starts thrown None = refl
    by_stop phase stopped false false true thrown None = refl
    by_stop phase stopped false false false thrown None = refl
    by_stop phase true entry configured starts thrown (Some halt) = by_halt phase true entry halt.cause halt.thread
    by_stop phase false entry configured starts thrown (Some halt) = by_halt phase false entry halt.cause halt.thread

    by_phase : (phase : Phase) (logged : List (List ℕ)) → may_all phase state.stopped state.entry
        (cond (is_attached phase) (logged_first state logged stops (events_in item)) [] ++ []) ≡ true
    by_phase Fresh logged = refl
    by_phase Gone logged = refl
    by_phase Attached [] = by_stop Attached state.stopped state.entry state.configured (has_start (events_in item))
        (thrown_in state.wishes (events_in item)) (stop_among stops (hits_in state.wishes (events_in item)))
    by_phase Attached (text ∷ texts) = refl

-- What is judged fits, too.
judged_may : (state : State) (item : Item)
    → may_all state.phase state.stopped state.entry (judged state item ++ []) ≡ true
judged_may state item = by_phase state.phase
  where
    by_phase : (phase : Phase) → may_all phase state.stopped state.entry (cond (is_attached phase)
        (Part.Looks (breakpoint_hits (strikes_in state.wishes (events_in item))) ∷ []) [] ++ []) ≡ true
    by_phase Fresh = refl
    by_phase Gone = refl
    by_phase Attached = refl

-- nothing stands behind
none_behind : (attached may other : Bool) → cond (cond attached false false) may false ≡ true → other ≡ true
none_behind true may other is = cc
none_behind false may other is = cc

chosen_may : (choice : Choice) (state : State) (hand : Hand) (rest : List Part)
    → may_all state.phase state.stopped state.entry (Part.Unfolds choice ∷ rest) ≡ true
    → may_all state.phase state.stopped state.entry (chosen choice state hand ++ rest) ≡ true
chosen_may (TellsNews below) state hand rest is =
    told_alike (may_all state.phase state.stopped state.entry) (λ news parts. refl) state.phase
    (news_of below state hand.item) rest ∙ is
chosen_may (Leaves exits) state hand rest is = by_phase state.phase exits ∙ is
  where
    by_phase : (phase : Phase) (exits : Bool) → may_all state.phase state.stopped state.entry (leaves phase exits ++ rest)
        ≡ may_all state.phase state.stopped state.entry rest
    by_phase phase exits = grind arith
chosen_may Judges state hand [] is = judged_may state hand.item
chosen_may Judges state hand (part ∷ rest) is = none_behind (is_attached state.phase) _ _ is
chosen_may (Decides logged stops) state hand [] is = decided_may state logged stops hand.item
chosen_may (Decides logged stops) state hand (part ∷ rest) is = none_behind (is_attached state.phase) _ _ is
chosen_may (Written seen) state hand rest is = by_code (refused_with hand.effect)
  where
    by_code : (code : Option ℕ) → may_all state.phase state.stopped state.entry (written_by seen code ++ rest) ≡ true
    by_code code = grind arith
chosen_may Stepped state hand rest is = by_rest rest state.stopped (refused_with hand.effect) is
  where
    by_rest : (rest : List Part) (stopped : Bool) (code : Option ℕ)
        → may_all state.phase stopped state.entry (Part.Unfolds Stepped ∷ rest) ≡ true
        → may_all state.phase stopped state.entry (stepped_by code ++ rest) ≡ true
    by_rest rest stopped code is = grind (arith, is)

-- In runs -------------------------------------------------------------------------------------------------------------

tail_may : (phase : Phase) (stopped entry : Bool) (part : Part) (rest : List Part)
    → may_all phase stopped entry (part ∷ rest) ≡ true
    → may_all (phase_behind part phase) (stopped_behind part stopped) (entry_behind part entry) rest ≡ true
tail_may phase stopped entry part rest is = second_holds (may_part phase stopped entry part rest) _ is

skipped_may : {m : Machine} {hand : Hand} {part : Part} (rest : List Part) → Skips m hand part
    → may_all m.state.phase m.state.stopped m.state.entry (part ∷ rest) ≡ true
    → may_all m.state.phase m.state.stopped m.state.entry rest ≡ true
skipped_may rest why h = grind (arith, why, h)

pub same_stop : (command : TargetCommand) (replied : Replied) (state : State)
    → (replied_to command replied state).stopped ≡ state.stopped
same_stop command replied state = grind arith

pub same_entry : (command : TargetCommand) (replied : Replied) (state : State)
    → (replied_to command replied state).entry ≡ state.entry
same_entry command replied state = grind arith

pub numbered_stop : (outcome : Outcome) (state : State) → (numbered_by outcome state).stopped ≡ state.stopped
numbered_stop outcome state = grind arith

pub numbered_entry : (outcome : Outcome) (state : State) → (numbered_by outcome state).entry ≡ state.entry
numbered_entry outcome state = grind arith

event_may_all : (event : Event) (state : State) (rest : List Part)
    → may_all (phase_told event state.phase) (stopped_told event state.stopped) (entry_told event state.entry) rest
    ≡ true
    → may_all (after_event event state).phase (after_event event state).stopped (after_event event state).entry rest
    ≡ true
event_may_all event state rest is = grind (arith, is)

note_may_all : (note : Note) (state : State) (rest : List Part)
    → may_all state.phase state.stopped (entry_noted note state.entry) rest ≡ true
    → may_all (noted note state).phase (noted note state).stopped (noted note state).entry rest ≡ true
note_may_all note state rest is = grind (arith, is)

replied_may : (state : State) (command : TargetCommand) (replied : Replied) (hand : Option Hand)
    → hand_may state (option_map (hand_replied command replied) hand) ≡ hand_may state hand
replied_may state command replied hand = grind arith

asked_may : (state : State) (want : Want) (hand : Option Hand)
    → hand_may state (option_map (asked_hand want) hand) ≡ hand_may state hand
asked_may state want hand = grind arith

-- of what is known only these are looked at
same_may : (state now : State) (hand : Option Hand) → now.phase ≡ state.phase → now.stopped ≡ state.stopped
    → now.entry ≡ state.entry → hand_may now hand ≡ hand_may state hand
same_may state now hand phase stopped entry = grind (arith, phase, stopped, entry)

gone_may : (stopped entry responds : Bool) (item : Item) → may_all Gone stopped entry (gone_parts responds item) ≡ true
gone_may stopped entry responds item = grind arith

holding_on : (m next : Machine) (said : Option Message) → IsHolding m → Moves m said next → IsHolding next
holding_on m next said h (Moves.begins picked free none is) = begun_may m.state picked.item
holding_on m next said h (Moves.drops free is none) = refl
holding_on m next said h (Moves.responds {hand} {rest} {outcome = outcome} free at is) =
    same_may m.state (numbered_by outcome m.state) (Some (record hand { parts = rest })) (same_numbered outcome m.state)
    (numbered_stop outcome m.state) (numbered_entry outcome m.state) ∙ may_front h at
holding_on m next said h (Moves.finds {rest = rest} {lookup} found free at needs done) =
    found_may m.state.phase m.state.stopped m.state.entry lookup (result_of found) m.state rest ∙ may_front h at
holding_on m next said h (Moves.passes_over {rest = rest} free at why) = skipped_may rest why (may_front h at)
holding_on m next said h (Moves.tells {rest = rest} {event} free at) =
    event_may_all event m.state rest
    (tail_may m.state.phase m.state.stopped m.state.entry (Part.Tells event) rest (may_front h at))
holding_on m next said h (Moves.sends {rest = rest} {deed} free at near) =
    tail_may m.state.phase m.state.stopped m.state.entry (Part.Sends deed) rest (may_front h at)
holding_on m next said h (Moves.updates free at is near) = may_front h at
holding_on m next said h (Moves.greets free at is near) =
    same_may m.state (record m.state { greeting_sent = true }) m.hand refl refl refl ∙ h
holding_on m next said h (Moves.notes {note = note} {rest} free at) =
    note_may_all note m.state rest
    (tail_may m.state.phase m.state.stopped m.state.entry (Part.Notes note) rest (may_front h at))
holding_on m next said h (Moves.unfolds {hand} {choice} {rest} free at) =
    chosen_may choice m.state hand rest (may_front h at)
holding_on m next said h (Moves.queues free is) =
    subst (λ (hand : Option Hand). hand_may m.state hand ≡ true) is h
holding_on m next said h (Moves.asks {want = want} free room is are) = asked_may m.state want m.hand ∙ h
holding_on m next said h (Moves.greeted read is) =
    same_may m.state (record m.state { greeting_heard = true }) m.hand refl refl refl ∙ h
holding_on m next said h (Moves.answers {question} {replied} is waits reply stays) =
    same_may m.state (replied_to (a_question question) replied m.state) (option_map (hand_replied (a_question question) replied) m.hand)
    (same_replied (a_question question) replied m.state) (same_stop (a_question question) replied m.state)
    (same_entry (a_question question) replied m.state)
    ∙ replied_may m.state (a_question question) replied m.hand ∙ h
holding_on m next said h (Moves.replies {effect} {replied} is flies reply stays) =
    same_may m.state (replied_to (an_effect effect) replied m.state) (option_map (hand_replied (an_effect effect) replied) m.hand)
    (same_replied (an_effect effect) replied m.state) (same_stop (an_effect effect) replied m.state)
    (same_entry (an_effect effect) replied m.state)
    ∙ replied_may m.state (an_effect effect) replied m.hand ∙ h
holding_on m next said h (Moves.loses late near why) = given_may m.hand
  where
    given_may : (hand : Option Hand) → hand_may next.state (option_map given_up hand) ≡ true
    given_may None = refl
    given_may (Some hand) = gone_may false false (has_response hand.parts) hand.item
holding_on m next said h _ = h

pub holding : {messages : List Message} {m : Machine} → Run messages m → IsHolding m
holding r = by_moves {Holds = λ (messages : List Message) (m : Machine). IsHolding m}
    (record {
      starts = refl;
      moves = λ messages m next said h moved. holding_on m next said h moved;
      queues = λ messages m hand queue may h. h;
    }) r

-- In a target that is gone --------------------------------------------------------------------------------------------

abbrev nothing_held : Bool → Bool → Bool → Bool
nothing_held gone stopped entry = cond gone (cond stopped false (not entry)) true

-- no stop is in hand, and no entry held
abbrev pub IsLost : Machine → Type 0
IsLost m = nothing_held (is_gone m.state.phase) m.state.stopped m.state.entry ≡ true

pub lost_flags : (m : Machine) → IsLost m → is_gone m.state.phase ≡ true
    → (m.state.stopped ≡ false) × (m.state.entry ≡ false)
lost_flags m h gone = by_flags (is_gone m.state.phase) m.state.stopped m.state.entry h gone
  where
    by_flags : (gone stopped entry : Bool) → nothing_held gone stopped entry ≡ true → gone ≡ true
        → (stopped ≡ false) × (entry ≡ false)
    by_flags true false false h is = (refl, refl)
    by_flags _ _ _ h is = cc

lost_on : (m next : Machine) (said : Option Message) → Passed free_once m → IsLost m → Moves m said next → IsLost next
lost_on m next said f h (Moves.responds {outcome = outcome} free at is) =
    rw (same_numbered outcome m.state, numbered_stop outcome m.state, numbered_entry outcome m.state) h
lost_on m next said f h (Moves.tells {event = Initialized} free at) = by_phase m.state.phase h
  where
    by_phase : (phase : Phase) → nothing_held (is_gone phase) m.state.stopped m.state.entry ≡ true
        → nothing_held (is_gone (attached_from phase)) m.state.stopped m.state.entry ≡ true
    by_phase phase h = grind (arith, h)
lost_on m next said f h (Moves.tells {event = a_stop stopping} free at) =
    rw (first_fails (is_gone m.state.phase) _ (whole free_once f at)) refl
lost_on m next said f h (Moves.tells {event = Terminated} free at) = refl
lost_on m next said f h (Moves.sends free at near) = rw near refl
lost_on m next said f h (Moves.notes {note = EntryHeld} free at) =
    rw (first_fails (is_gone m.state.phase) _ (whole free_once f at)) refl
lost_on m next said f h (Moves.answers {question} {replied} is waits reply stays) =
    rw (
      same_replied (a_question question) replied m.state,
      same_stop (a_question question) replied m.state,
      same_entry (a_question question) replied m.state,
    ) h
lost_on m next said f h (Moves.replies {effect} {replied} is flies reply stays) =
    rw (
      same_replied (an_effect effect) replied m.state,
      same_stop (an_effect effect) replied m.state,
      same_entry (an_effect effect) replied m.state,
    ) h
lost_on m next said f h (Moves.loses late near why) = refl
lost_on m next said f h _ = h

pub lost_held : {messages : List Message} {m : Machine} → Run messages m → IsLost m
lost_held r = by_runs {Holds = λ (messages : List Message) (m : Machine). IsLost m} (record {
  starts = refl;
  moves = λ messages m next said before h moved after. lost_on m next said (tested free before) h moved;
  queues = λ messages m hand queue before may h. h;
}) r
