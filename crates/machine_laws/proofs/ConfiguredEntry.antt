-- The target's entry isn't held any more once the client has configured all, as each move keeps it.
use Rattle.std.proofs.Common.{◌≡◌, ℕ, Bool, true, false, cond, not, List, [], ◌∷◌, ◌++◌, Option, Some, None, refl}
use Rattle.std.proofs.Common.{subst, ◌∙◌, option_map, arith}
use Rattle.machine_model.specs.Due.{asked_hand, entry_by}
use Rattle.machine_model.specs.Lookups.{finished}
use Rattle.machine_model.specs.Outcomes.{result_of}
use Rattle.machine_model.specs.Plans.{Result}
use Rattle.machine_model.specs.Replying.{given_up, hand_replied, replied_to}
use Rattle.machine_model.specs.Rows.{chosen, failure_of, gone_parts, has_response, news_of, noted, parts_by, parts_of}
use Rattle.machine_model.specs.Rows.{refused_with, row_of, stepped_by, wanting}
use Rattle.machine_model.specs.Runs.{Message, Run}
use Rattle.machine_model.specs.State.{Hand, Machine, State, is_attached, is_empty}
use Rattle.machine_model.specs.Stops.{decided, decided_by, events_in, has_start, hits_in, logged_first, stop_among}
use Rattle.machine_model.specs.Stops.{surplus, thrown_in, told_part}
use Rattle.machine_model.specs.Telling.{after_event, numbered_by, outcome_told}
use Rattle.machine_model.proofs.Bools.{first_holds, second_holds}
use Rattle.machine_laws.specs.ClientStops.{configured_by, configures}
use Rattle.machine_steps.specs.Names.{Choice, Command, Configured, Decides, Deed, EntryHeld, Event, Failed, Failure}
use Rattle.machine_steps.specs.Names.{Judges, Logged, Strike, breakpoint_hits}
use Rattle.machine_steps.specs.Names.{Finding, Halt, HaltCause, Initialized, Item, Lookup, Note, Outcome, Part, Replied}
use Rattle.machine_steps.specs.Names.{Request, Stepped, Success, TargetCommand, TellsNews, Terminated, ThreadId}
use Rattle.machine_steps.specs.Names.{Thrown, Want, Written, a_question, a_request, a_response, a_stop, an_effect}
use Rattle.machine_steps.specs.Names.{some_news}
use Rattle.machine_steps.proofs.HoldingParts.{numbered_entry, same_entry}
use Rattle.machine_steps.proofs.Stepping.{IsAt, Moves, Skips, by_moves}
use Rattle.machine_steps.proofs.Tables.{of_judged, told_alike}

-- What is left of an item ---------------------------------------------------------------------------------------------

-- it is a `configurationDone`
abbrev configuring : Item → Bool
configuring (a_request request) = configures request.command
configuring _ = false

abbrev pub succeeds : Outcome → Bool
succeeds (Success body) = true
succeeds (Failed failure) = false

-- it is written down behind a part that the client has configured all
abbrev noted_behind : Note → Bool → Bool
noted_behind Configured known = true
noted_behind _ known = known

abbrev known_behind : Part → Bool → Bool
known_behind (Part.Notes note) known = noted_behind note known
known_behind _ known = known

-- the entry is held behind a part
abbrev entry_told : Event → Bool → Bool
entry_told Initialized held = held
entry_told (some_news news) held = held
entry_told (a_stop stopping) held = held
entry_told (Logged text) held = held
entry_told Terminated held = false

abbrev entry_noted : Note → Bool → Bool
entry_noted EntryHeld held = true
entry_noted _ held = held

abbrev held_behind : Part → Bool → Bool
held_behind (Part.Tells event) held = entry_told event held
held_behind (Part.Sends deed) held = entry_by deed held
held_behind (Part.Notes note) held = entry_noted note held
held_behind _ held = held

-- no entry is held once that is written down, and it is written down where none is held
abbrev may_note : Bool → Bool → Note → Bool
may_note known held EntryHeld = not known
may_note known held Configured = not held
may_note known held _ = true

abbrev may_stand : Bool → Bool → Bool → Part → List Part → Bool
may_stand aim known held (Part.Responds outcome) rest = cond aim (cond (succeeds outcome) known true) true
may_stand aim known held (Part.Notes note) rest = may_note known held note
may_stand aim known held (Part.Looks (breakpoint_hits strikes)) rest = cond aim false (is_empty rest)
may_stand aim known held (Part.Looks lookup) rest = not aim
may_stand aim known held (Part.Unfolds Judges) rest = cond aim false (is_empty rest)
may_stand aim known held (Part.Unfolds (Decides logged stops)) rest = cond aim false (is_empty rest)
may_stand aim known held (Part.Unfolds Stepped) rest = not aim
may_stand aim known held (Part.Unfolds (Written seen)) rest = not aim
may_stand aim known held _ rest = true

abbrev fits : Bool → Bool → Bool → List Part → Bool
fits aim known held [] = true
fits aim known held (part ∷ parts) = cond (may_stand aim known held part parts)
    (fits aim (known_behind part known) (held_behind part held) parts) false

abbrev hand_fits : State → Option Hand → Bool
hand_fits state None = true
hand_fits state (Some hand) = fits (configuring hand.item) state.configured state.entry hand.parts

-- The tables ----------------------------------------------------------------------------------------------------------

row_fits : (failure : Option Failure) (command : Command) (state : State) (known : Bool)
    → fits (configures command) known state.entry (parts_by failure (row_of command state)) ≡ true
row_fits failure command state known = grind arith

begun_fits : (state : State) (item : Item)
    → fits (configuring item) state.configured state.entry (parts_of state item) ≡ true
begun_fits state (a_request request) =
    row_fits (failure_of (wanting request.command) state) request.command state state.configured
begun_fits state _ = grind arith

found_fits : (aim known held : Bool) (lookup : Lookup) (result : Result Finding) (state : State) (rest : List Part)
    → fits aim known held (Part.Looks lookup ∷ rest) ≡ true
    → fits aim known held (finished lookup result state ++ rest) ≡ true
found_fits aim known held lookup result state rest is = grind (arith, is)

-- the entry is held only where that isn't written down
decided_fits : (state : State) (logged : List (List ℕ)) (stops : List Strike) (item : Item)
    → fits false state.configured state.entry (decided state logged stops item ++ []) ≡ true
decided_fits state logged stops item = by_phase (is_attached state.phase) logged
  where
    by_halt : (stopped known held : Bool) (cause : HaltCause) (thread : ThreadId)
        → fits false known held (told_part stops cause thread ∷ surplus stopped ++ []) ≡ true
    by_halt stopped known held cause thread = grind arith

    by_stop : (stopped known held starts : Bool) (thrown : List Thrown) (stop : Option Halt)
        → fits false known held
        (decided_by stopped (cond known false (cond held false starts)) thrown stops stop ++ []) ≡ true
    by_stop stopped true held starts thrown None = refl
    by_stop stopped false true starts thrown None = refl
    by_stop stopped false false true thrown None = refl
    by_stop stopped false false false thrown None = refl
    by_stop stopped known held starts thrown (Some halt) = by_halt stopped known held halt.cause halt.thread

    by_phase : (attached : Bool) (logged : List (List ℕ)) → fits false state.configured state.entry
        (cond attached (logged_first state logged stops (events_in item)) [] ++ []) ≡ true
    by_phase false logged = refl
    by_phase true [] = by_stop state.stopped state.configured state.entry (has_start (events_in item))
        (thrown_in state.wishes (events_in item)) (stop_among stops (hits_in state.wishes (events_in item)))
    by_phase true (text ∷ texts) = refl

chosen_fits : (aim : Bool) (choice : Choice) (state : State) (hand : Hand) (rest : List Part)
    → fits aim state.configured state.entry (Part.Unfolds choice ∷ rest) ≡ true
    → fits aim state.configured state.entry (chosen choice state hand ++ rest) ≡ true
chosen_fits aim (TellsNews below) state hand rest is =
    told_alike (fits aim state.configured state.entry) (λ news parts. refl) state.phase (news_of below state hand.item)
    rest ∙ is
chosen_fits false Judges state hand [] is = of_judged
    (λ (parts : List Part). fits false state.configured state.entry (parts ++ []) ≡ true) refl (λ strikes. refl) state
    hand.item
chosen_fits false Judges state hand (part ∷ rest) is = cc
chosen_fits true Judges state hand rest is = cc
chosen_fits false (Decides logged stops) state hand [] is = decided_fits state logged stops hand.item
chosen_fits false (Decides logged stops) state hand (part ∷ rest) is = cc
chosen_fits true (Decides logged stops) state hand rest is = cc
chosen_fits aim Stepped state hand rest is = by_code (refused_with hand.effect)
  where
    by_code : (code : Option ℕ) → fits aim state.configured state.entry (stepped_by code ++ rest) ≡ true
    by_code code = grind (arith, is)
chosen_fits aim choice state hand rest is = grind (arith, is)

gone_fits : (known responds : Bool) (item : Item)
    → fits (configuring item) known false (gone_parts responds item) ≡ true
gone_fits known responds item = grind arith

-- In runs -------------------------------------------------------------------------------------------------------------

front_fits : {m : Machine} {hand : Hand} {part : Part} {rest : List Part} → hand_fits m.state m.hand ≡ true
    → IsAt m hand part rest → fits (configuring hand.item) m.state.configured m.state.entry (part ∷ rest) ≡ true
front_fits {m} {hand} h at = subst (λ (parts : List Part). fits (configuring hand.item) m.state.configured m.state.entry
    parts ≡ true) at.parts (subst (λ (held : Option Hand). hand_fits m.state held ≡ true) at.in_hand h)

tail_fits : (aim known held : Bool) (part : Part) (rest : List Part) → fits aim known held (part ∷ rest) ≡ true
    → fits aim (known_behind part known) (held_behind part held) rest ≡ true
tail_fits aim known held part rest is = second_holds (may_stand aim known held part rest) _ is

skipped_fits : {m : Machine} {hand : Hand} {part : Part} (rest : List Part) → Skips m hand part
    → fits (configuring hand.item) m.state.configured m.state.entry (part ∷ rest) ≡ true
    → fits (configuring hand.item) m.state.configured m.state.entry rest ≡ true
skipped_fits {m} {hand} {part} rest (Skips.by_guard is) h =
    tail_fits (configuring hand.item) m.state.configured m.state.entry part rest h
skipped_fits {m} {hand} {part} rest (Skips.by_wishes is) h =
    tail_fits (configuring hand.item) m.state.configured m.state.entry part rest h
skipped_fits {m} {hand} {part} rest (Skips.no_request is) h =
    tail_fits (configuring hand.item) m.state.configured m.state.entry part rest h

numbered_known : (outcome : Outcome) (state : State) → (numbered_by outcome state).configured ≡ state.configured
numbered_known outcome state = grind arith

replied_known : (command : TargetCommand) (replied : Replied) (state : State)
    → (replied_to command replied state).configured ≡ state.configured
replied_known command replied state = grind arith

noted_known : (note : Note) (state : State) → (noted note state).configured ≡ noted_behind note state.configured
noted_known note state = grind arith

noted_entry : (note : Note) (state : State) → (noted note state).entry ≡ entry_noted note state.entry
noted_entry note state = grind arith

event_known : (event : Event) (state : State) → (after_event event state).configured ≡ state.configured
event_known event state = grind arith

event_entry : (event : Event) (state : State) → (after_event event state).entry ≡ entry_told event state.entry
event_entry event state = grind arith

replied_fits : (state : State) (command : TargetCommand) (replied : Replied) (hand : Option Hand)
    → hand_fits state (option_map (hand_replied command replied) hand) ≡ hand_fits state hand
replied_fits state command replied hand = grind arith

same_fits : (state now : State) (hand : Option Hand) → now.configured ≡ state.configured → now.entry ≡ state.entry
    → hand_fits now hand ≡ hand_fits state hand
same_fits state now hand known held = grind (arith, known, held)

asked_fits : (state : State) (want : Want) (hand : Option Hand)
    → hand_fits state (option_map (asked_hand want) hand) ≡ hand_fits state hand
asked_fits state want hand = grind arith

given_fits : (state : State) (hand : Option Hand) → state.entry ≡ false
    → hand_fits state (option_map given_up hand) ≡ true
given_fits state None none = refl
given_fits state (Some hand) none =
    rw none (gone_fits state.configured (has_response hand.parts) hand.item)

answered_fits : (state : State) (command : TargetCommand) (replied : Replied) (hand : Option Hand)
    → hand_fits state hand ≡ true
    → hand_fits (replied_to command replied state) (option_map (hand_replied command replied) hand) ≡ true
answered_fits state command replied hand h =
    same_fits state (replied_to command replied state) (option_map (hand_replied command replied) hand)
    (replied_known command replied state) (same_entry command replied state)
    ∙ replied_fits state command replied hand ∙ h

fits_on : (m next : Machine) (said : Option Message) → hand_fits m.state m.hand ≡ true → Moves m said next
    → hand_fits next.state next.hand ≡ true
fits_on m next said h (Moves.begins picked free none is) = begun_fits m.state picked.item
fits_on m next said h (Moves.drops free is none) = refl
fits_on m next said h (Moves.responds {hand} {rest} {outcome = outcome} free at is) =
    rw (numbered_known outcome m.state, numbered_entry outcome m.state)
    (tail_fits (configuring hand.item) m.state.configured m.state.entry (Part.Responds outcome) rest (front_fits h at))
fits_on m next said h (Moves.finds {hand} {rest} {lookup} found free at needs done) =
    found_fits (configuring hand.item) m.state.configured m.state.entry lookup (result_of found) m.state rest
    (front_fits h at)
fits_on m next said h (Moves.passes_over {rest = rest} free at why) = skipped_fits rest why (front_fits h at)
fits_on m next said h (Moves.tells {hand} {rest} {event} free at) =
    rw (event_known event m.state, event_entry event m.state)
    (tail_fits (configuring hand.item) m.state.configured m.state.entry (Part.Tells event) rest (front_fits h at))
fits_on m next said h (Moves.sends {hand} {rest} {deed} free at near) =
    tail_fits (configuring hand.item) m.state.configured m.state.entry (Part.Sends deed) rest (front_fits h at)
fits_on m next said h (Moves.updates free at is near) = front_fits h at
fits_on m next said h (Moves.notes {hand} {note} {rest} free at) =
    rw (noted_known note m.state, noted_entry note m.state)
    (tail_fits (configuring hand.item) m.state.configured m.state.entry (Part.Notes note) rest (front_fits h at))
fits_on m next said h (Moves.unfolds {hand} {choice} {rest} free at) =
    chosen_fits (configuring hand.item) choice m.state hand rest (front_fits h at)
fits_on m next said h (Moves.queues free is) = subst (λ (held : Option Hand). hand_fits m.state held ≡ true) is h
fits_on m next said h (Moves.asks {want = want} free room is are) = asked_fits m.state want m.hand ∙ h
fits_on m next said h (Moves.answers {question} {replied} is waits reply lasts) =
    answered_fits m.state (a_question question) replied m.hand h
fits_on m next said h (Moves.replies {effect} {replied} is flies reply lasts) =
    answered_fits m.state (an_effect effect) replied m.hand h
fits_on m next said h (Moves.loses late near why) = given_fits next.state m.hand refl
fits_on m next said h _ = h

fitting : {messages : List Message} {m : Machine} → Run messages m → hand_fits m.state m.hand ≡ true
fitting r = by_moves {Holds = λ (messages : List Message) (m : Machine). hand_fits m.state m.hand ≡ true}
    (record {
      starts = refl;
      moves = λ messages m next said h moved. fits_on m next said h moved;
      queues = λ messages m hand queue may h. h;
    }) r

-- What the client knows -----------------------------------------------------------------------------------------------

-- the client was told so only once it was written down, and then no entry is held
abbrev pub settled : Bool → Bool → Bool → Bool
settled told known held = cond (cond told known true) (cond known (not held) true) false

abbrev pub IsSettled : Bool → Machine → Type 0
IsSettled told m = settled told m.state.configured m.state.entry ≡ true

pub none_held : (told : Bool) (m : Machine) → IsSettled told m → told ≡ true → m.state.entry ≡ false
none_held told m h is = by_bools told m.state.configured m.state.entry h is
  where
    by_bools : (told known held : Bool) → settled told known held ≡ true → told ≡ true → held ≡ false
    by_bools told known held h is = grind (arith, h, is)

event_settled : (told known held : Bool) (event : Event) → settled told known held ≡ true
    → settled told known (entry_told event held) ≡ true
event_settled told known held event h = grind (arith, h)

deed_settled : (told known held : Bool) (deed : Deed) → settled told known held ≡ true
    → settled told known (entry_by deed held) ≡ true
deed_settled told known held deed h = grind (arith, h)

note_settled : (told known held : Bool) (note : Note) → may_note known held note ≡ true
    → settled told known held ≡ true → settled told (noted_behind note known) (entry_noted note held) ≡ true
note_settled told known held note may h = grind (arith, may, h)

lost_settled : (told known held : Bool) → settled told known held ≡ true → settled told known false ≡ true
lost_settled told known held h = grind (arith, h)

-- no response is told
abbrev pub is_other : Option Message → Bool
is_other (Some (Message.tells (a_response response))) = false
is_other _ = true

pub settled_on : {messages : List Message} (m next : Machine) (said : Option Message) (told : Bool) → Run messages m
    → is_other said ≡ true → IsSettled told m → Moves m said next → IsSettled told next
settled_on m next said told r other h (Moves.responds free at is) = cc
settled_on m next said told r other h (Moves.tells {event = event} free at) =
    rw (event_known event m.state, event_entry event m.state)
    (event_settled told m.state.configured m.state.entry event h)
settled_on m next said told r other h (Moves.sends {deed = deed} free at near) =
    deed_settled told m.state.configured m.state.entry deed h
settled_on m next said told r other h (Moves.notes {hand} {note} {rest} free at) =
    rw (noted_known note m.state, noted_entry note m.state)
    (note_settled told m.state.configured m.state.entry note
    (first_holds (may_note m.state.configured m.state.entry note) _ (front_fits (fitting r) at)) h)
settled_on m next said told r other h (Moves.answers {question} {replied} is waits reply lasts) =
    rw (replied_known (a_question question) replied m.state, same_entry (a_question question) replied m.state) h
settled_on m next said told r other h (Moves.replies {effect} {replied} is flies reply lasts) =
    rw (replied_known (an_effect effect) replied m.state, same_entry (an_effect effect) replied m.state) h
settled_on m next said told r other h (Moves.loses late near why) =
    lost_settled told m.state.configured m.state.entry h
settled_on m next said told r other h _ = h

outcome_settled : (told known held : Bool) (command : Command) (outcome : Outcome) (state : State)
    → cond (configures command) (cond (succeeds outcome) known true) true ≡ true → settled told known held ≡ true
    → settled (configured_by command (outcome_told outcome state) told) known held ≡ true
outcome_settled told known held command outcome state may h = grind (arith, may, h)

pub settled_told : {messages : List Message} {m : Machine} {hand : Hand} {rest : List Part} (request : Request)
    (outcome : Outcome) (told : Bool) → Run messages m → IsAt m hand (Part.Responds outcome) rest
    → hand.item ≡ a_request request → IsSettled told m
    → settled (configured_by request.command (outcome_told outcome m.state) told)
    (numbered_by outcome m.state).configured (numbered_by outcome m.state).entry ≡ true
settled_told {m = m} {hand} {rest} request outcome told r at is h =
    rw (numbered_known outcome m.state, numbered_entry outcome m.state)
    (outcome_settled told m.state.configured m.state.entry request.command outcome m.state
    (subst (λ (item : Item). cond (configuring item) (cond (succeeds outcome) m.state.configured true) true ≡ true) is
    (first_holds (cond (configuring hand.item) (cond (succeeds outcome) m.state.configured true) true) _
    (front_fits (fitting r) at))) h)
