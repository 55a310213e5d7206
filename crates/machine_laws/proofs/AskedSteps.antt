-- The target runs on with the step that was asked for.
use Rattle.std.proofs.Common.{◌≡◌, ◌==◌, ℕ, Bool, true, false, cond, List, [], ◌∷◌, ◌++◌, Option, Some, None, refl, sym}
use Rattle.std.proofs.Common.{◌&&◌, ap, subst, ◌∙◌, append-nil, not, option_map, arith}
use Rattle.std.specs.Prelude.{option_and_then}
use Rattle.std.specs.List.{AllByRecursion as All}
use Rattle.class_tables.specs.Lookups.{found_in}
use Rattle.machine_model.specs.Due.{asked_hand, due}
use Rattle.machine_model.specs.Knowing.{HasNumber}
use Rattle.machine_model.specs.Lookups.{finished}
use Rattle.machine_model.specs.Outcomes.{result_of}
use Rattle.machine_model.specs.Plans.{Result}
use Rattle.machine_model.specs.Replying.{given_up, hand_replied}
use Rattle.machine_model.specs.Requests.{Wishes, effect_due, wishes_after}
use Rattle.machine_model.specs.Rows.{chosen, failure_of, gone_parts, has_response, news_of, noted, parts_by, parts_of}
use Rattle.machine_model.specs.Rows.{refused_with, row_of, step_parts, stepped_by, thread_there, thread_with, told_in}
use Rattle.machine_model.specs.Rows.{wanting}
use Rattle.machine_model.specs.Runs.{Allows, Message, Run, said}
use Rattle.machine_model.specs.State.{Hand, Machine, State, is_gone}
use Rattle.machine_model.specs.Stops.{surplus, told_part}
use Rattle.machine_model.specs.Telling.{after_event, numbered_by}
use Rattle.machine_steps.specs.Names.{Act, Attached, Choice, Classes, Command, Decides, Deed, Does, Effect, Event}
use Rattle.machine_steps.specs.Names.{Judges, Strike, breakpoint_hits}
use Rattle.machine_steps.specs.Names.{Failure, Finding, HaltCause, Item, Lines, Lookup, News, Next, Note, Outcome, Part}
use Rattle.machine_steps.specs.Names.{Phase, Replied, Request, Resume, StepIn, StepOut, Stepped, Steps, TargetCommand}
use Rattle.machine_steps.specs.Names.{TellsNews, ThreadId, Want, a_question, a_request, an_effect, came_to, has_stepped}
use Rattle.machine_steps.specs.Names.{Success, a_stop, of_stop, some_news, thread_changed, thread_list, threw}
use Rattle.machine_model.proofs.Bools.{first_holds, second_holds}
use Rattle.std.proofs.lemmas.Bool.{not-true}
use Rattle.machine_laws.specs.StepRequests.{AsksStep, IsInFlight}
use Rattle.machine_laws.proofs.BindingFacts.{only_classes}
use Rattle.machine_laws.proofs.NumberLaws.{grows}
use Rattle.machine_steps.proofs.PartTests.{all_pass, all_passing, is_request, of_failure, passes, tells_more}
use Rattle.machine_laws.proofs.PausedStops.{still_numbered, thread_has}
use Rattle.machine_steps.proofs.ReferenceLaws.{due_request}
use Rattle.machine_steps.proofs.RequestLaws.{settling}
use Rattle.machine_steps.proofs.RequestSteps.{is_deed, learnt_wishes, numbered_wishes, told_wishes}
use Rattle.machine_steps.proofs.Stepping.{IsAt, Loses, Moves, Skips, by_moves, by_runs, moved}
use Rattle.machine_laws.proofs.StepLaws.{step_wished}
use Rattle.machine_laws.proofs.SuspendLaws.{binds_first}
use Rattle.machine_steps.proofs.Tables.{of_decided, told_alike}
use Rattle.machine_steps.proofs.Testing.{IsTest, tested, whole}
use Rattle.machine_steps.proofs.ThreadIds.{noted_threads, replied_threads}
use Rattle.machine_steps.proofs.WishLemmas.{none_due_change}
use Rattle.wish_sets.proofs.LeftLaws.{at_rest}
use Rattle.wish_sets.proofs.WishLaws.{is_itself}
use Rattle.wish_sets.specs.Order.{has_wish}
use Rattle.wish_sets.specs.Wished.{stepping, wished}
use Rattle.wish_sets.specs.Wishes.{is_installed}
use Rattle.wish_sets.specs.declared.wish.Depth.{Depth}
use Rattle.wish_sets.specs.declared.wish.Depth.TheVariants.{Into, Out, Over}
use Rattle.wish_sets.specs.declared.wish.StepWish.{StepWish}
use Rattle.wish_sets.specs.declared.wish.Wish.TheVariants as wish
use Rattle.wish_sets.specs.Wanted.{Wanted}

-- Threads that are known ----------------------------------------------------------------------------------------------

abbrev Grows : List ThreadId → List ThreadId → Type 0
Grows threads now = (more : List ThreadId) × (now ≡ threads ++ more)

same_threads : {threads now : List ThreadId} → now ≡ threads → Grows threads now
same_threads {threads} same = ([], same ∙ sym (append-nil threads))

outcome_threads : (outcome : Outcome) (state : State) → Grows state.threads (numbered_by outcome state).threads
outcome_threads (Success (thread_list named)) state = grows state.threads named
outcome_threads _ state = same_threads refl

event_threads : (event : Event) (state : State) → Grows state.threads (after_event event state).threads
event_threads (some_news (thread_changed started thread)) state =
    grows state.threads (record { thread = thread; name = [] } ∷ [])
event_threads (a_stop stopping) state = grows state.threads (record { thread = stopping.thread; name = [] } ∷ [])
event_threads _ state = same_threads refl

threads_on : (m next : Machine) (said : Option Message) → Moves m said next → Grows m.state.threads next.state.threads
threads_on m next said (Moves.responds {outcome = outcome} free at is) = outcome_threads outcome m.state
threads_on m next said (Moves.tells {event = event} free at) = event_threads event m.state
threads_on m next said (Moves.notes {note = note} free at) = same_threads (noted_threads note m.state)
threads_on m next said (Moves.answers {question} {replied} is waits reply lasts) =
    same_threads (replied_threads (a_question question) replied m.state)
threads_on m next said (Moves.replies {effect} {replied} is flies reply lasts) =
    same_threads (replied_threads (an_effect effect) replied m.state)
threads_on m next said _ = same_threads refl

-- What a request asks for ---------------------------------------------------------------------------------------------

-- the step that a request asks for
abbrev CommandSteps : List ThreadId → Command → StepWish → Type 0
CommandSteps threads (Next arguments) step = HasNumber threads step.thread arguments.thread_id × (step.depth ≡ Over)
CommandSteps threads (StepIn arguments) step = HasNumber threads step.thread arguments.thread_id × (step.depth ≡ Into)
CommandSteps threads (StepOut arguments) step = HasNumber threads step.thread arguments.thread_id × (step.depth ≡ Out)
CommandSteps threads _ step = ⊥

abbrev ItemSteps : List ThreadId → Item → StepWish → Type 0
ItemSteps threads (a_request request) step = CommandSteps threads request.command step
ItemSteps threads _ step = ⊥

-- a step is written down for such a request alone
abbrev NoteSteps : List ThreadId → Item → Note → Type 0
NoteSteps threads item (Steps (Some step)) = ItemSteps threads item step
NoteSteps threads item _ = Unit {0}

abbrev PartSteps : List ThreadId → Item → Part → Type 0
PartSteps threads item (Part.Notes note) = NoteSteps threads item note
PartSteps threads item _ = Unit {0}

abbrev HandSteps : List ThreadId → Option Hand → Type 0
HandSteps threads None = Unit {0}
HandSteps threads (Some hand) = All (PartSteps threads hand.item) hand.parts

item_still : (threads more : List ThreadId) (item : Item) (step : StepWish) → ItemSteps threads item step
    → ItemSteps (threads ++ more) item step
item_still threads more (a_request request) step h = by_command request.command h
  where
    by_command : (command : Command) → CommandSteps threads command step → CommandSteps (threads ++ more) command step
    by_command (Next arguments) h = (still_numbered more h.0, h.1)
    by_command (StepIn arguments) h = (still_numbered more h.0, h.1)
    by_command (StepOut arguments) h = (still_numbered more h.0, h.1)
    by_command _ h = absurd h
item_still threads more _ step h = absurd h

part_still : (threads more : List ThreadId) (item : Item) (part : Part) → PartSteps threads item part
    → PartSteps (threads ++ more) item part
part_still threads more item (Part.Notes note) h = by_note note h
  where
    by_note : (note : Note) → NoteSteps threads item note → NoteSteps (threads ++ more) item note
    by_note (Steps (Some step)) h = item_still threads more item step h
    by_note (Steps None) h = tt
    by_note _ h = tt
part_still threads more item _ h = tt

parts_still : (threads more : List ThreadId) (item : Item) (parts : List Part) → All (PartSteps threads item) parts
    → All (PartSteps (threads ++ more) item) parts
parts_still threads more item [] h = tt
parts_still threads more item (part ∷ parts) h =
    (part_still threads more item part h.0, parts_still threads more item parts h.1)

hand_still : (threads now : List ThreadId) (hand : Option Hand) → Grows threads now → HandSteps threads hand
    → HandSteps now hand
hand_still threads now None more h = tt
hand_still threads now (Some hand) more h =
    subst (λ (threads : List ThreadId). All (PartSteps threads hand.item) hand.parts) (sym more.1)
    (parts_still threads more.0 hand.item hand.parts h)

-- The tables ----------------------------------------------------------------------------------------------------------

-- a part that writes no step down
abbrev is_calm : Part → Bool
is_calm (Part.Notes (Steps (Some step))) = false
is_calm _ = true

abbrev is_step_command : Command → Bool
is_step_command (Next arguments) = true
is_step_command (StepIn arguments) = true
is_step_command (StepOut arguments) = true
is_step_command _ = false

abbrev is_step_item : Item → Bool
is_step_item (a_request request) = is_step_command request.command
is_step_item _ = false

calm_steps : (threads : List ThreadId) (item : Item) (part : Part) → is_calm part ≡ true → PartSteps threads item part
calm_steps threads item (Part.Notes note) is = by_note note is
  where
    by_note : (note : Note) → is_calm (Part.Notes note) ≡ true → NoteSteps threads item note
    by_note (Steps (Some step)) is = cc
    by_note (Steps None) is = tt
    by_note _ is = tt
calm_steps threads item _ is = tt

row_calm : (command : Command) (state : State) → is_step_command command ≡ false
    → passes is_calm (row_of command state) ≡ true
row_calm command state is = grind (arith, is)

begun_calm : (state : State) (item : Item) → is_request item ≡ false → passes is_calm (parts_of state item) ≡ true
begun_calm state item is = grind (arith, is)

found_calm : (lookup : Lookup) (result : Result Finding) (state : State)
    → passes is_calm (finished lookup result state) ≡ true
found_calm lookup result state = grind arith

chosen_calm : (choice : Choice) (state : State) (hand : Hand) → tells_more choice ≡ false
    → passes is_calm (chosen choice state hand) ≡ true
chosen_calm choice state hand is = grind (arith, is)

gone_calm : (responds : Bool) (item : Item) → passes is_calm (gone_parts responds item) ≡ true
gone_calm responds item = grind arith

row_steps : (state : State) (request : Request) (command : Command) → request.command ≡ command
    → All (PartSteps state.threads (a_request request)) (row_of command state)
row_steps state request command same = by_command command same
  where
    by_there : (depth : Depth) (thread : ThreadId) (none : Bool)
        → CommandSteps state.threads request.command (record { thread = thread; depth = depth })
        → All (PartSteps state.threads (a_request request)) (step_parts depth (cond none None (Some thread)))
    by_there depth thread true h = (tt, tt)
    by_there depth thread false h = (h, (tt, (tt, tt)))

    by_found : (depth : Depth) (number : ℕ) (found : Option ThreadId) → thread_with state.threads number ≡ found
        → ((thread : ThreadId) → HasNumber state.threads thread number
        → CommandSteps state.threads request.command (record { thread = thread; depth = depth }))
        → All (PartSteps state.threads (a_request request)) (step_parts depth (option_and_then thread_there found))
    by_found depth number None is k = (tt, tt)
    by_found depth number (Some thread) is k =
        by_there depth thread (thread.0 == 0) (k thread (thread_has state.threads number thread is))

    named : (depth : Depth) (command : Command) → request.command ≡ command → (thread : ThreadId)
        → CommandSteps state.threads command (record { thread = thread; depth = depth })
        → CommandSteps state.threads request.command (record { thread = thread; depth = depth })
    named depth command same thread h = subst (λ (command : Command).
        CommandSteps state.threads command (record { thread = thread; depth = depth })) (sym same) h

    by_command : (command : Command) → request.command ≡ command
        → All (PartSteps state.threads (a_request request)) (row_of command state)
    by_command (Next arguments) same = by_found Over arguments.thread_id
        (thread_with state.threads arguments.thread_id) refl
        (λ thread h. named Over (Next arguments) same thread (h, refl))
    by_command (StepIn arguments) same = by_found Into arguments.thread_id
        (thread_with state.threads arguments.thread_id) refl
        (λ thread h. named Into (StepIn arguments) same thread (h, refl))
    by_command (StepOut arguments) same = by_found Out arguments.thread_id
        (thread_with state.threads arguments.thread_id) refl
        (λ thread h. named Out (StepOut arguments) same thread (h, refl))
    by_command command same = all_pass is_calm (calm_steps state.threads (a_request request)) (row_of command state)
        (row_calm command state refl)

begun_steps : (state : State) (item : Item) → All (PartSteps state.threads item) (parts_of state item)
begun_steps state (a_request request) =
    of_failure (PartSteps state.threads (a_request request)) (λ failure. tt)
    (failure_of (wanting request.command) state) (row_of request.command state)
    (row_steps state request request.command refl)
begun_steps state item =
    all_pass is_calm (calm_steps state.threads item) (parts_of state item) (begun_calm state item refl)

found_steps : (threads : List ThreadId) (item : Item) (lookup : Lookup) (result : Result Finding) (state : State)
    (rest : List Part) → All (PartSteps threads item) rest
    → All (PartSteps threads item) (finished lookup result state ++ rest)
found_steps threads item lookup result state rest h =
    all_passing is_calm (calm_steps threads item) (finished lookup result state) rest (found_calm lookup result state) h

chosen_steps : (threads : List ThreadId) (item : Item) (choice : Choice) (state : State) (hand : Hand)
    (rest : List Part) → All (PartSteps threads item) rest
    → All (PartSteps threads item) (chosen choice state hand ++ rest)
chosen_steps threads item (TellsNews below) state hand rest h = by_news state.phase (news_of below state hand.item)
  where
    by_news : (phase : Phase) (news : List News) → All (PartSteps threads item) (told_in phase news ++ rest)
    by_news Attached (one ∷ news) = (tt, by_news Attached news)
    by_news _ _ = h
chosen_steps threads item (Decides logged stops) state hand rest h =
    of_decided (λ (parts : List Part). All (PartSteps threads item) (parts ++ rest)) h (tt, h) (tt, h)
    (λ again thrown stops halt. (tt, (tt, (tt, (by_cause stops halt.cause halt.thread, by_surplus again)))))
    (λ text texts stops. (tt, (tt, h))) state logged stops hand.item
  where
    by_cause : (stops : List Strike) (cause : HaltCause) (thread : ThreadId)
        → PartSteps threads item (told_part stops cause thread)
    by_cause stops (came_to at) thread = tt
    by_cause stops (threw one) thread = tt
    by_cause stops has_stepped thread = tt

    by_surplus : (again : Bool) → All (PartSteps threads item) (surplus again ++ rest)
    by_surplus false = h
    by_surplus true = (tt, h)
chosen_steps threads item choice state hand rest h =
    all_passing is_calm (calm_steps threads item) (chosen choice state hand) rest (chosen_calm choice state hand refl) h

given_steps : (threads : List ThreadId) (hand : Option Hand) → HandSteps threads (option_map given_up hand)
given_steps threads None = tt
given_steps threads (Some hand) = all_pass is_calm (calm_steps threads hand.item)
    (gone_parts (has_response hand.parts) hand.item) (gone_calm (has_response hand.parts) hand.item)

-- What is left to write down, in runs ---------------------------------------------------------------------------------

steps_front : (threads : List ThreadId) {m : Machine} {hand : Hand} {part : Part} {rest : List Part}
    → HandSteps threads m.hand → IsAt m hand part rest → All (PartSteps threads hand.item) (part ∷ rest)
steps_front threads {m} {hand} h at = subst (λ (parts : List Part). All (PartSteps threads hand.item) parts) at.parts
    (subst (λ (held : Option Hand). HandSteps threads held) at.in_hand h)

replied_steps : (threads : List ThreadId) (command : TargetCommand) (replied : Replied) (hand : Option Hand)
    → HandSteps threads hand → HandSteps threads (option_map (hand_replied command replied) hand)
replied_steps threads command replied None h = tt
replied_steps threads (a_question question) replied (Some hand) h = h
replied_steps threads (an_effect effect) replied (Some hand) h = h

asked_steps : (threads : List ThreadId) (want : Want) (hand : Option Hand) → HandSteps threads hand
    → HandSteps threads (option_map (asked_hand want) hand)
asked_steps threads want None h = tt
asked_steps threads want (Some hand) h = h

steps_on : (m next : Machine) (said : Option Message) → HandSteps m.state.threads m.hand → Moves m said next
    → HandSteps m.state.threads next.hand
steps_on m next said h (Moves.begins picked free none is) = begun_steps m.state picked.item
steps_on m next said h (Moves.drops free is none) = tt
steps_on m next said h (Moves.responds free at is) = (steps_front m.state.threads h at).1
steps_on m next said h (Moves.finds {hand} {rest} {lookup} found free at needs done) =
    found_steps m.state.threads hand.item lookup (result_of found) m.state rest (steps_front m.state.threads h at).1
steps_on m next said h (Moves.passes_over free at why) = (steps_front m.state.threads h at).1
steps_on m next said h (Moves.tells free at) = (steps_front m.state.threads h at).1
steps_on m next said h (Moves.sends free at near) = (steps_front m.state.threads h at).1
steps_on m next said h (Moves.updates free at is near) = steps_front m.state.threads h at
steps_on m next said h (Moves.notes free at) = (steps_front m.state.threads h at).1
steps_on m next said h (Moves.unfolds {hand} {choice} {rest} free at) =
    chosen_steps m.state.threads hand.item choice m.state hand rest (steps_front m.state.threads h at).1
steps_on m next said h (Moves.queues free is) = subst (λ (held : Option Hand). HandSteps m.state.threads held) is h
steps_on m next said h (Moves.asks {want = want} free room is are) = asked_steps m.state.threads want m.hand h
steps_on m next said h (Moves.answers {question} {replied} is waits reply lasts) =
    replied_steps m.state.threads (a_question question) replied m.hand h
steps_on m next said h (Moves.replies {effect} {replied} is flies reply lasts) =
    replied_steps m.state.threads (an_effect effect) replied m.hand h
steps_on m next said h (Moves.loses late near why) = given_steps m.state.threads m.hand
steps_on m next said h _ = h

always_steps : {messages : List Message} {m : Machine} → Run messages m → HandSteps m.state.threads m.hand
always_steps r = by_moves {Holds = λ (messages : List Message) (m : Machine). HandSteps m.state.threads m.hand}
    (record {
      starts = tt;
      moves = λ messages m next said h moved. hand_still m.state.threads next.state.threads next.hand
          (threads_on m next said moved) (steps_on m next said h moved);
      queues = λ messages m hand queue may h. h;
    }) r

-- The step in flight --------------------------------------------------------------------------------------------------

-- the stop is to end, or it is to be decided on that, with the step that is in flight
abbrev needs : List Part → Bool
needs [] = false
needs (Part.Notes (Steps step) ∷ parts) = false
needs (Part.Sends (Resume of_stop) ∷ parts) = true
needs (Part.Unfolds Stepped ∷ parts) = true
needs (part ∷ parts) = needs parts

-- behind these no stop is to end
abbrev clears : Part → Bool
clears (Part.Notes (Steps None)) = true
clears (Part.Unfolds Stepped) = true
clears (Part.Unfolds Judges) = true
clears (Part.Looks (breakpoint_hits strikes)) = true
clears (Part.Unfolds (Decides logged stops)) = true
clears _ = false

abbrev steps_last : List Part → Bool
steps_last [] = true
steps_last (part ∷ parts) = cond (cond (clears part) (not (needs parts)) true) (steps_last parts) false

abbrev cleared_last : Bool → List Part → Bool
cleared_last gone parts = steps_last parts

row_last : (failure : Option Failure) (command : Command) (state : State)
    → steps_last (parts_by failure (row_of command state)) ≡ true
row_last failure command state = grind arith

begun_last : (state : State) (item : Item) → steps_last (parts_of state item) ≡ true
begun_last state (a_request request) = row_last (failure_of (wanting request.command) state) request.command state
begun_last state _ = grind arith

chosen_last : (choice : Choice) (state : State) (hand : Hand) (rest : List Part)
    → steps_last (Part.Unfolds choice ∷ rest) ≡ true → steps_last (chosen choice state hand ++ rest) ≡ true
chosen_last (TellsNews below) state hand rest is =
    told_alike steps_last (λ news parts. refl) state.phase (news_of below state hand.item) rest ∙ is
chosen_last (Decides logged stops) state hand rest is =
    of_decided (λ (parts : List Part). steps_last (parts ++ rest) ≡ true) last last last
    (λ again thrown stops halt. by_halt again stops halt.cause halt.thread) (λ text texts stops. is) state logged stops
    hand.item
  where
    last : steps_last rest ≡ true
    last = second_holds (not (needs rest)) (steps_last rest) is

    by_halt : (again : Bool) (stops : List Strike) (cause : HaltCause) (thread : ThreadId)
        → steps_last (Part.Notes (Steps None) ∷ Part.Updates ∷ told_part stops cause thread ∷ surplus again ++ rest)
        ≡ true
    by_halt again stops cause thread = grind (arith, is)
chosen_last Stepped state hand rest is = by_code (refused_with hand.effect)
  where
    by_code : (code : Option ℕ) → steps_last (stepped_by code ++ rest) ≡ true
    by_code code = grind (arith, is)
chosen_last choice state hand rest is = grind (arith, is)

last_test : IsTest cleared_last
last_test = record {
  none = λ gone. refl;
  tail = λ gone part rest is. second_holds (cond (clears part) (not (needs rest)) true) (steps_last rest) is;
  begins = begun_last;
  unfolds = chosen_last;
  finds = λ lookup result state rest is. grind (arith, is);
  gives_up = λ responds item. grind arith;
}

abbrev Wished : Option StepWish → List ThreadId → Item → Type 0
Wished step threads item = (it : StepWish) × (step ≡ Some it) × ItemSteps threads item it

-- where a step's request is in hand, it is the one that was asked for
abbrev HandWished : Option StepWish → List ThreadId → Option Hand → Type 0
HandWished step threads None = Unit {0}
HandWished step threads (Some hand) = needs hand.parts ≡ true → is_step_item hand.item ≡ true
    → Wished step threads hand.item

wished_still : (step : Option StepWish) (threads now : List ThreadId) (hand : Option Hand) → Grows threads now
    → HandWished step threads hand → HandWished step now hand
wished_still step threads now None more h = tt
wished_still step threads now (Some hand) more h = λ need steps. let w = h need steps in (
  w.0,
  w.1,
  subst (λ (threads : List ThreadId). ItemSteps threads hand.item w.0) (sym more.1)
      (item_still threads more.0 hand.item w.0 w.2),
)

begun_needs : (state : State) (item : Item) → needs (parts_of state item) ≡ true → is_step_item item ≡ false
begun_needs state (a_request request) is = by_row (failure_of (wanting request.command) state) request.command is
  where
    by_row : (failure : Option Failure) (command : Command) → needs (parts_by failure (row_of command state)) ≡ true
        → is_step_command command ≡ false
    by_row failure command is = grind (arith, is)
begun_needs state _ is = refl

found_needs : (lookup : Lookup) (result : Result Finding) (state : State) (rest : List Part)
    → needs (finished lookup result state ++ rest) ≡ needs rest
found_needs lookup result state rest = grind arith

deed_needs : (deed : Deed) (rest : List Part) → needs rest ≡ true → needs (Part.Sends deed ∷ rest) ≡ true
deed_needs deed rest is = grind (arith, is)

chosen_needs : (choice : Choice) (state : State) (hand : Hand) (rest : List Part)
    → needs (chosen choice state hand ++ rest) ≡ true → needs (Part.Unfolds choice ∷ rest) ≡ true
chosen_needs (TellsNews below) state hand rest is =
    sym (told_alike needs (λ news parts. refl) state.phase (news_of below state hand.item) rest) ∙ is
chosen_needs (Decides logged stops) state hand rest is =
    of_decided (λ (parts : List Part). needs (parts ++ rest) ≡ true → needs rest ≡ true) (λ is. is) (λ is. is)
    (λ is. is) (λ again thrown stops halt is. cc) (λ text texts stops is. is) state logged stops hand.item is
chosen_needs Stepped state hand rest is = refl
chosen_needs choice state hand rest is = grind (arith, is)

gone_needs : (responds : Bool) (item : Item) → needs (gone_parts responds item) ≡ false
gone_needs responds item = grind arith

abbrev is_step_note : Note → Bool
is_step_note (Steps step) = true
is_step_note _ = false

noted_step : (note : Note) (state : State) → is_step_note note ≡ false
    → (noted note state).wishes.wanted.step ≡ state.wishes.wanted.step
noted_step (Lines None path entries) state is = refl
noted_step (Classes classes) state is = ap (λ (wanted : Wanted). wanted.step)
    (only_classes (found_in state.classes) classes state.wishes.wanted)
noted_step (Steps step) state is = cc
noted_step _ state is = refl

replied_step : (effect : Effect) (replied : Replied) (w : Wishes)
    → (wishes_after effect replied w).wanted.step ≡ w.wanted.step
replied_step effect replied w = grind arith

abbrev Flies : Machine → Option Hand → Option StepWish → Type 0
Flies m hand step = HandWished step m.state.threads hand

wished_front : {m : Machine} {hand : Hand} {part : Part} {rest : List Part}
    → Flies m m.hand m.state.wishes.wanted.step → IsAt m hand part rest → needs (part ∷ rest) ≡ true
    → is_step_item hand.item ≡ true → Wished m.state.wishes.wanted.step m.state.threads hand.item
wished_front {m} h at need =
    subst (λ (held : Option Hand). Flies m held m.state.wishes.wanted.step) at.in_hand h (ap needs at.parts ∙ need)

skipped_wished : {m : Machine} {hand : Hand} {part : Part} (rest : List Part) → Skips m hand part → needs rest ≡ true
    → needs (part ∷ rest) ≡ true
skipped_wished rest (Skips.by_guard is) need = need
skipped_wished rest (Skips.by_wishes is) need = need
skipped_wished rest (Skips.no_request is) need = need

replied_wished : (step : Option StepWish) (threads : List ThreadId) (command : TargetCommand) (replied : Replied)
    (hand : Option Hand) → HandWished step threads hand
    → HandWished step threads (option_map (hand_replied command replied) hand)
replied_wished step threads command replied None h = tt
replied_wished step threads (a_question question) replied (Some hand) h = h
replied_wished step threads (an_effect effect) replied (Some hand) h = h

asked_wished : (step : Option StepWish) (threads : List ThreadId) (want : Want) (hand : Option Hand)
    → HandWished step threads hand → HandWished step threads (option_map (asked_hand want) hand)
asked_wished step threads want None h = tt
asked_wished step threads want (Some hand) h = h

given_wished : (step : Option StepWish) (threads : List ThreadId) (hand : Option Hand)
    → HandWished step threads (option_map given_up hand)
given_wished step threads None = tt
given_wished step threads (Some hand) = λ need steps.
    let no : false ≡ true = sym (gone_needs (has_response hand.parts) hand.item) ∙ need in cc

same_step : (m : Machine) (hand : Option Hand) (step now : Option StepWish) → now ≡ step → Flies m hand step
    → Flies m hand now
same_step m hand step now same h = subst (λ (step : Option StepWish). Flies m hand step) (sym same) h

noted_wished : {messages : List Message} {m : Machine} {hand : Hand} {rest : List Part} (note : Note) → Run messages m
    → Flies m m.hand m.state.wishes.wanted.step → IsAt m hand (Part.Notes note) rest
    → Flies m (Some (record hand { parts = rest })) (noted note m.state).wishes.wanted.step
noted_wished (Steps (Some step)) r h at = λ need steps. (step, refl, (steps_front _ (always_steps r) at).0)
noted_wished {m = m} {rest = rest} (Steps None) r h at = λ need steps.
    let no : true ≡ false = sym need ∙ not-true (needs rest) (first_holds (not (needs rest)) (steps_last rest)
    (whole cleared_last (tested last_test r) at)) in cc
noted_wished {m = m} {hand} {rest} note r h at =
    same_step m (Some (record hand { parts = rest })) m.state.wishes.wanted.step
    (noted note m.state).wishes.wanted.step (noted_step note m.state refl)
    (λ need steps. wished_front h at need steps)

wished_on : {messages : List Message} (m next : Machine) (said : Option Message) → Run messages m
    → Flies m m.hand m.state.wishes.wanted.step → Moves m said next → Flies m next.hand next.state.wishes.wanted.step
wished_on m next said r h (Moves.begins picked free none is) = λ need steps.
    let no : false ≡ true = sym (begun_needs m.state picked.item need) ∙ steps in cc
wished_on m next said r h (Moves.drops free is none) = tt
wished_on m next said r h (Moves.responds {hand} {rest} {outcome = outcome} free at is) =
    same_step m (Some (record hand { parts = rest })) m.state.wishes.wanted.step
    (numbered_by outcome m.state).wishes.wanted.step
    (ap (λ (w : Wishes). w.wanted.step) (numbered_wishes outcome m.state))
    (λ need steps. wished_front h at need steps)
wished_on m next said r h (Moves.finds {rest = rest} {lookup} found free at needs_it done) = λ need steps.
    wished_front h at (sym (found_needs lookup (result_of found) m.state rest) ∙ need) steps
wished_on m next said r h (Moves.passes_over {rest = rest} free at why) = λ need steps.
    wished_front h at (skipped_wished rest why need) steps
wished_on m next said r h (Moves.tells {hand} {rest} {event} free at) =
    same_step m (Some (record hand { parts = rest })) m.state.wishes.wanted.step
    (after_event event m.state).wishes.wanted.step (ap (λ (w : Wishes). w.wanted.step) (told_wishes event m.state))
    (λ need steps. wished_front h at need steps)
wished_on m next said r h (Moves.sends {rest = rest} {deed} free at near) = λ need steps.
    wished_front h at (deed_needs deed rest need) steps
wished_on m next said r h (Moves.updates free at is near) = λ need steps. wished_front h at need steps
wished_on m next said r h (Moves.notes {note = note} free at) = noted_wished note r h at
wished_on m next said r h (Moves.unfolds {hand} {choice} {rest} free at) = λ need steps.
    wished_front h at (chosen_needs choice m.state hand rest need) steps
wished_on m next said r h (Moves.queues free is) =
    subst (λ (held : Option Hand). HandWished m.state.wishes.wanted.step m.state.threads held) is h
wished_on m next said r h (Moves.asks {want = want} free room is are) =
    asked_wished m.state.wishes.wanted.step m.state.threads want m.hand h
wished_on m next said r h (Moves.answers {question} {replied} is waits reply lasts) =
    same_step m (option_map (hand_replied (a_question question) replied) m.hand) m.state.wishes.wanted.step
    next.state.wishes.wanted.step (ap (λ (w : Wishes). w.wanted.step) (learnt_wishes question replied m.state))
    (replied_wished m.state.wishes.wanted.step m.state.threads (a_question question) replied m.hand h)
wished_on m next said r h (Moves.replies {effect} {replied} is flies reply lasts) =
    same_step m (option_map (hand_replied (an_effect effect) replied) m.hand) m.state.wishes.wanted.step
    next.state.wishes.wanted.step (replied_step effect replied m.state.wishes)
    (replied_wished m.state.wishes.wanted.step m.state.threads (an_effect effect) replied m.hand h)
wished_on m next said r h (Moves.loses late near why) =
    given_wished m.state.wishes.wanted.step m.state.threads m.hand
wished_on m next said r h _ = h

always_wished : {messages : List Message} {m : Machine} → Run messages m
    → Flies m m.hand m.state.wishes.wanted.step
always_wished r = by_runs {Holds = λ (messages : List Message) (m : Machine). Flies m m.hand m.state.wishes.wanted.step}
    (record {
      starts = tt;
      moves = λ messages m next said before h moved after.
          wished_still next.state.wishes.wanted.step m.state.threads next.state.threads next.hand
          (threads_on m next said moved) (wished_on m next said before h moved);
      queues = λ messages m hand queue before may h. h;
    }) r

-- The law -------------------------------------------------------------------------------------------------------------

asks_step : {command : Command} {number : ℕ} {depth : Depth} → AsksStep command number depth
    → is_step_command command ≡ true
asks_step AsksStep.over = refl
asks_step AsksStep.into = refl
asks_step AsksStep.out = refl

asked_step : {command : Command} {number : ℕ} {depth : Depth} (threads : List ThreadId) (step : StepWish)
    → AsksStep command number depth → CommandSteps threads command step
    → HasNumber threads step.thread number × (step.depth ≡ depth)
asked_step threads step AsksStep.over h = h
asked_step threads step AsksStep.into h = h
asked_step threads step AsksStep.out h = h

-- the Resume stands in front of the item in hand, in a target that isn't gone
record Ends (m : Machine) (hand : Hand) : Type 0 where
  need : needs hand.parts ≡ true
  near : is_gone m.state.phase ≡ false

ends_at : {m next : Machine} {hand : Hand} (said : Option Message) → m.hand ≡ Some hand
    → said ≡ Some (Message.sends (an_effect (Does (Resume of_stop)))) → Moves m said next → Ends m hand
ends_at {hand = hand} said held is (Moves.sends {hand = other} {rest} {deed} free at near) =
    let same : deed ≡ Resume of_stop = cc in
    let one : Some other ≡ Some hand = sym at.in_hand ∙ held in
    let alike : other ≡ hand = cc in record {
      need = ap (λ (hand : Hand). needs hand.parts) (sym alike) ∙ ap needs at.parts
          ∙ ap (λ (deed : Deed). needs (Part.Sends deed ∷ rest)) same;
      near = near;
    }
ends_at {m} said held is (Moves.updates {effect = effect} free at change near) =
    let same : effect ≡ Does (Resume of_stop) = cc in
    let no : false ≡ true = sym (due_request m.state.wishes effect change) ∙ ap is_deed same in cc
ends_at {m} {hand = hand} said held is (Moves.loses late near why) = by_loss why is
  where
    by_loss : {now : Machine} {message : Message} {late : List TargetCommand} → Loses now message late
        → Some message ≡ Some (Message.sends (an_effect (Does (Resume of_stop)))) → Ends m hand
    by_loss Loses.by_end is = cc
    by_loss _ is = cc
ends_at said held is _ = cc

abbrev in_flight : ThreadId → Depth → Option StepWish
in_flight thread depth = Some (record { thread = thread; depth = depth })

-- where nothing is to be cleared or set, a step that is wished is installed, unless it was refused
set_step : {messages : List Message} {m : Machine} (thread : ThreadId) (depth : Depth) → Run messages m
    → is_gone m.state.phase ≡ false → effect_due m.state.wishes ≡ None
    → m.state.wishes.wanted.step ≡ Some (record { thread = thread; depth = depth })
    → is_installed m.state.wishes.installed (wish.Step thread depth)
    ≡ not (has_wish m.state.wishes.refused (wish.Step thread depth))
set_step {m = m} thread depth r near none is =
    let it = wish.Step thread depth in
    let wished_now : has_wish (wished m.state.wishes.wanted) it ≡ true =
    step_wished m.state.wishes.wanted thread depth ∙ ap (λ (step : Option StepWish). has_wish (stepping step) it) is
    ∙ itself thread depth in
    at_rest m.state.wishes (settling r near).tidy (none_due_change m.state.wishes none) it
    ∙ ap (λ (b : Bool). b && not (has_wish m.state.wishes.refused it)) wished_now
  where
    itself : (thread : ThreadId) (depth : Depth)
        → has_wish (stepping (Some (record { thread = thread; depth = depth }))) (wish.Step thread depth) ≡ true
    itself thread depth = rw (is_itself (wish.Step thread depth)) refl

pub steps_as_asked : (messages : List Message) (m : Machine) (hand : Hand) (request : Request) (number : ℕ)
    (depth : Depth) → Run messages m → m.hand ≡ Some hand → hand.item ≡ a_request request
    → AsksStep request.command number depth → (due false m).act ≡ Act.Sends (Does (Resume of_stop))
    → IsInFlight m number depth
steps_as_asked messages m hand request number depth r held item asks is =
    let ends = ends_at _ held refl (moved (Allows.acts (ap said is))) in
    let w = subst (λ (held : Option Hand). HandWished m.state.wishes.wanted.step m.state.threads held) held
    (always_wished r) ends.need (ap is_step_item item ∙ asks_step asks) in
    let a = asked_step m.state.threads w.0 asks
    (subst (λ (item : Item). ItemSteps m.state.threads item w.0) item w.2) in
    let wishes_it = w.1 ∙ ap (λ (depth : Depth). in_flight w.0.thread depth) a.1 in record {
      thread = w.0.thread;
      has_number = a.0;
      is_wished = wishes_it;
      is_set = set_step w.0.thread depth r ends.near (binds_first messages m of_stop r is).none_due wishes_it;
    }
