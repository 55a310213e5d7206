-- `initialized` is told behind the success of an `attach`, and at its end the target's is.
use Rattle.std.proofs.Common.{◌≡◌, Bool, true, false, cond, not, ◌||◌, List, [], ◌∷◌, ◌++◌, Option, Some, None, refl}
use Rattle.std.proofs.Common.{sym, ap, subst, ◌∙◌, option_map, arith}
use Rattle.std.specs.List.{flat_map}
use Rattle.std.proofs.lemmas.List.Concat.{flat_map-append}
use Rattle.machine_model.specs.Due.{asked_hand}
use Rattle.machine_model.specs.Events.{AreTold, EventsAre, ends_target, is_attach, is_clients, is_success}
use Rattle.machine_model.specs.Lookups.{finished, lookup_responds}
use Rattle.machine_model.specs.Outcomes.{result_of}
use Rattle.machine_model.specs.Replying.{given_up, hand_replied, is_end, replied_to}
use Rattle.machine_model.specs.Rest.{request_by, request_in, response_by, without_response}
use Rattle.machine_model.specs.Rows.{choice_responds, chosen, end_parts, failure_of, gone_parts, has_response}
use Rattle.machine_model.specs.Rows.{is_response, noted, parts_by, parts_of, row_of, wanting}
use Rattle.machine_model.specs.Runs.{Message, Run}
use Rattle.machine_model.specs.State.{Hand, Machine, State, is_empty, is_gone, is_raw, knowing, left}
use Rattle.machine_model.specs.Telling.{news_told, number_among, after_event, event_told, numbered_by, outcome_told}
use Rattle.machine_model.specs.Breakpoints.{verified_told}
use Rattle.machine_model.specs.Knowing.{has_last}
use Rattle.machine_model.proofs.Bools.{never}
use Rattle.machine_steps.specs.Names.{Command, Event, Failed, Failure, Initialized, Item, News, Outcome, Part, Replied}
use Rattle.machine_steps.specs.Names.{Logged}
use Rattle.machine_steps.specs.Names.{Request, Success, TargetCommand, Terminated, Want, a_composite, a_question, a_raw}
use Rattle.machine_steps.specs.Names.{a_request, a_stop, an_effect, an_event, entry_verified, some_news, target_end}
use Rattle.machine_steps.specs.Names.{thread_changed}
use Rattle.machine_steps.proofs.RestLaws.{IsDone, at_rest, late_gone, no_late, none_waiting}
use Rattle.machine_steps.proofs.ServedLaws.{IsLeft, aside_left, left_on, loss_silent, picked_all, responded_left}
use Rattle.machine_steps.proofs.ServedLaws.{silent_left}
use Rattle.machine_steps.proofs.Stepping.{IsAt, Loses, Moves, Skips, by_moves, by_runs, with_said}
use Rattle.machine_steps.proofs.Tables.{attaches, chosen_is, finished_is, free as free_test, free_once, has_attach}
use Rattle.machine_steps.proofs.Tables.{has_joined, none_attaches, once, plain_attach, row_is, responds_once}
use Rattle.machine_steps.proofs.Testing.{passed, same_noted, same_numbered, same_replied, tested, whole}
use Rattle.machine_laws.proofs.MarkLaws.{same_reply, same_told as numbered_end, same_note}

-- What is left of an item: an `attach` tells `initialized` behind its success, and no other item does -----------------

abbrev tells_attached : List Part → Bool
tells_attached (Part.Tells Initialized ∷ rest) = is_empty rest
tells_attached _ = false

abbrev attach_tail : List Part → Bool
attach_tail [] = true
attach_tail (Part.Responds (Success body) ∷ rest) = tells_attached rest
attach_tail (Part.Responds (Failed failure) ∷ rest) = is_empty rest
attach_tail (Part.Tells Initialized ∷ rest) = is_empty rest
attach_tail (Part.Tells (some_news news) ∷ rest) = false
attach_tail (Part.Tells (a_stop stopping) ∷ rest) = false
attach_tail (Part.Tells (Logged text) ∷ rest) = false
attach_tail (Part.Tells Terminated ∷ rest) = false
attach_tail (Part.Sends deed ∷ rest) = false
attach_tail (Part.Looks lookup ∷ rest) = false
attach_tail (Part.Awaits guard ∷ rest) = attach_tail rest
attach_tail (Part.Updates ∷ rest) = attach_tail rest
attach_tail (Part.Notes note ∷ rest) = attach_tail rest
attach_tail (Part.Unfolds choice ∷ rest) = false
attach_tail (Part.Ends finish ∷ rest) = false

abbrev item_attaches : Item → Bool
item_attaches (a_request request) = is_attach request.command
item_attaches (a_composite at composite) = false
item_attaches (a_raw at body) = false
item_attaches target_end = false

abbrev fits : Item → List Part → Bool
fits item parts = cond (item_attaches item) (attach_tail parts) (not (has_attach parts))

row_fits : (failure : Option Failure) (command : Command) (state : State)
    → cond (is_attach command) (attach_tail (parts_by failure (row_of command state)))
    (not (has_attach (parts_by failure (row_of command state)))) ≡ true
row_fits failure command state = grind arith

begun_fits : (state : State) (item : Item) → fits item (parts_of state item) ≡ true
begun_fits state (a_request request) = row_fits (failure_of (wanting request.command) state) request.command state
begun_fits state (a_raw at body) = refl
begun_fits state _ = grind arith

gone_fits : (responds : Bool) (item : Item) → fits item (gone_parts responds item) ≡ true
gone_fits responds item = grind arith

tail_fits : (item : Item) (part : Part) (rest : List Part) → fits item (part ∷ rest) ≡ true → fits item rest ≡ true
tail_fits item part rest is = by_item (item_attaches item) is
  where
    by_item : (attaches : Bool) → cond attaches (attach_tail (part ∷ rest)) (not (has_attach (part ∷ rest))) ≡ true
        → cond attaches (attach_tail rest) (not (has_attach rest)) ≡ true
    by_item attaches is = grind (arith, is)

-- a look-up, or a choice, stands in no `attach`
block_fits : (item : Item) (part : Part) (parts rest : List Part) → attach_tail (part ∷ rest) ≡ false
    → has_attach (parts ++ rest) ≡ has_attach rest → fits item (part ∷ rest) ≡ true → fits item (parts ++ rest) ≡ true
block_fits item part parts rest none same is = by_item (item_attaches item) is
  where
    by_item : (attaches : Bool) → cond attaches (attach_tail (part ∷ rest)) (not (has_attach (part ∷ rest))) ≡ true
        → cond attaches (attach_tail (parts ++ rest)) (not (has_attach (parts ++ rest))) ≡ true
    by_item true is = let no : true ≡ false = sym is ∙ none in cc
    by_item false is = rw same (grind (arith, is))

-- Events that are owed ------------------------------------------------------------------------------------------------

-- the response was told, and `initialized` wasn't
abbrev owes_event : List Part → Bool
owes_event parts = cond (has_response parts) false (has_attach parts)

abbrev hand_owes : Option Hand → Bool
hand_owes None = false
hand_owes (Some hand) = owes_event hand.parts

abbrev hand_fits : Option Hand → Bool
hand_fits None = true
hand_fits (Some hand) = fits hand.item hand.parts

abbrev end_in : Item → List Item
end_in target_end = target_end ∷ []
end_in (a_request request) = []
end_in (a_composite at composite) = []
end_in (a_raw at body) = []

abbrev hand_lasts : Option Hand → Bool
hand_lasts None = false
hand_lasts (Some hand) = has_last hand.parts

-- that the target is gone was told, or will be
abbrev tells_end : Machine → Bool
tells_end m =
    cond (is_gone m.state.phase)
    (m.state.terminated || (hand_lasts m.hand || not (is_empty (flat_map end_in m.waiting)))) true

-- The item in hand fits -----------------------------------------------------------------------------------------------

fits_of : {held : Option Hand} {hand : Hand} → hand_fits held ≡ true → held ≡ Some hand
    → fits hand.item hand.parts ≡ true
fits_of h is = subst (λ (hand : Option Hand). hand_fits hand ≡ true) is h

front_fits : {m : Machine} {hand : Hand} {part : Part} {rest : List Part} → hand_fits m.hand ≡ true
    → IsAt m hand part rest → fits hand.item (part ∷ rest) ≡ true
front_fits {hand = hand} h at = subst (λ (parts : List Part). fits hand.item parts ≡ true) at.parts
    (fits_of h at.in_hand)

replied_fits : (command : TargetCommand) (replied : Replied) (hand : Option Hand)
    → hand_fits (option_map (hand_replied command replied) hand) ≡ hand_fits hand
replied_fits command replied hand = grind arith

given_fits : (hand : Option Hand) → hand_fits (option_map given_up hand) ≡ true
given_fits None = refl
given_fits (Some hand) = gone_fits (has_response hand.parts) hand.item

asked_fits : (want : Want) (hand : Option Hand) → hand_fits (option_map (asked_hand want) hand) ≡ hand_fits hand
asked_fits want hand = grind arith

fits_on : (m next : Machine) (said : Option Message) → hand_fits m.hand ≡ true → Moves m said next
    → hand_fits next.hand ≡ true
fits_on m next said h (Moves.begins picked free none is) = begun_fits m.state picked.item
fits_on m next said h (Moves.drops free is none) = refl
fits_on m next said h (Moves.responds {hand} {rest} {outcome = outcome} free at is) =
    tail_fits hand.item (Part.Responds outcome) rest (front_fits h at)
fits_on m next said h (Moves.finds {hand} {rest} {lookup} found free at needs done) =
    block_fits hand.item (Part.Looks lookup) (finished lookup (result_of found) m.state) rest refl
    (plain_attach (finished lookup (result_of found) m.state) rest (finished_is lookup (result_of found) m.state).plain)
    (front_fits h at)
fits_on m next said h (Moves.passes_over {hand} {part} {rest} free at why) =
    tail_fits hand.item part rest (front_fits h at)
fits_on m next said h (Moves.tells {hand} {rest} {event} free at) =
    tail_fits hand.item (Part.Tells event) rest (front_fits h at)
fits_on m next said h (Moves.sends {hand} {rest} {deed} free at near) =
    tail_fits hand.item (Part.Sends deed) rest (front_fits h at)
fits_on m next said h (Moves.updates {hand} free at is near) = front_fits h at
fits_on m next said h (Moves.notes {hand} {note} {rest} free at) =
    tail_fits hand.item (Part.Notes note) rest (front_fits h at)
fits_on m next said h (Moves.unfolds {hand} {choice} {rest} free at) =
    block_fits hand.item (Part.Unfolds choice) (chosen choice m.state hand) rest refl
    (plain_attach (chosen choice m.state hand) rest (chosen_is choice m.state hand).plain) (front_fits h at)
fits_on m next said h (Moves.queues free is) = fits_of h is
fits_on m next said h (Moves.asks {want = want} free room is are) = asked_fits want m.hand ∙ h
fits_on m next said h (Moves.answers {question} {replied} is waits reply stays) =
    replied_fits (a_question question) replied m.hand ∙ h
fits_on m next said h (Moves.replies {effect} {replied} is flying reply stays) =
    replied_fits (an_effect effect) replied m.hand ∙ h
fits_on m next said h (Moves.loses late near why) = given_fits m.hand
fits_on m next said h _ = h

-- What is told --------------------------------------------------------------------------------------------------------

record Tells (messages : List Message) (m : Machine) : Type 0 where
  fits : hand_fits m.hand ≡ true
  told : AreTold messages (without_response m) (hand_owes m.hand)

same_told : {messages : List Message} {left now : List Request} {owed later : Bool} → left ≡ now → owed ≡ later
    → AreTold messages left owed → AreTold messages now later
same_told {messages} {left} {now} {owed} {later} same owes h =
    subst (λ (requests : List Request). AreTold messages requests later) same
    (subst (λ (b : Bool). AreTold messages left b) owes h)

aside_told : {messages : List Message} {left now : List Request} {owed later : Bool} (message : Message)
    → is_clients message ≡ false → left ≡ now → cond (ends_target message) false owed ≡ later
    → AreTold messages left owed → AreTold (messages ++ message ∷ []) now later
aside_told message is same owes h = same_told same owes (AreTold.aside message is h)

-- what is owed by the item in hand, where its parts stay or one that tells nothing is passed
passed_owes : {m : Machine} {hand : Hand} {part : Part} {rest : List Part} → IsAt m hand part rest
    → owes_event (part ∷ rest) ≡ owes_event rest → hand_owes m.hand ≡ owes_event rest
passed_owes at same = ap hand_owes at.in_hand ∙ ap owes_event at.parts ∙ same

becomes_owes : {m : Machine} {hand : Hand} {part : Part} {rest : List Part} (parts : List Part) → IsAt m hand part rest
    → owes_event (part ∷ rest) ≡ owes_event parts → hand_owes m.hand ≡ owes_event parts
becomes_owes parts at same = ap hand_owes at.in_hand ∙ ap owes_event at.parts ∙ same

replied_owes : (command : TargetCommand) (replied : Replied) (hand : Option Hand)
    → hand_owes (option_map (hand_replied command replied) hand) ≡ hand_owes hand
replied_owes command replied hand = grind arith

-- an item that is begun owes no event
begun_owes : (state : State) (item : Item) → owes_event (parts_of state item) ≡ false
begun_owes state (a_request request) =
    rw (row_is (failure_of (wanting request.command) state) request.command state).responds refl
begun_owes state (a_raw at body) = refl
begun_owes state _ = grind arith

given_owes : (hand : Option Hand) → hand_owes (option_map given_up hand) ≡ false
given_owes None = refl
given_owes (Some hand) = by_item (has_response hand.parts) hand.item
  where
    by_item : (responds : Bool) (item : Item) → owes_event (gone_parts responds item) ≡ false
    by_item responds item = grind arith

-- the response of an `attach` that succeeds is followed by its event, any other is not
answered_owes : (request : Request) (outcome : Outcome) (state : State) (item : Item) (rest : List Part)
    → item ≡ a_request request → has_response rest ≡ false → fits item (Part.Responds outcome ∷ rest) ≡ true
    → cond (is_attach request.command) (is_success (outcome_told outcome state)) false ≡ owes_event rest
answered_owes request outcome state item rest is none h = rw none (by_attach (is_attach request.command)
    (subst (λ (item : Item). fits item (Part.Responds outcome ∷ rest) ≡ true) is h))
  where
    by_attach : (attaches : Bool)
        → cond attaches (attach_tail (Part.Responds outcome ∷ rest)) (not (has_attach
        (Part.Responds outcome ∷ rest))) ≡ true
        → cond attaches (is_success (outcome_told outcome state)) false ≡ has_attach rest
    by_attach true is = by_outcome outcome rest is
      where
        by_outcome : (outcome : Outcome) (rest : List Part) → attach_tail (Part.Responds outcome ∷ rest) ≡ true
            → is_success (outcome_told outcome state) ≡ has_attach rest
        by_outcome outcome rest is = grind (arith, is)
    by_attach false is = grind (arith, is)

-- a part that isn't the response, and doesn't attach, changes nothing that is owed
plain_owes : (part : Part) (rest : List Part) → is_response part ≡ false → attaches part ≡ false
    → owes_event (part ∷ rest) ≡ owes_event rest
plain_owes part rest is none = rw (is, none) refl

-- a look-up or a choice becomes parts that bring the response where it did, and attach nothing
block_owes : (part : Part) (responds : Bool) (parts rest : List Part) → is_response part ≡ responds
    → attaches part ≡ false → has_response parts ≡ responds → has_attach (parts ++ rest) ≡ has_attach rest
    → owes_event (part ∷ rest) ≡ owes_event (parts ++ rest)
block_owes part responds parts rest is none brings same =
    rw (is, none, has_joined parts rest, brings, same) refl

loss_ends : {m : Machine} {message : Message} {late : List TargetCommand} → Loses m message late
    → (is_clients message ≡ false) × (ends_target message ≡ true)
loss_ends Loses.by_end = (refl, refl)
loss_ends (Loses.by_question in_hand waits reply is) = (refl, is)
loss_ends (Loses.by_effect in_hand flying reply is) = (refl, is)

-- a reply that isn't the target's end
not_end : (gone last owed : Bool) → cond gone false last ≡ false → (gone ≡ true → owed ≡ false)
    → cond last false owed ≡ owed
not_end true true owed is none = sym (none refl)
not_end false true owed is none = cc
not_end _ false owed is none = refl

-- the request that is heard is the last without a response
heard_left : {left now : List Request} {request : Request} → IsLeft left now (Some (Message.hears request))
    → now ≡ left ++ request ∷ []
heard_left why = grind (arith, why)

skipped_owes : {m : Machine} {hand : Hand} (part : Part) (rest : List Part) → Skips m hand part
    → hand_fits m.hand ≡ true
    → IsAt m hand part rest → owes_event (part ∷ rest) ≡ owes_event rest
skipped_owes {hand = hand} part rest (Skips.no_request is) h at =
    by_item hand.item is (front_fits h at)
  where
    by_item : (item : Item) → request_in item ≡ [] → fits item (part ∷ rest) ≡ true
        → owes_event (part ∷ rest) ≡ owes_event rest
    by_item item is f = grind (arith, is, f)
skipped_owes part rest _ h at = refl

-- in a target that is gone no event is owed
none_gone : {messages : List Message} {m : Machine} → Run messages m → is_gone m.state.phase ≡ true
    → hand_owes m.hand ≡ false
none_gone {m = m} r gone = by_hand m.hand (subst (λ (gone : Bool). passed free_once gone m.hand ≡ true) gone
    (tested free_test r))
  where
    by_hand : (hand : Option Hand) → passed free_once true hand ≡ true → hand_owes hand ≡ false
    by_hand None h = refl
    by_hand (Some hand) h = rw (none_attaches hand.parts h) (never (has_response hand.parts))

now_told : {messages : List Message} {m : Machine} (next : Machine) → Tells messages m
    → IsLeft (without_response m) (without_response next) None → hand_owes m.hand ≡ hand_owes next.hand
    → AreTold messages (without_response next) (hand_owes next.hand)
now_told next h l owes = same_told (silent_left l) owes h.told

more_told : {messages : List Message} {m : Machine} (next : Machine) (message : Message) → is_clients message ≡ false
    → request_by message ≡ [] → response_by message ≡ [] → Tells messages m
    → IsLeft (without_response m) (without_response next) (Some message)
    → cond (ends_target message) false (hand_owes m.hand) ≡ hand_owes next.hand
    → AreTold (messages ++ message ∷ []) (without_response next) (hand_owes next.hand)
more_told next message is none_heard none_told h l owes =
    aside_told message is (aside_left message none_heard none_told l) owes h.told

-- the event of an `attach` is its last part, and the word that nothing more comes owes nothing
attached_last : (item : Item) (rest : List Part) → fits item (Part.Tells Initialized ∷ rest) ≡ true → rest ≡ []
attached_last item rest is = by_rest rest (item_attaches item) is
  where
    by_rest : (rest : List Part) (attaches : Bool) → cond attaches (is_empty rest) false ≡ true → rest ≡ []
    by_rest rest attaches is = grind (arith, is)

none_owed : (attaches responds has : Bool) → cond attaches false (not has) ≡ true → cond responds false has ≡ false
none_owed attaches responds has is = grind (arith, is)

-- what is news is told where no event is owed
news_on : {messages : List Message} {requests : List Request} (state : State) (news : News)
    → AreTold messages requests false
    → AreTold (messages ++ Message.tells (an_event (news_told news state)) ∷ []) requests false
news_on state (entry_verified entry) h = AreTold.breakpoint (verified_told state.options.lines_from_one entry) h
news_on state (thread_changed started thread) h =
    AreTold.thread (record { started = started; id = number_among state.threads thread }) h

-- the event is told
event_on : {messages : List Message} {m : Machine} {hand : Hand} {rest : List Part} (event : Event) → Tells messages m
    → IsAt m hand (Part.Tells event) rest
    → without_response m ≡ without_response (left (knowing m (after_event event m.state)) hand rest)
    → AreTold (messages ++ Message.tells (an_event (event_told event (after_event event m.state))) ∷ [])
    (without_response (left (knowing m (after_event event m.state)) hand rest)) (owes_event rest)
event_on {messages} {m} {hand} {rest} Initialized h at same =
    let none = attached_last hand.item rest (front_fits h.fits at) in
    same_told refl (sym (ap owes_event none))
    (AreTold.initialized (same_told same (ap hand_owes at.in_hand ∙ ap owes_event at.parts
    ∙ ap (λ (rest : List Part). owes_event (Part.Tells Initialized ∷ rest)) none) h.told))
event_on {messages} {m} {hand} {rest} (some_news news) h at same =
    let none = none_owed (item_attaches hand.item) (has_response rest) (has_attach rest) (front_fits h.fits at) in
    same_told refl (sym none)
    (news_on (after_event (some_news news) m.state) news (same_told same (ap hand_owes at.in_hand ∙ ap owes_event at.parts ∙ none) h.told))
event_on {messages} {m} {hand} {rest} (a_stop stopping) h at same =
    let none = none_owed (item_attaches hand.item) (has_response rest) (has_attach rest) (front_fits h.fits at) in
    same_told refl (sym none) (AreTold.stopped _
    (same_told same (ap hand_owes at.in_hand ∙ ap owes_event at.parts ∙ none) h.told))
event_on {messages} {m} {hand} {rest} (Logged text) h at same =
    let none = none_owed (item_attaches hand.item) (has_response rest) (has_attach rest) (front_fits h.fits at) in
    same_told refl (sym none) (AreTold.output text
    (same_told same (ap hand_owes at.in_hand ∙ ap owes_event at.parts ∙ none) h.told))
event_on {messages} {m} {hand} {rest} Terminated h at same =
    let none = none_owed (item_attaches hand.item) (has_response rest) (has_attach rest) (front_fits h.fits at) in
    same_told refl (sym none)
    (AreTold.terminated (same_told same (ap hand_owes at.in_hand ∙ ap owes_event at.parts ∙ none) h.told))

tells_on : (messages : List Message) (m next : Machine) (said : Option Message) → Run messages m → Tells messages m
    → Moves m said next → IsLeft (without_response m) (without_response next) said
    → AreTold (with_said messages said) (without_response next) (hand_owes next.hand)
tells_on messages m next said r h (Moves.begins picked free none is) l =
    now_told next h l (ap hand_owes none ∙ sym (begun_owes m.state picked.item))
tells_on messages m next said r h (Moves.drops {hand} free is none) l =
    now_told next h l (ap hand_owes is ∙ ap owes_event none)
tells_on messages m next said r h (Moves.responds {hand} {rest} {request} {outcome} free at is) l =
    let others : has_response rest ≡ false = grind (arith, whole responds_once (tested once r) at) in
    same_told refl (answered_owes request outcome m.state hand.item rest is others (front_fits h.fits at))
    (AreTold.responds (outcome_told outcome m.state)
    (same_told (responded_left at is others) (ap hand_owes at.in_hand ∙ ap owes_event at.parts) h.told))
tells_on messages m next said r h (Moves.finds {hand} {rest} {lookup} found free at needs done) l =
    let b = finished_is lookup (result_of found) m.state in
    now_told next h l (becomes_owes (finished lookup (result_of found) m.state ++ rest) at (block_owes
    (Part.Looks lookup) (lookup_responds lookup)
    (finished lookup (result_of found) m.state) rest refl refl b.is
    (plain_attach (finished lookup (result_of found) m.state) rest b.plain)))
tells_on messages m next said r h (Moves.passes_over {hand} {part} {rest} free at why) l =
    now_told next h l (passed_owes at (skipped_owes part rest why h.fits at))
tells_on messages m next said r h (Moves.tells {event = event} free at) l =
    event_on event h at (aside_left _ refl refl l)
tells_on messages m next said r h (Moves.sends {rest = rest} {deed} free at near) l =
    more_told next _ refl refl refl h l (passed_owes at (plain_owes (Part.Sends deed) rest refl refl))
tells_on messages m next said r h (Moves.updates {rest = rest} free at is near) l =
    more_told next _ refl refl refl h l (ap hand_owes at.in_hand ∙ ap owes_event at.parts)
tells_on messages m next said r h (Moves.notes {note = note} {rest} free at) l =
    now_told next h l (passed_owes at (plain_owes (Part.Notes note) rest refl refl))
tells_on messages m next said r h (Moves.unfolds {hand} {choice} {rest} free at) l =
    let b = chosen_is choice m.state hand in
    now_told next h l (becomes_owes (chosen choice m.state hand ++ rest) at (block_owes (Part.Unfolds choice)
    (choice_responds choice) (chosen choice m.state hand)
    rest refl refl b.is (plain_attach (chosen choice m.state hand) rest b.plain)))
tells_on messages m next said r h (Moves.queues free is) l = now_told next h l (ap hand_owes is)
tells_on messages m next said r h (Moves.asks {hand} {want} free room is are) l =
    more_told next _ refl refl refl h l (asked_owes want m.hand)
  where
    asked_owes : (want : Want) (held : Option Hand) → hand_owes held ≡ hand_owes (option_map (asked_hand want) held)
    asked_owes want held = grind arith
tells_on messages m next said r h (Moves.hears {request} read is) l =
    same_told (sym (heard_left l)) refl (AreTold.hears request h.told)
tells_on messages m next said r h (Moves.answers {question} {replied} is waits reply stays) l =
    more_told next _ refl refl refl h l (not_end (is_gone m.state.phase) (is_end (a_question question) replied)
    (hand_owes m.hand) stays (none_gone r) ∙ sym (replied_owes (a_question question) replied m.hand))
tells_on messages m next said r h (Moves.replies {effect} {replied} is flying reply stays) l =
    more_told next _ refl refl refl h l (not_end (is_gone m.state.phase) (is_end (an_effect effect) replied)
    (hand_owes m.hand) stays (none_gone r) ∙ sym (replied_owes (an_effect effect) replied m.hand))
tells_on messages m next said r h (Moves.late {command} {replied} before after is reply) l =
    more_told next _ refl refl refl h l (late_owes (is_end command replied) (hand_owes m.hand)
    (none_gone r (late_gone m before after command (no_late r) is)))
  where
    late_owes : (last owed : Bool) → owed ≡ false → cond last false owed ≡ owed
    late_owes true owed none = sym none
    late_owes false owed none = refl
tells_on messages m next said r h (Moves.ends gone) l = more_told next _ refl refl refl h l (sym (none_gone r gone))
tells_on messages m next said r h (Moves.loses {message} late near why) l =
    let (aside, ends) = loss_ends why in
    more_told next message aside (loss_silent why).0 (loss_silent why).1 h l
    (ap (λ (b : Bool). cond b false (hand_owes m.hand)) ends ∙ sym (given_owes m.hand))
tells_on messages m next said r h _ l = more_told next _ refl refl refl h l refl

-- That the target is gone is told -------------------------------------------------------------------------------------

raw_none : (item : Item) → is_raw item ≡ true → end_in item ≡ []
raw_none item is = grind (arith, is)

last_begun : (state : State) (item : Item) → (state.terminated || not (is_empty (end_in item))) ≡ true
    → (state.terminated || has_last (parts_of state item)) ≡ true
last_begun state target_end is = by_told state.terminated
  where
    by_told : (told : Bool) → (told || has_last (end_parts told)) ≡ true
    by_told told = grind arith
last_begun state (a_request request) is = by_told state.terminated is
  where
    by_told : (told : Bool) → (told || false) ≡ true → (told || has_last (parts_of state (a_request request))) ≡ true
    by_told told is = grind (arith, is)
last_begun state (a_composite at composite) is = grind (arith, is)
last_begun state (a_raw at body) is = by_told state.terminated is
  where
    by_told : (told : Bool) → (told || false) ≡ true → (told || false) ≡ true
    by_told told is = is

some_joined : (first rest : List Item) → is_empty (first ++ rest) ≡ cond (is_empty first) (is_empty rest) false
some_joined first rest = grind arith

-- that the target is gone was told, or will be, in a target that is gone or not
abbrev will_tell : Bool → Bool → Bool → Bool → Bool
will_tell gone told lasts none = cond gone (told || (lasts || not none)) true

joined_last : (parts rest : List Part) → has_last rest ≡ true → has_last (parts ++ rest) ≡ true
joined_last [] rest is = is
joined_last (part ∷ parts) rest is = grind (arith, is, joined_last parts rest)

event_tells : (event : Event) (state : State) (rest : List Part) (none : Bool)
    → will_tell (is_gone state.phase) state.terminated (has_last (Part.Tells event ∷ rest)) none ≡ true
    → will_tell (is_gone (after_event event state).phase) (after_event event state).terminated
    (has_last rest) none ≡ true
event_tells event state rest none h = grind (arith, h)

abbrev EndTold : Machine → Type 0
EndTold m = will_tell (is_gone m.state.phase) m.state.terminated (hand_lasts m.hand) (is_empty
    (flat_map end_in m.waiting))
    ≡ true

same_end : (m : Machine) (state : State) (lasts none : Bool) → state.phase ≡ m.state.phase
    → state.terminated ≡ m.state.terminated → hand_lasts m.hand ≡ lasts
    → is_empty (flat_map end_in m.waiting) ≡ none → EndTold m
    → will_tell (is_gone state.phase) state.terminated lasts none ≡ true
same_end m state lasts none phase told last waits h = rw (phase, told) (subst (λ (b : Bool).
    will_tell (is_gone m.state.phase) m.state.terminated b none ≡ true) last (subst (λ (b : Bool).
    will_tell (is_gone m.state.phase) m.state.terminated (hand_lasts m.hand) b ≡ true) waits h))

-- behind a part that isn't that word
front_lasts : {m : Machine} {hand : Hand} {part : Part} {rest : List Part} → IsAt m hand part rest
    → has_last (part ∷ rest) ≡ has_last rest → hand_lasts m.hand ≡ has_last rest
front_lasts at same = ap hand_lasts at.in_hand ∙ ap has_last at.parts ∙ same

grows_lasts : (gone told lasts later none : Bool) → (lasts ≡ true → later ≡ true)
    → will_tell gone told lasts none ≡ true → will_tell gone told later none ≡ true
grows_lasts gone told lasts later none grows h = grind (arith, grows, h)

block_lasts : {m : Machine} {hand : Hand} {part : Part} {rest : List Part} (parts : List Part) → IsAt m hand part rest
    → has_last (part ∷ rest) ≡ has_last rest → EndTold m
    → will_tell (is_gone m.state.phase) m.state.terminated (has_last (parts ++ rest))
    (is_empty (flat_map end_in m.waiting)) ≡ true
block_lasts {m} {rest = rest} parts at same h =
    grows_lasts (is_gone m.state.phase) m.state.terminated (has_last rest) (has_last (parts ++ rest))
    (is_empty (flat_map end_in m.waiting)) (joined_last parts rest)
    (same_end m m.state (has_last rest) (is_empty (flat_map end_in m.waiting)) refl refl (front_lasts at same) refl h)

skipped_lasts : {m : Machine} {hand : Hand} {part : Part} (rest : List Part) → Skips m hand part
    → has_last (part ∷ rest) ≡ has_last rest
skipped_lasts rest why = grind (arith, why)

replied_lasts : (command : TargetCommand) (replied : Replied) (hand : Option Hand)
    → hand_lasts hand ≡ hand_lasts (option_map (hand_replied command replied) hand)
replied_lasts command replied hand = grind arith

asked_lasts : (want : Want) (hand : Option Hand) → hand_lasts hand ≡ hand_lasts (option_map (asked_hand want) hand)
asked_lasts want hand = grind arith

-- one item more waits
one_waits : (m : Machine) (item : Item) → EndTold m
    → will_tell (is_gone m.state.phase) m.state.terminated (hand_lasts m.hand)
    (is_empty (flat_map end_in (m.waiting ++ item ∷ []))) ≡ true
one_waits m item h = rw (flat_map-append end_in m.waiting (item ∷ []))
    (grows (is_gone m.state.phase) m.state.terminated (hand_lasts m.hand) (flat_map end_in m.waiting)
    (flat_map end_in (item ∷ [])) h)
  where
    grows : (gone told lasts : Bool) (first rest : List Item) → will_tell gone told lasts (is_empty first) ≡ true
        → will_tell gone told lasts (is_empty (first ++ rest)) ≡ true
    grows gone told lasts first rest h = grind (arith, h)

end_on : (m next : Machine) (said : Option Message) → EndTold m → Moves m said next → EndTold next
end_on m next said h (Moves.begins picked free none is) =
    begun_end (is_gone m.state.phase) m.state.terminated (end_in picked.item) (flat_map end_in picked.rest)
    (last_begun m.state picked.item)
    (same_end m m.state false _ refl refl (ap hand_lasts none)
    (ap is_empty (picked_all end_in (is_gone m.state.phase) m.waiting picked raw_none is)) h)
  where
    begun_end : (gone told : Bool) (first rest : List Item)
        → ((told || not (is_empty first)) ≡ true → (told || has_last (parts_of m.state picked.item)) ≡ true)
        → will_tell gone told false (is_empty (first ++ rest)) ≡ true
        → will_tell gone told (has_last (parts_of m.state picked.item)) (is_empty rest) ≡ true
    begun_end gone told first rest last h = grind (arith, last, h)
end_on m next said h (Moves.drops {hand} free is none) =
    same_end m m.state false _ refl refl (ap hand_lasts is ∙ ap has_last none) refl h
end_on m next said h (Moves.responds {rest = rest} {outcome = outcome} free at is) =
    same_end m (numbered_by outcome m.state) (has_last rest) _ (same_numbered outcome m.state)
    (numbered_end outcome m.state) (front_lasts at refl) refl h
end_on m next said h (Moves.finds {lookup = lookup} found free at needs done) =
    block_lasts (finished lookup (result_of found) m.state) at refl h
end_on m next said h (Moves.passes_over {rest = rest} free at why) =
    same_end m m.state (has_last rest) _ refl refl (front_lasts at (skipped_lasts rest why)) refl h
end_on m next said h (Moves.tells {rest = rest} {event} free at) =
    event_tells event m.state rest (is_empty (flat_map end_in m.waiting))
    (same_end m m.state (has_last (Part.Tells event ∷ rest)) _ refl refl
    (ap hand_lasts at.in_hand ∙ ap has_last at.parts) refl h)
end_on m next said h (Moves.sends {rest = rest} free at near) =
    same_end m m.state (has_last rest) _ refl refl (front_lasts at refl) refl h
end_on m next said h (Moves.updates {rest = rest} free at is near) =
    same_end m m.state (has_last (Part.Updates ∷ rest)) _ refl refl
    (ap hand_lasts at.in_hand ∙ ap has_last at.parts) refl h
end_on m next said h (Moves.notes {note = note} {rest} free at) =
    same_end m (noted note m.state) (has_last rest) _ (same_noted note m.state) (same_note note m.state)
    (front_lasts at refl) refl h
end_on m next said h (Moves.unfolds {hand} {choice} free at) = block_lasts (chosen choice m.state hand) at refl h
end_on m next said h (Moves.queues {hand} free is) =
    same_end m m.state (has_last hand.parts) _ refl refl (ap hand_lasts is) refl h
end_on m next said h (Moves.asks {want = want} free room is are) =
    same_end m m.state _ _ refl refl (asked_lasts want m.hand) refl h
end_on m next said h (Moves.hears {request} read is) = one_waits m (a_request request) h
end_on m next said h (Moves.answers {question} {replied} is waits reply stays) =
    same_end m (replied_to (a_question question) replied m.state) _ _ (same_replied
    (a_question question) replied m.state)
    (same_reply (a_question question) replied m.state) (replied_lasts (a_question question) replied m.hand) refl h
end_on m next said h (Moves.replies {effect} {replied} is flying reply stays) =
    same_end m (replied_to (an_effect effect) replied m.state) _ _ (same_replied (an_effect effect) replied m.state)
    (same_reply (an_effect effect) replied m.state) (replied_lasts (an_effect effect) replied m.hand) refl h
end_on m next said h (Moves.loses late near why) = rw (flat_map-append end_in m.waiting (target_end ∷ []))
    (some_end m.state.terminated (hand_lasts (option_map given_up m.hand)) (flat_map end_in m.waiting))
  where
    some_end : (told lasts : Bool) (first : List Item)
        → (told || (lasts || not (is_empty (first ++ target_end ∷ [])))) ≡ true
    some_end told lasts [] = grind arith
    some_end told lasts (item ∷ first) = grind arith
end_on m next said h (Moves.comes {at} {composite} read sized taken) = one_waits m (a_composite at composite) h
end_on m next said h (Moves.keeps {at} {body} is) = one_waits m (a_raw at body) h
end_on m next said h (Moves.reads {at} {body} {composite} before after read is none taken) =
    same_end m m.state _ _ refl refl refl
    (ap (λ (items : List Item). is_empty (flat_map end_in items)) is
    ∙ ap is_empty (flat_map-append end_in before (a_raw at body ∷ after)
    ∙ sym (flat_map-append end_in before (a_composite at composite ∷ after)))) h
end_on m next said h _ = h

-- The law -------------------------------------------------------------------------------------------------------------

pub events_are : (messages : List Message) (m : Machine) → Run messages m → EventsAre messages m
events_are messages m r =
    let told = by_runs {Holds = Tells} (record {
      starts = record { fits = refl; told = AreTold.none };
      moves = λ messages m next said before h moved now. record {
        fits = fits_on m next said h.fits moved;
        told = tells_on messages m next said before h moved (left_on m next said (tested once before) moved);
      };
      queues = λ messages m hand queue before may h. record { fits = h.fits; told = h.told };
    }) r in
    let end = by_moves {Holds = λ (messages : List Message) (m : Machine). EndTold m}
    (record {
      starts = refl;
      moves = λ messages m next said h moved. end_on m next said h moved;
      queues = λ messages m hand queue may h. h;
    }) r in
    record {
      owed = hand_owes m.hand;
      told = told.told;
      none_owed = λ rests. ap hand_owes (at_rest r rests).no_hand;
      terminated = λ rests gone. at_end m gone (at_rest r rests) end;
    }
  where
    at_end : (m : Machine) → is_gone m.state.phase ≡ true → IsDone m → EndTold m → m.state.terminated ≡ true
    at_end m gone done end =
        let none : m.waiting ≡ [] = none_waiting (is_gone m.state.phase) m.waiting done.picks_none (rw gone refl) in
        grind (arith, end, gone, done.no_hand, none)
