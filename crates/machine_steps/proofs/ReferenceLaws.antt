-- Frames and containers are numbered as they are first told in a stop: what each move keeps.
use Rattle.std.proofs.Common.{◌≡◌, ◌≤◌, ◌<◌, ◌+◌, ℕ, zero, suc, Bool, true, false, List, [], ◌∷◌, ◌++◌, filter}
use Rattle.std.proofs.Common.{filter_map, length, map, Option, Some, None, refl, sym, ap, subst, ◌∙◌, arith, rules}
use Rattle.std.proofs.Common.{append-nil, option_map}
use Rattle.std.specs.Prelude.{if◌then◌else◌, option_to_list}
use Rattle.std.specs.List.{cons_option, list_any, position_or_len}
use Rattle.std.proofs.lemmas.List.{append_assoc, length-append}
use Rattle.machine_model.specs.Due.{after_deed}
use Rattle.machine_model.specs.Frames.{frame_by, frame_told}
use Rattle.machine_model.specs.Knowing.{may_send, view_of}
use Rattle.machine_model.specs.ReferenceNumbers.{AreNumbered, HaveReferences, ReferencesAre, ends_stop, frame_number}
use Rattle.machine_model.specs.ReferenceNumbers.{not_zero, references_by, variable_number}
use Rattle.machine_model.specs.References.{things_of, with_things}
use Rattle.machine_model.specs.Replying.{replied_to}
use Rattle.machine_model.specs.Requests.{Wishes, effect_due, effect_of}
use Rattle.machine_model.specs.Rows.{noted, taken}
use Rattle.machine_model.specs.Runs.{Message, Run}
use Rattle.machine_model.specs.State.{Hand, Machine, State, numbers_over}
use Rattle.machine_model.specs.Telling.{after_event, event_told, numbered_by, outcome_told, response_to}
use Rattle.machine_model.specs.Variables.{reference_of, variable_told}
use Rattle.machine_steps.specs.Names.{Clear, ClientOptions, Deed, Does, Effect, Event, Item, Note, Outcome, Part}
use Rattle.machine_steps.specs.Names.{Replied, Request, Resume, Set, ShownFrame, ShownVariable, Spot, Success}
use Rattle.machine_steps.specs.Names.{TargetCommand, Terminated, a_question, an_effect, an_event, frame_list, of_stop}
use Rattle.machine_steps.specs.Names.{scope_list, variable_list, a_value}
use Rattle.machine_steps.proofs.HeldLaws.{deed_may}
use Rattle.machine_steps.proofs.HoldingParts.{IsHolding, holding}
use Rattle.machine_steps.proofs.RequestSteps.{is_deed}
use Rattle.machine_steps.proofs.Stepping.{IsAt, Loses, Moves, by_runs, with_said}
use Rattle.stop_refs.proofs.PlaceLaws.{same_self}
use Rattle.stop_refs.specs.Numbers.{InHand, Past, next_in, number_of, with_thing}
use Rattle.stop_refs.specs.Things.{same_thing}
use Rattle.stop_refs.specs.declared.thing.Thing.{Thing}
use Rattle.stop_refs.specs.declared.thing.Thing.TheVariants.{Frame as a_frame, Locals as some_locals}
use Rattle.wish_sets.specs.Wishes.{WishChange, clears, next_change, sets}
use Rattle.machine_model.proofs.Bools.{first_holds}

-- Places --------------------------------------------------------------------------------------------------------------

place-∷ : (thing first : Thing) (others : List Thing)
    → position_or_len (same_thing thing) (first ∷ others)
    ≡ (if same_thing thing first then 0 else suc (position_or_len (same_thing thing) others))
place-∷ thing first others = search rules

any-∷ : (thing first : Thing) (others : List Thing)
    → list_any (same_thing thing) (first ∷ others)
    ≡ (if same_thing thing first then true else list_any (same_thing thing) others)
any-∷ thing first others = search rules

-- a thing among others stands before their end, also where more stand behind them
place_there : (thing : Thing) (things more : List Thing) → list_any (same_thing thing) things ≡ true
    → position_or_len (same_thing thing) (things ++ more) < length things
place_there thing [] more there = absurd cc
place_there thing (first ∷ things) more there = by_first (same_thing thing first)
    (sym (any-∷ thing first things) ∙ there) (place-∷ thing first (things ++ more)) (place_there thing things more)
  where
    by_first : (is : Bool) → (if is then true else list_any (same_thing thing) things) ≡ true
        → position_or_len (same_thing thing) (first ∷ (things ++ more))
        ≡ (if is then 0 else suc (position_or_len (same_thing thing) (things ++ more)))
        → (list_any (same_thing thing) things ≡ true → position_or_len (same_thing thing) (things ++ more) < length things)
        → position_or_len (same_thing thing) (first ∷ (things ++ more)) < length (first ∷ things)
    by_first true there place rest = omega (arith, place)
    by_first false there place rest = let behind = rest there in omega (arith, place, behind)

-- one that isn't there stands behind them
place_new : (thing : Thing) (things more : List Thing) → list_any (same_thing thing) things ≡ false
    → position_or_len (same_thing thing) (things ++ thing ∷ more) ≡ length things
place_new thing [] more new = place-∷ thing thing more ∙ rw (same_self thing) refl
place_new thing (first ∷ things) more new = by_first (same_thing thing first)
    (sym (any-∷ thing first things) ∙ new) (place-∷ thing first (things ++ thing ∷ more)) (place_new thing things more)
  where
    by_first : (is : Bool) → (if is then true else list_any (same_thing thing) things) ≡ false
        → position_or_len (same_thing thing) (first ∷ (things ++ thing ∷ more))
        ≡ (if is then 0 else suc (position_or_len (same_thing thing) (things ++ thing ∷ more)))
        → (list_any (same_thing thing) things ≡ false
        → position_or_len (same_thing thing) (things ++ thing ∷ more) ≡ length things)
        → position_or_len (same_thing thing) (first ∷ (things ++ thing ∷ more)) ≡ length (first ∷ things)
    by_first true new place rest = absurd cc
    by_first false new place rest = let behind = rest new in omega (arith, place, behind)

-- Numbers of a body ---------------------------------------------------------------------------------------------------

-- these numbers are those and more of the same stop
record Extends (numbers final : InHand) : Type 0 where
  past : final.past ≡ numbers.past
  more : List Thing
  things : final.things ≡ numbers.things ++ more

extends_one : (thing : Thing) (numbers final : InHand) → Extends (with_thing thing numbers) final
    → Extends numbers final
extends_one thing numbers final e = by_there (list_any (same_thing thing) numbers.things) e
  where
    by_there : (there : Bool)
        → Extends (if there then numbers else record numbers { things = numbers.things ++ thing ∷ [] }) final
        → Extends numbers final
    by_there true e = e
    by_there false e = record {
      past = e.past;
      more = thing ∷ e.more;
      things = e.things ∙ append_assoc numbers.things (thing ∷ []) e.more;
    }

extends_all : (things : List Thing) (numbers final : InHand) → Extends (with_things things numbers) final
    → Extends numbers final
extends_all [] numbers final e = e
extends_all (thing ∷ things) numbers final e = extends_one thing numbers final
    (extends_all things (with_thing thing numbers) final e)

abbrev number_in : InHand → Thing → ℕ
number_in numbers thing = number_of thing numbers

-- each thing is told under its number
numbered : (things : List Thing) (numbers final : InHand) → Extends (with_things things numbers) final
    → AreNumbered numbers.past.next (next_in numbers) (map (number_in final) things)
    (next_in (with_things things numbers))
numbered [] numbers final e = AreNumbered.none
numbered (thing ∷ things) numbers final e =
    by_there (list_any (same_thing thing) numbers.things) refl
    (extends_all things (with_thing thing numbers) final e) (numbered things (with_thing thing numbers) final e)
  where
    grown : Bool → InHand
    grown there = if there then numbers else record numbers { things = numbers.things ++ thing ∷ [] }

    by_there : (there : Bool) → list_any (same_thing thing) numbers.things ≡ there → Extends (grown there) final
        → AreNumbered (grown there).past.next (next_in (grown there)) (map (number_in final) things)
        (next_in (with_things things (with_thing thing numbers)))
        → AreNumbered numbers.past.next (next_in numbers) (number_in final thing ∷ map (number_in final) things)
        (next_in (with_things things (with_thing thing numbers)))
    by_there true there e rest =
        let place = place_there thing numbers.things e.more there in
        let is : number_in final thing ≡ numbers.past.next + position_or_len (same_thing thing) (numbers.things ++ e.more) =
        rw (e.past, e.things) refl in
        AreNumbered.again (omega (arith, is)) (omega (arith, is, place)) rest
    by_there false new e rest =
        let place = place_new thing numbers.things e.more new in
        let things_are = e.things ∙ append_assoc numbers.things (thing ∷ []) e.more in
        let is : number_in final thing ≡ next_in numbers =
        rw (e.past, things_are) (ap (λ (n : ℕ). numbers.past.next + n) place) in
        let more : next_in (grown false) ≡ next_in numbers + 1 =
        (let l = length-append numbers.things (thing ∷ []) in omega (arith, l)) in
        subst (λ (number : ℕ). AreNumbered numbers.past.next (next_in numbers)
        (number ∷ map (number_in final) things) (next_in (with_things things (with_thing thing numbers)))) (sym is)
        (AreNumbered.one_new (subst (λ (next : ℕ). AreNumbered numbers.past.next next (map (number_in final) things)
        (next_in (with_things things (with_thing thing numbers)))) more rest))

past_kept : (things : List Thing) (numbers : InHand) → (with_things things numbers).past ≡ numbers.past
past_kept things numbers = (extends_all things numbers (with_things things numbers)
    (record { past = refl; more = []; things = sym (append-nil (with_things things numbers).things) })).past

-- the numbers in a body are those of its things
frame_numbers : (options : ClientOptions) (numbers : InHand) (frames : List ShownFrame)
    → map frame_number (map (frame_told options numbers) frames)
    ≡ map (number_in numbers) (map (λ (shown : ShownFrame). a_frame shown.frame) frames)
frame_numbers options numbers [] = refl
frame_numbers options numbers (shown ∷ frames) =
    ap (λ (number : ℕ). number ∷ map frame_number (map (frame_told options numbers) frames)) (by_spot shown.spot)
    ∙ ap (λ (others : List ℕ). number_of (a_frame shown.frame) numbers ∷ others) (frame_numbers options numbers frames)
  where
    by_spot : (spot : Option Spot)
        → frame_number (frame_by (number_of (a_frame shown.frame) numbers) shown.name options spot)
        ≡ number_of (a_frame shown.frame) numbers
    by_spot spot = grind arith

-- numbers are positive
kept_number : (number : ℕ) (others : List ℕ) → 0 < number → filter not_zero (number ∷ others) ≡ number ∷ filter not_zero others
kept_number zero others positive = absurd (omega (arith, positive))
kept_number (suc number) others positive = refl

variable_numbers : (numbers : InHand) (shown : List ShownVariable) → 0 < numbers.past.next
    → filter not_zero (map variable_number (map (variable_told numbers) shown))
    ≡ map (number_in numbers) (filter_map (λ (one : ShownVariable). one.seen.thing) shown)
variable_numbers numbers [] positive = refl
variable_numbers numbers (one ∷ shown) positive = by_thing one.seen.thing (variable_numbers numbers shown positive)
  where
    rest : List ℕ
    rest = map variable_number (map (variable_told numbers) shown)

    by_thing : (thing : Option Thing)
        → filter not_zero rest ≡ map (number_in numbers) (filter_map (λ (one : ShownVariable). one.seen.thing) shown)
        → filter not_zero (reference_of numbers thing ∷ rest)
        ≡ map (number_in numbers) (cons_option thing (filter_map (λ (one : ShownVariable). one.seen.thing) shown))
    by_thing None same = same
    by_thing (Some thing) same = kept_number (number_of thing numbers) rest (omega (arith, positive))
        ∙ ap (λ (others : List ℕ). number_of thing numbers ∷ others) same

value_numbers : (numbers : InHand) (thing : Option Thing) → 0 < numbers.past.next
    → filter not_zero (reference_of numbers thing ∷ []) ≡ map (number_in numbers) (option_to_list thing)
value_numbers numbers None positive = refl
value_numbers numbers (Some thing) positive = kept_number (number_of thing numbers) [] (omega (arith, positive))

-- Moves ---------------------------------------------------------------------------------------------------------------

-- by the messages so far these are the numbers of the stop in hand
abbrev AreOf : List Message → InHand → Type 0
AreOf messages numbers = ReferencesAre messages numbers.past.next (next_in numbers)

-- numbers begin at 1
grows : {first next last : ℕ} {numbers : List ℕ} → AreNumbered first next numbers last → next ≤ last
grows AreNumbered.none = omega arith
grows (AreNumbered.again above below rest) = grows rest
grows (AreNumbered.one_new rest) = let more = grows rest in omega (arith, more)

positive : {messages : List Message} {first next : ℕ} → ReferencesAre messages first next
    → (0 < first) × (0 < next)
positive ReferencesAre.none = (omega arith, omega arith)
positive (ReferencesAre.shown message ends numbers h) =
    let before = positive h in let more = grows numbers in (before.0, omega (arith, before.1, more))
positive (ReferencesAre.resumed message ends h) = let before = positive h in (before.1, before.1)
positive (ReferencesAre.lost h) = let before = positive h in (before.1, before.1)

-- a message that is nothing to them
aside : {messages : List Message} (numbers : InHand) (message : Message) → ends_stop message ≡ false
    → references_by message ≡ [] → AreOf messages numbers → AreOf (messages ++ message ∷ []) numbers
aside {messages} numbers message ends none h = ReferencesAre.shown message ends
    (subst (λ (all : List ℕ). AreNumbered numbers.past.next (next_in numbers) all (next_in numbers)) (sym none)
    AreNumbered.none) h

-- numbers that are over
spent : {messages : List Message} (numbers : InHand) → ReferencesAre messages (next_in numbers) (next_in numbers)
    → AreOf messages (numbers_over true numbers)
spent {messages} numbers h = subst (λ (next : ℕ). ReferencesAre messages (next_in numbers) next) (omega arith) h

-- the stop in hand is lost with its target
lost_now : {messages : List Message} (stopped : Bool) (numbers : InHand) → AreOf messages numbers
    → AreOf messages (numbers_over stopped numbers)
lost_now false numbers h = h
lost_now true numbers h = spent numbers (ReferencesAre.lost h)

same_numbers : {messages : List Message} (numbers now : InHand) → now ≡ numbers → AreOf messages numbers
    → AreOf messages now
same_numbers {messages} numbers now is h = subst (λ (all : InHand). AreOf messages all) (sym is) h

pub noted_numbers : (note : Note) (state : State) → (noted note state).numbers ≡ state.numbers
noted_numbers note state = grind arith

pub replied_numbers : (command : TargetCommand) (replied : Replied) (state : State)
    → (replied_to command replied state).numbers ≡ state.numbers
replied_numbers command replied state = grind arith

pub taken_numbers : (item : Item) (state : State) → (taken item state).numbers ≡ state.numbers
taken_numbers item state = grind arith

-- a message that tells things by numbers
by_things : {messages : List Message} (things : List Thing) (numbers : InHand) (message : Message)
    → ends_stop message ≡ false
    → references_by message ≡ map (number_in (with_things things numbers)) things → AreOf messages numbers
    → AreOf (messages ++ message ∷ []) (with_things things numbers)
by_things {messages} things numbers message ends are h =
    let now = with_things things numbers in
    subst (λ (first : ℕ). ReferencesAre (messages ++ message ∷ []) first (next_in now))
    (sym (ap (λ (past : Past). past.next) (past_kept things numbers)))
    (ReferencesAre.shown message ends (subst (λ (all : List ℕ). AreNumbered numbers.past.next (next_in numbers) all
    (next_in now)) (sym are) (numbered things numbers now
    (record { past = refl; more = []; things = sym (append-nil now.things) }))) h)

responded_on : {messages : List Message} (request : Request) (outcome : Outcome) (state : State)
    → AreOf messages state.numbers
    → AreOf (messages ++ Message.tells (response_to request (outcome_told outcome state)) ∷ [])
    (numbered_by outcome state).numbers
responded_on {messages} request (Success (frame_list total frames)) state h =
    by_things (things_of (frame_list total frames)) state.numbers _ refl
    (frame_numbers state.options (with_things (things_of (frame_list total frames)) state.numbers) frames) h
responded_on {messages} request (Success (scope_list frame)) state h =
    by_things (some_locals frame ∷ []) state.numbers _ refl refl h
responded_on {messages} request (Success (variable_list shown)) state h =
    let now = with_things (things_of (variable_list shown)) state.numbers in
    by_things (things_of (variable_list shown)) state.numbers _ refl
    (variable_numbers now shown (subst (λ (past : Past). 0 < past.next)
    (sym (past_kept (things_of (variable_list shown)) state.numbers)) (positive h).0)) h
responded_on {messages} request (Success (a_value seen)) state h =
    let now = with_things (things_of (a_value seen)) state.numbers in
    by_things (things_of (a_value seen)) state.numbers _ refl
    (value_numbers now seen.thing (subst (λ (past : Past). 0 < past.next)
    (sym (past_kept (things_of (a_value seen)) state.numbers)) (positive h).0)) h
responded_on request _ state h = aside state.numbers _ refl refl h

told_on : {messages : List Message} (event : Event) (state : State) → AreOf messages state.numbers
    → AreOf (messages ++ Message.tells (an_event (event_told event (after_event event state))) ∷ [])
    (after_event event state).numbers
told_on Terminated state h = aside (numbers_over state.stopped state.numbers) _ refl refl (lost_now state.stopped state.numbers h)
told_on _ state h = aside state.numbers _ refl refl h

deed_on : {messages : List Message} (deed : Deed) (state : State) → (deed ≡ Resume of_stop → state.stopped ≡ true)
    → AreOf messages state.numbers
    → AreOf (messages ++ Message.sends (an_effect (Does deed)) ∷ []) (after_deed deed state).numbers
deed_on {messages} (Resume of_stop) state in_stop h =
    subst (λ (stopped : Bool). AreOf (messages ++ Message.sends (an_effect (Does (Resume of_stop))) ∷ [])
    (numbers_over stopped state.numbers)) (sym (in_stop refl)) (spent state.numbers (ReferencesAre.resumed _ refl h))
deed_on _ state in_stop h = aside state.numbers _ refl refl h

in_its_stop : {m : Machine} {hand : Hand} {deed : Deed} {rest : List Part} → IsHolding m
    → IsAt m hand (Part.Sends deed) rest → deed ≡ Resume of_stop → m.state.stopped ≡ true
in_its_stop {m} {hand} {deed} {rest} w at is = first_holds m.state.stopped _
    (subst (λ (deed : Deed). may_send (an_effect (Does deed)) (view_of m) ≡ true) is (deed_may m hand deed rest w at))

request_on : {messages : List Message} (numbers : InHand) (effect : Effect) → is_deed effect ≡ false
    → AreOf messages numbers → AreOf (messages ++ Message.sends (an_effect effect) ∷ []) numbers
request_on numbers (Does deed) is h = cc
request_on numbers _ is h = aside numbers _ refl refl h

-- `updates` sends no deed
pub due_request : (w : Wishes) (effect : Effect) → effect_due w ≡ Some effect → is_deed effect ≡ false
due_request w effect due = by_change (next_change w) due
  where
    by_change : (change : Option WishChange) → option_map effect_of change ≡ Some effect → is_deed effect ≡ false
    by_change None is = cc
    by_change (Some (sets wish)) is = let same : Set wish ≡ effect = cc in sym (ap is_deed same)
    by_change (Some (clears one)) is = let same : Clear one.wish one.request ≡ effect = cc in sym (ap is_deed same)

references_on : (messages : List Message) (m next : Machine) (said : Option Message) → IsHolding m
    → AreOf messages m.state.numbers → Moves m said next → AreOf (with_said messages said) next.state.numbers
references_on messages m next said w h (Moves.begins picked free none is) = same_numbers m.state.numbers next.state.numbers (taken_numbers picked.item m.state) h
references_on messages m next said w h (Moves.drops free is none) = h
references_on messages m next said w h (Moves.responds {request = request} {outcome} free at is) =
    responded_on request outcome m.state h
references_on messages m next said w h (Moves.finds found free at is done) = h
references_on messages m next said w h (Moves.passes_over free at why) = h
references_on messages m next said w h (Moves.tells {event = event} free at) = told_on event m.state h
references_on messages m next said w h (Moves.sends {deed = deed} free at near) = deed_on deed m.state (in_its_stop w at) h
references_on messages m next said w h (Moves.updates {effect = effect} free at is near) =
    request_on m.state.numbers effect (due_request m.state.wishes effect is) h
references_on messages m next said w h (Moves.notes {note = note} free at) = same_numbers m.state.numbers next.state.numbers (noted_numbers note m.state) h
references_on messages m next said w h (Moves.unfolds free at) = h
references_on messages m next said w h (Moves.queues free is) = h
references_on messages m next said w h (Moves.answers {question} {replied} is waits reply last) =
    aside next.state.numbers _ refl refl (same_numbers m.state.numbers next.state.numbers (replied_numbers (a_question question) replied m.state) h)
references_on messages m next said w h (Moves.replies {effect} {replied} is flying reply last) =
    aside next.state.numbers _ refl refl (same_numbers m.state.numbers next.state.numbers (replied_numbers (an_effect effect) replied m.state) h)
references_on messages m next said w h (Moves.loses late away Loses.by_end) =
    aside (numbers_over m.state.stopped m.state.numbers) _ refl refl (lost_now m.state.stopped m.state.numbers h)
references_on messages m next said w h (Moves.loses late away (Loses.by_question is waits reply last)) =
    aside (numbers_over m.state.stopped m.state.numbers) _ refl refl (lost_now m.state.stopped m.state.numbers h)
references_on messages m next said w h (Moves.loses late away (Loses.by_effect is flying reply last)) =
    aside (numbers_over m.state.stopped m.state.numbers) _ refl refl (lost_now m.state.stopped m.state.numbers h)
references_on messages m next said w h _ = aside m.state.numbers _ refl refl h

-- The law -------------------------------------------------------------------------------------------------------------

pub references_are : (messages : List Message) (m : Machine) → Run messages m → HaveReferences messages
references_are messages m r = record {
  first = m.state.numbers.past.next;
  next = next_in m.state.numbers;
  are = by_runs {Holds = λ (messages : List Message) (m : Machine). AreOf messages m.state.numbers} (record {
    starts = ReferencesAre.none;
    moves = λ messages m next said r h moved after. references_on messages m next said (holding r) h moved;
    queues = λ messages m hand queue r may h. h;
  }) r;
}
