-- The ids of what was told by numbers in the stop in hand were read.
use Rattle.std.proofs.Common.{◌≡◌, Bool, true, false, List, [], ◌∷◌, ◌++◌, Option, None, Some, filter_map, map, subst}
use Rattle.std.proofs.Common.{sym}
use Rattle.std.specs.Prelude.{if◌then◌else◌, option_to_list}
use Rattle.std.specs.List.{AllByRecursion as All, cons_option, list_any}
use Rattle.machine_model.specs.Due.{after_deed}
use Rattle.machine_model.specs.Ids.{Id}
use Rattle.machine_model.specs.References.{things_of, with_things}
use Rattle.machine_model.specs.Runs.{Message}
use Rattle.machine_model.specs.State.{Machine, State, is_gone, numbers_over}
use Rattle.machine_model.specs.Telling.{after_event, numbered_by}
use Rattle.machine_model.proofs.IdRows.{all_joined}
use Rattle.machine_model.proofs.PlanIds.{OfShownFrame, OfShownVariable, OfThing, OnSome}
use Rattle.machine_steps.specs.Names.{Deed, Event, Outcome, Resume, ShownFrame, ShownVariable, Success, Terminated}
use Rattle.machine_steps.specs.Names.{a_question, frame_list, of_stop, scope_list, a_value, variable_list}
use Rattle.machine_steps.proofs.ReferenceLaws.{noted_numbers, replied_numbers, taken_numbers}
use Rattle.machine_steps.proofs.RequestSteps.{near_before}
use Rattle.machine_steps.proofs.Standing.{IsKept, OfOutcome, at_front}
use Rattle.machine_steps.proofs.Stepping.{Moves}
use Rattle.stop_refs.specs.Numbers.{InHand, with_thing}
use Rattle.stop_refs.specs.Things.{same_thing}
use Rattle.stop_refs.specs.declared.thing.Thing.{Thing}
use Rattle.stop_refs.specs.declared.thing.Thing.TheVariants.{Frame as a_frame, Locals as some_locals}

-- what was told in a stop passes
abbrev pub AreThings : (Id → Type 0) → InHand → Type 0
AreThings P numbers = All (OfThing P) numbers.things

one_more : (P : Id → Type 0) (thing : Thing) (numbers : InHand) → OfThing P thing → AreThings P numbers
    → AreThings P (with_thing thing numbers)
one_more P thing numbers k h = by_there (list_any (same_thing thing) numbers.things)
  where
    by_there : (there : Bool)
        → AreThings P (if there then numbers else record numbers { things = numbers.things ++ thing ∷ [] })
    by_there true = h
    by_there false = all_joined (OfThing P) numbers.things (thing ∷ []) h (k, tt)

some_more : (P : Id → Type 0) (things : List Thing) (numbers : InHand) → All (OfThing P) things → AreThings P numbers
    → AreThings P (with_things things numbers)
some_more P [] numbers k h = h
some_more P (thing ∷ things) numbers k h =
    some_more P things (with_thing thing numbers) k.1 (one_more P thing numbers k.0 h)

-- what a body tells
of_frames : (P : Id → Type 0) (frames : List ShownFrame) → All (OfShownFrame P) frames
    → All (OfThing P) (map (λ (shown : ShownFrame). a_frame shown.frame) frames)
of_frames P [] h = tt
of_frames P (shown ∷ frames) h = (h.0, of_frames P frames h.1)

of_variables : (P : Id → Type 0) (shown : List ShownVariable) → All (OfShownVariable P) shown
    → All (OfThing P) (filter_map (λ (one : ShownVariable). one.seen.thing) shown)
of_variables P [] h = tt
of_variables P (one ∷ shown) h = by_thing one.seen.thing h.0 (of_variables P shown h.1)
  where
    rest : List Thing
    rest = filter_map (λ (one : ShownVariable). one.seen.thing) shown

    by_thing : (thing : Option Thing) → OnSome (OfThing P) thing → All (OfThing P) rest
        → All (OfThing P) (cons_option thing rest)
    by_thing None k others = others
    by_thing (Some thing) k others = (k, others)

-- behind a response
responded_things : (P : Id → Type 0) (outcome : Outcome) (state : State) → OfOutcome P outcome
    → AreThings P state.numbers → AreThings P (numbered_by outcome state).numbers
responded_things P (Success (frame_list total frames)) state k h =
    some_more P (things_of (frame_list total frames)) state.numbers (of_frames P frames k) h
responded_things P (Success (scope_list one)) state k h = one_more P (some_locals one) state.numbers k h
responded_things P (Success (variable_list shown)) state k h =
    some_more P (things_of (variable_list shown)) state.numbers (of_variables P shown k) h
responded_things P (Success (a_value seen)) state k h =
    some_more P (things_of (a_value seen)) state.numbers (of_option seen.thing k) h
  where
    of_option : (thing : Option Thing) → OnSome (OfThing P) thing → All (OfThing P) (option_to_list thing)
    of_option None k = tt
    of_option (Some thing) k = (k, tt)
responded_things P _ state k h = h

-- where a stop is over nothing is told in it
over_things : (P : Id → Type 0) (stopped : Bool) (numbers : InHand) → AreThings P numbers
    → AreThings P (numbers_over stopped numbers)
over_things P false numbers h = h
over_things P true numbers h = tt

event_things : (P : Id → Type 0) (event : Event) (state : State) → AreThings P state.numbers
    → AreThings P (after_event event state).numbers
event_things P Terminated state h = over_things P state.stopped state.numbers h
event_things P _ state h = h

deed_things : (P : Id → Type 0) (deed : Deed) (state : State) → AreThings P state.numbers
    → AreThings P (after_deed deed state).numbers
deed_things P (Resume of_stop) state h = over_things P state.stopped state.numbers h
deed_things P _ state h = h

same_things : (P : Id → Type 0) (numbers now : InHand) → now ≡ numbers → AreThings P numbers → AreThings P now
same_things P numbers now is h = subst (λ (numbers : InHand). AreThings P numbers) (sym is) h

-- behind each move
pub things_on : (P : Id → Type 0) (messages : List Message) (m next : Machine) (said : Option Message)
    → AreThings P m.state.numbers → IsKept P messages m → is_gone next.state.phase ≡ false → Moves m said next
    → AreThings P next.state.numbers
things_on P messages m next said h k here (Moves.begins picked free none is) =
    same_things P m.state.numbers next.state.numbers (taken_numbers picked.item m.state) h
things_on P messages m next said h k here (Moves.responds {outcome = outcome} free at is) =
    responded_things P outcome m.state
    ((at_front k at).near (near_before m next said (Moves.responds free at is) here)).parts.0 h
things_on P messages m next said h k here (Moves.tells {event = event} free at) = event_things P event m.state h
things_on P messages m next said h k here (Moves.sends {deed = deed} free at is) = deed_things P deed m.state h
things_on P messages m next said h k here (Moves.notes {note = note} free at) =
    same_things P m.state.numbers next.state.numbers (noted_numbers note m.state) h
things_on P messages m next said h k here (Moves.answers {question} {replied} is waits reply last) =
    same_things P m.state.numbers next.state.numbers (replied_numbers (a_question question) replied m.state) h
things_on P messages m next said h k here (Moves.loses late away why) = cc
things_on P messages m next said h k here _ = h
