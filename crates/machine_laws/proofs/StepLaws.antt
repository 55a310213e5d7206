-- A step is cleared where a stop is told, and at rest none is installed but the one in flight.
use Rattle.std.proofs.Common.{◌≡◌, Bool, true, false, cond, not, ◌||◌, ◌&&◌, List, [], ◌∷◌, ◌++◌, Option, Some, None}
use Rattle.std.proofs.Common.{refl, sym, ap, subst, ◌∙◌, option_map, arith, ℕ}
use Rattle.std.specs.Prelude.{map}
use Rattle.dap_messages.specs.declared.told.Event.TheVariants as events
use Rattle.dap_messages.specs.declared.told.Stopped.{Stopped}
use Rattle.class_tables.specs.Lookups.{found_in}
use Rattle.machine_model.specs.Due.{asked_hand, due}
use Rattle.machine_model.specs.Knowing.{lookup_stops, stopped_behind, stopped_told}
use Rattle.machine_model.specs.Lookups.{finished}
use Rattle.machine_model.specs.Outcomes.{result_of}
use Rattle.machine_model.specs.Plans.{Result}
use Rattle.machine_model.specs.Replying.{given_up, hand_replied}
use Rattle.machine_model.specs.Requests.{Wishes, wishes_after}
use Rattle.machine_model.specs.Rest.{IsAtRest}
use Rattle.machine_model.specs.Rows.{chosen, gone_parts, has_response, news_of, noted, parts_of, refused_with}
use Rattle.machine_model.specs.Rows.{request_parts, stepped_by}
use Rattle.machine_model.specs.Runs.{Allows, Message, Run, said}
use Rattle.machine_model.specs.State.{Hand, Machine, State, is_empty, is_gone, is_some}
use Rattle.machine_model.specs.Steps.{HasNoStep, IsStepAtRest}
use Rattle.machine_model.specs.Stops.{surplus, told_part}
use Rattle.machine_model.specs.Telling.{after_event}
use Rattle.machine_steps.specs.Names.{Written, Act, Attached, Choice, Classes, Command, Decides, Effect, Event, Finding}
use Rattle.machine_steps.specs.Names.{Judges, Strike, breakpoint_hits}
use Rattle.machine_steps.specs.Names.{HaltCause, Item, Leaves, Lookup, Note, Part, Replied, Stepped, Steps}
use Rattle.machine_steps.specs.Names.{TargetCommand, TellsNews, ThreadId, Want, a_question, a_raw, a_request, a_stop}
use Rattle.machine_steps.specs.Names.{an_effect, an_event, Lines, entry_verified, some_news}
use Rattle.machine_laws.proofs.BindingFacts.{only_classes}
use Rattle.machine_laws.proofs.BindingWatches.{or_false}
use Rattle.machine_steps.proofs.HoldingParts.{numbered_stop, same_stop}
use Rattle.machine_steps.proofs.RequestLaws.{settles, settling}
use Rattle.machine_steps.proofs.RequestSteps.{learnt_wishes, numbered_wishes}
use Rattle.machine_steps.proofs.Stepping.{IsAt, Moves, Skips, by_moves, moved, Loses}
use Rattle.machine_laws.proofs.SuspendLaws.{bound_at_stop}
use Rattle.machine_steps.proofs.Tables.{free as free_test, free_once, of_decided, told_alike, of_judged}
use Rattle.machine_steps.proofs.Testing.{tested, whole}
use Rattle.machine_steps.proofs.WishLemmas.{none_due_change}
use Rattle.wish_sets.proofs.LeftLaws.{at_rest}
use Rattle.wish_sets.proofs.WatchLaws.{has-append}
use Rattle.wish_sets.proofs.WishLaws.{equal_is, wished_has}
use Rattle.wish_sets.specs.Order.{has_wish}
use Rattle.wish_sets.specs.Places.{places}
use Rattle.wish_sets.specs.declared.place.Place.{Place}
use Rattle.wish_sets.specs.declared.wish.Depth.{Depth}
use Rattle.wish_sets.specs.declared.wish.Depth.TheVariants.{Over}
use Rattle.wish_sets.specs.declared.wish.Wish.{Wish}
use Rattle.wish_sets.specs.declared.wish.StepWish.{StepWish}
use Rattle.wish_sets.specs.declared.wish.Wish.TheVariants as wishes
use Rattle.wish_sets.specs.Wanted.{Wanted}
use Rattle.wish_sets.specs.Wished.{stepping, stops, thrown, watched, wished}
use Rattle.wish_sets.specs.Wishes.{is_installed}
use Rattle.machine_model.proofs.Bools.{and_first, first_fails, second_holds}

-- What is left of an item ----------------------------------------------------------------------------------------------

-- a step is wished behind a part
abbrev steps_noted : Note → Bool → Bool
steps_noted (Steps step) steps = is_some step
steps_noted _ steps = steps

abbrev steps_chosen : Choice → Bool → Bool
steps_chosen Stepped steps = false
steps_chosen _ steps = steps

abbrev steps_behind : Part → Bool → Bool
steps_behind (Part.Notes note) steps = steps_noted note steps
steps_behind (Part.Unfolds choice) steps = steps_chosen choice steps
steps_behind _ steps = steps

-- where a stop is told no step is wished, and it is decided on a step, or on a composite, at an item's end
abbrev may_event : Event → Bool → Bool
may_event (a_stop stopping) steps = not steps
may_event _ steps = true

abbrev may_choose : Choice → List Part → Bool
may_choose (TellsNews below) rest = true
may_choose Judges rest = is_empty rest
may_choose (Decides logged stops) rest = is_empty rest
may_choose Stepped rest = is_empty rest
may_choose (Written seen) rest = true
may_choose (Leaves exits) rest = true

abbrev may_part : Bool → Part → List Part → Bool
may_part steps (Part.Tells event) rest = may_event event steps
may_part steps (Part.Looks (breakpoint_hits strikes)) rest = is_empty rest
may_part steps (Part.Looks lookup) rest = cond (lookup_stops lookup) (not steps) true
may_part steps (Part.Unfolds choice) rest = may_choose choice rest
may_part steps _ rest = true

-- in the end no step is wished in a stop
abbrev ends_well : Bool → Bool → Bool
ends_well stopped steps = cond stopped (not steps) true

abbrev steps_well : Bool → Bool → List Part → Bool
steps_well stopped steps [] = ends_well stopped steps
steps_well stopped steps (part ∷ parts) =
    cond (may_part steps part parts) (steps_well (stopped_behind part stopped) (steps_behind part steps) parts) false

abbrev steps_in : State → Bool
steps_in state = is_some state.wishes.wanted.step

abbrev hand_steps : Bool → Bool → Option Hand → Bool
hand_steps stopped steps None = ends_well stopped steps
hand_steps stopped steps (Some hand) = steps_well stopped steps hand.parts

abbrev IsStepping : Machine → Type 0
IsStepping m = hand_steps m.state.stopped (steps_in m.state) m.hand ≡ true

-- The tables ----------------------------------------------------------------------------------------------------------

row_steps : (state : State) (command : Command) (steps : Bool) → ends_well state.stopped steps ≡ true
    → steps_well state.stopped steps (request_parts command state) ≡ true
row_steps state command steps is = grind (arith, is)

begun_steps : (state : State) (item : Item) (steps : Bool) → ends_well state.stopped steps ≡ true
    → steps_well state.stopped steps (parts_of state item) ≡ true
begun_steps state (a_request request) steps is = row_steps state request.command steps is
begun_steps state (a_raw at body) steps is = is
begun_steps state _ steps is = grind (arith, is)

found_steps : (stopped steps : Bool) (lookup : Lookup) (result : Result Finding) (state : State) (rest : List Part)
    → steps_well stopped steps (Part.Looks lookup ∷ rest) ≡ true
    → steps_well stopped steps (finished lookup result state ++ rest) ≡ true
found_steps stopped steps lookup result state rest is = grind (arith, is)

chosen_steps : (stopped steps : Bool) (choice : Choice) (state : State) (hand : Hand) (rest : List Part)
    → state.stopped ≡ stopped → steps_well stopped steps (Part.Unfolds choice ∷ rest) ≡ true
    → steps_well stopped steps (chosen choice state hand ++ rest) ≡ true
chosen_steps stopped steps (TellsNews below) state hand rest same is =
    told_alike (steps_well stopped steps) (λ news parts. refl) state.phase (news_of below state hand.item) rest ∙ is
chosen_steps stopped steps Stepped state hand rest same is = by_rest rest (refused_with hand.effect) is
  where
    by_rest : (rest : List Part) (code : Option ℕ) → steps_well stopped steps (Part.Unfolds Stepped ∷ rest) ≡ true
        → steps_well stopped steps (stepped_by code ++ rest) ≡ true
    by_rest rest code is = grind (arith, is)
chosen_steps stopped steps Judges state hand [] same is =
    of_judged (λ (parts : List Part). steps_well stopped steps (parts ++ []) ≡ true) is (λ strikes. is) state hand.item
chosen_steps stopped steps Judges state hand (part ∷ rest) same is = cc
chosen_steps stopped steps (Decides logged stops) state hand [] same is =
    of_decided (λ (parts : List Part). steps_well stopped steps (parts ++ []) ≡ true) is is is
    (λ again thrown stops halt. by_halt again stops halt.cause halt.thread) (λ text texts stops. is) state logged stops
    hand.item
  where
    by_halt : (again : Bool) (stops : List Strike) (cause : HaltCause) (thread : ThreadId)
        → steps_well stopped false (told_part stops cause thread ∷ surplus again ++ []) ≡ true
    by_halt again stops cause thread = grind arith
chosen_steps stopped steps (Decides logged stops) state hand (part ∷ rest) same is = cc
chosen_steps stopped steps _ state hand rest same is = grind (arith, is)

gone_steps : (steps responds : Bool) (item : Item) → steps_well false steps (gone_parts responds item) ≡ true
gone_steps steps responds item = grind arith

tail_steps : (stopped steps : Bool) (part : Part) (rest : List Part) → steps_well stopped steps (part ∷ rest) ≡ true
    → steps_well (stopped_behind part stopped) (steps_behind part steps) rest ≡ true
tail_steps stopped steps part rest is = second_holds (may_part steps part rest) _ is

-- what changes of the step in a state
noted_steps : (note : Note) (state : State) → steps_in (noted note state) ≡ steps_noted note (steps_in state)
noted_steps (Lines None path entries) state = refl
noted_steps (Classes classes) state = ap (λ (wanted : Wanted). is_some wanted.step)
    (only_classes (found_in state.classes) classes state.wishes.wanted)
noted_steps _ state = refl

pub noted_stop : (note : Note) (state : State) → (noted note state).stopped ≡ state.stopped
noted_stop note state = grind arith

replied_steps : (effect : Effect) (replied : Replied) (w : Wishes)
    → is_some (wishes_after effect replied w).wanted.step ≡ is_some w.wanted.step
replied_steps effect replied w = grind arith

event_steps : (event : Event) (state : State) (rest : List Part) → steps_well (stopped_told event state.stopped)
    (steps_in state) rest ≡ true
    → steps_well (after_event event state).stopped (steps_in (after_event event state)) rest ≡ true
event_steps event state rest is = grind (arith, is)

-- In runs -------------------------------------------------------------------------------------------------------------

steps_front : {m : Machine} {hand : Hand} {part : Part} {rest : List Part} → IsStepping m → IsAt m hand part rest
    → steps_well m.state.stopped (steps_in m.state) (part ∷ rest) ≡ true
steps_front {m} h at = subst (λ (parts : List Part). steps_well m.state.stopped (steps_in m.state) parts ≡ true)
    at.parts (subst (λ (held : Option Hand). hand_steps m.state.stopped (steps_in m.state) held ≡ true) at.in_hand h)

same_hand : (stopped steps : Bool) (command : TargetCommand) (replied : Replied) (hand : Option Hand)
    → hand_steps stopped steps (option_map (hand_replied command replied) hand) ≡ hand_steps stopped steps hand
same_hand stopped steps command replied hand = grind arith

asked_same : (stopped steps : Bool) (want : Want) (hand : Option Hand)
    → hand_steps stopped steps (option_map (asked_hand want) hand) ≡ hand_steps stopped steps hand
asked_same stopped steps want hand = grind arith

skipped_steps : {m : Machine} {hand : Hand} {part : Part} (rest : List Part) → Skips m hand part
    → steps_well m.state.stopped (steps_in m.state) (part ∷ rest) ≡ true
    → steps_well m.state.stopped (steps_in m.state) rest ≡ true
skipped_steps rest why h = grind (arith, why, h)

stepping_on : (m next : Machine) (said : Option Message) → IsStepping m → Moves m said next → IsStepping next
stepping_on m next said h (Moves.begins picked free none is) =
    begun_steps m.state picked.item (steps_in m.state)
    (subst (λ (held : Option Hand). hand_steps m.state.stopped (steps_in m.state) held ≡ true) none h)
stepping_on m next said h (Moves.drops {hand} free is none) =
    subst (λ (parts : List Part). steps_well m.state.stopped (steps_in m.state) parts ≡ true) none
    (subst (λ (held : Option Hand). hand_steps m.state.stopped (steps_in m.state) held ≡ true) is h)
stepping_on m next said h (Moves.responds {rest = rest} {outcome = outcome} free at is) =
    rw (numbered_stop outcome m.state, numbered_wishes outcome m.state) (steps_front h at)
stepping_on m next said h (Moves.finds {rest = rest} {lookup} found free at needs done) =
    found_steps m.state.stopped (steps_in m.state) lookup (result_of found) m.state rest (steps_front h at)
stepping_on m next said h (Moves.passes_over {rest = rest} free at why) = skipped_steps rest why (steps_front h at)
stepping_on m next said h (Moves.tells {rest = rest} {event} free at) = event_steps event m.state rest
    (tail_steps m.state.stopped (steps_in m.state) (Part.Tells event) rest (steps_front h at))
stepping_on m next said h (Moves.sends {rest = rest} {deed} free at near) =
    tail_steps m.state.stopped (steps_in m.state) (Part.Sends deed) rest (steps_front h at)
stepping_on m next said h (Moves.updates free at is near) = steps_front h at
stepping_on m next said h (Moves.notes {note = note} {rest} free at) =
    rw (noted_stop note m.state, noted_steps note m.state)
    (tail_steps m.state.stopped (steps_in m.state) (Part.Notes note) rest (steps_front h at))
stepping_on m next said h (Moves.unfolds {hand} {choice} {rest} free at) =
    chosen_steps m.state.stopped (steps_in m.state) choice m.state hand rest refl (steps_front h at)
stepping_on m next said h (Moves.queues free is) =
    subst (λ (held : Option Hand). hand_steps m.state.stopped (steps_in m.state) held ≡ true) is h
stepping_on m next said h (Moves.asks {want = want} free room is are) =
    asked_same m.state.stopped (steps_in m.state) want m.hand ∙ h
stepping_on m next said h (Moves.answers {question} {replied} is waits reply stays) =
    rw (same_stop (a_question question) replied m.state, learnt_wishes question replied m.state)
    (same_hand m.state.stopped (steps_in m.state) (a_question question) replied m.hand ∙ h)
stepping_on m next said h (Moves.replies {effect} {replied} is flies reply stays) =
    rw (same_stop (an_effect effect) replied m.state, replied_steps effect replied m.state.wishes)
    (same_hand m.state.stopped (steps_in m.state) (an_effect effect) replied m.hand ∙ h)
stepping_on m next said h (Moves.loses late near why) = given_steps m.hand
  where
    given_steps : (hand : Option Hand) → hand_steps false (steps_in m.state) (option_map given_up hand) ≡ true
    given_steps None = refl
    given_steps (Some hand) = gone_steps (steps_in m.state) (has_response hand.parts) hand.item
stepping_on m next said h _ = h

steps_kept : {messages : List Message} {m : Machine} → Run messages m → IsStepping m
steps_kept r = by_moves {Holds = λ (messages : List Message) (m : Machine). IsStepping m}
    (record {
      starts = refl;
      moves = λ messages m next said h moved. stepping_on m next said h moved;
      queues = λ messages m hand queue may h. h;
    }) r

-- Which steps are wished ----------------------------------------------------------------------------------------------

no_watch : (thread : ThreadId) (depth : Depth) (paths : List (List ℕ))
    → has_wish (map wishes.Watch paths) (wishes.Step thread depth) ≡ false
no_watch thread depth [] = refl
no_watch thread depth (path ∷ paths) = no_watch thread depth paths

no_place : (thread : ThreadId) (depth : Depth) (those : List Place)
    → has_wish (map (λ (place : Place). wishes.Stop place.at) those) (wishes.Step thread depth) ≡ false
no_place thread depth [] = refl
no_place thread depth (place ∷ those) = no_place thread depth those

no_thrown : (thread : ThreadId) (depth : Depth) (caught uncaught : Bool)
    → has_wish (thrown caught uncaught) (wishes.Step thread depth) ≡ false
no_thrown thread depth caught uncaught = grind arith

pub step_wished : (wanted : Wanted) (thread : ThreadId) (depth : Depth)
    → has_wish (wished wanted) (wishes.Step thread depth) ≡ has_wish (stepping wanted.step) (wishes.Step thread depth)
step_wished wanted thread depth =
    let it = wishes.Step thread depth in
    let first = wishes.ThreadStart ∷ wishes.ThreadDeath ∷ map wishes.Watch (watched wanted) in
    let flags = thrown wanted.caught wanted.uncaught in
    let none : has_wish (first ++ stops wanted ++ flags) it ≡ false =
    has-append it (first ++ stops wanted) flags
    ∙ ap (λ b. b || has_wish flags it) (has-append it first (stops wanted)
    ∙ ap (λ b. b || has_wish (stops wanted) it) (no_watch thread depth (watched wanted))
    ∙ no_place thread depth (places wanted))
    ∙ no_thrown thread depth wanted.caught wanted.uncaught in
    wished_has wanted it ∙ has-append it (first ++ stops wanted ++ flags) (stepping wanted.step)
    ∙ ap (λ b. b || has_wish (stepping wanted.step) it) none

-- the step of a wish
abbrev pub as_step : Wish → StepWish
as_step (wishes.Step thread depth) = record { thread = thread; depth = depth }
as_step _ = record { thread = record { 0 = 0 }; depth = Over }

-- where nothing is to be cleared or set, just the step that is wished may be installed
only_step : (w : Wishes) (thread : ThreadId) (depth : Depth)
    → is_installed w.installed (wishes.Step thread depth)
    ≡ (has_wish (wished w.wanted) (wishes.Step thread depth) && not (has_wish w.refused (wishes.Step thread depth)))
    → is_installed w.installed (wishes.Step thread depth) ≡ true
    → w.wanted.step ≡ Some (record { thread = thread; depth = depth })
only_step w thread depth is installed =
    by_step w.wanted.step (sym (step_wished w.wanted thread depth) ∙ and_first _ _ (sym is ∙ installed))
  where
    by_step : (step : Option StepWish) → has_wish (stepping step) (wishes.Step thread depth) ≡ true
        → step ≡ Some (record { thread = thread; depth = depth })
    by_step None is = cc
    by_step (Some step) is =
        ap Some (sym (ap as_step (equal_is (wishes.Step thread depth) (wishes.Step step.thread step.depth)
        (sym (or_false _) ∙ is))))

no_step : (w : Wishes) → ((thread : ThreadId) (depth : Depth) → is_installed w.installed (wishes.Step thread depth)
    ≡ (has_wish (wished w.wanted) (wishes.Step thread depth) && not (has_wish w.refused (wishes.Step thread depth))))
    → w.wanted.step ≡ None → HasNoStep w
no_step w are none = record {
  none_wished = none;
  none_installed = λ thread depth. are thread depth
      ∙ ap (λ b. b && not (has_wish w.refused (wishes.Step thread depth)))
      (step_wished w.wanted thread depth ∙ ap (λ (step : Option StepWish).
      has_wish (stepping step) (wishes.Step thread depth)) none);
}

none_of : (step : Option StepWish) → is_some step ≡ false → step ≡ None
none_of step is = grind (arith, is)

-- The laws ------------------------------------------------------------------------------------------------------------

cleared_at : {messages : List Message} (m next : Machine) (said : Option Message) (stop : Stopped) → Run messages m
    → said ≡ Some (Message.tells (an_event (events.Stopped stop))) → Moves m said next → HasNoStep m.state.wishes
cleared_at m next said stop r is (Moves.tells {event = some_news (entry_verified entry)} free at) = cc
cleared_at m next said stop r is (Moves.tells {hand} {rest} {event = a_stop stopping} free at) =
    let near = first_fails (is_gone m.state.phase) _ (whole free_once (tested free_test r) at) in
    no_step m.state.wishes (λ thread depth. at_rest m.state.wishes (settling r near).tidy
    (none_due_change m.state.wishes (bound_at_stop r at).none_due) (wishes.Step thread depth))
    (none_of m.state.wishes.wanted.step (none_steps (steps_in m.state) _ (steps_front (steps_kept r) at)))
  where
    none_steps : (steps others : Bool) → cond (not steps) others false ≡ true → steps ≡ false
    none_steps steps others is = grind (arith, is)
cleared_at m next said stop r is (Moves.loses late near Loses.by_end) = cc
cleared_at m next said stop r is _ = cc

pub clears_steps : (messages : List Message) (m : Machine) (stop : Stopped) → Run messages m
    → (due false m).act ≡ Act.Tells (an_event (events.Stopped stop)) → HasNoStep m.state.wishes
clears_steps messages m stop r is =
    cleared_at m (due false m).next _ stop r refl (moved (Allows.acts (ap said is)))

pub steps_at_rest : (messages : List Message) (m : Machine) → Run messages m → IsAtRest m → m.state.phase ≡ Attached
    → IsStepAtRest m
steps_at_rest messages m r rests attached =
    let s = settles messages m r rests attached in
    let well = subst (λ (held : Option Hand). hand_steps m.state.stopped (steps_in m.state) held ≡ true)
    s.none_in_hand (steps_kept r) in record {
      in_stop = λ stopped. no_step m.state.wishes (λ thread depth. s.just_wished (wishes.Step thread depth))
          (none_of m.state.wishes.wanted.step (none_in m.state.stopped (steps_in m.state) stopped well));
      in_flight = λ thread depth. only_step m.state.wishes thread depth (s.just_wished (wishes.Step thread depth));
    }
  where
    none_in : (stopped steps : Bool) → stopped ≡ true → ends_well stopped steps ≡ true → steps ≡ false
    none_in stopped steps is well = grind (arith, is, well)
