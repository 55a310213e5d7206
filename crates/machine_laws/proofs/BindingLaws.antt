-- At rest breakpoints are bound by all that is known of the classes in which they may stand: what each move keeps.
use Rattle.jdwp_events.specs.declared.kind.Policy.TheVariants.{All, EventThread, NoThread}
use Rattle.jdwp_events.specs.declared.kind.Policy.{Policy}
use Rattle.std.proofs.Common.{◌≡◌, true, false, List, [], ◌∷◌, ◌++◌, Option, Some, None, refl, sym, ap, subst, ◌∙◌}
use Rattle.std.proofs.Common.{option_map, Bool}
use Rattle.machine_model.specs.Binding.{AreAllBound}
use Rattle.machine_model.specs.Due.{after_deed, asked_hand, behind_first, clear, load_of}
use Rattle.machine_model.specs.Plans.{made_with, need, after, each}
use Rattle.machine_model.specs.Replying.{hand_replied, is_failed}
use Rattle.machine_model.specs.Rest.{IsAtRest}
use Rattle.machine_model.specs.Rows.{chosen, parts_of, taken}
use Rattle.machine_model.specs.Runs.{Message, Run}
use Rattle.machine_model.specs.State.{Hand, Machine, State, is_gone, fresh}
use Rattle.machine_model.specs.Telling.{after_event, numbered_by}
use Rattle.machine_model.specs.Composites.{composite_parts, has_death, learnt_in}
use Rattle.machine_steps.specs.Names.{Attached, Item, Part, Phase, Sent, Want, a_composite, a_question, an_effect}
use Rattle.machine_laws.proofs.BindingHands.{begun_noted, binds_ahead, placed, placed_rest, placed_test}
use Rattle.machine_steps.proofs.RequestLaws.{IsDue, Settling, settles, settling, was_due}
use Rattle.machine_steps.proofs.RequestSteps.{flying_in, flying_of, near_before, numbered_wishes, parts_left}
use Rattle.machine_steps.proofs.RequestSteps.{told_wishes}
use Rattle.machine_steps.proofs.Standing.{asked_in, queue_in}
use Rattle.machine_steps.proofs.Stepping.{IsAt, Moves, Skips, by_runs}
use Rattle.machine_steps.proofs.Tables.{is_updates}
use Rattle.machine_steps.proofs.Testing.{Passed, whole, tested}
use Rattle.machine_laws.proofs.BindingWatches.{none_wished, due_set}
use Rattle.machine_laws.proofs.BindingParts.{AreLike, Binding, IsBinding, Same, anew_on, are_same, as_before, asks_on}
use Rattle.machine_laws.proofs.BindingParts.{clear_now, event_same, goes_by, is_other, itself, leaves_watches}
use Rattle.machine_laws.proofs.BindingParts.{queues_on, still_binding, still_bound, told_same}
use Rattle.machine_laws.proofs.BindingReplies.{answers_on, replies_on, chosen_like, notes_on, finds_on}

-- Moves ---------------------------------------------------------------------------------------------------------------

abbrev BindingHand : State → Option Hand → Type 0
BindingHand state hand = Binding state (parts_left hand) (queue_in hand) (asked_in hand)

pub in_front : {m : Machine} {hand : Hand} {part : Part} {rest : List Part} → IsBinding m → IsAt m hand part rest
    → Binding m.state (part ∷ rest) hand.queue hand.asked
in_front {m} {hand} h at =
    subst (λ parts. Binding m.state parts hand.queue hand.asked) at.parts
    (subst (λ held. BindingHand m.state held) at.in_hand h)

-- a part that is nothing to classes is done
passes_on : {m : Machine} {hand : Hand} {part : Part} {rest : List Part} (next : State) (now : List Part)
    → load_of m ≡ clear → is_gone m.state.phase ≡ false → Passed placed m → IsAt m hand part rest
    → Same next m.state → next.wishes ≡ m.state.wishes → is_other part ≡ true → is_updates part ≡ false
    → AreLike now rest → IsBinding m → Binding next now hand.queue hand.asked
passes_on {m} {hand} {part} {rest} next now free near p at same wishes other no_update like h =
    goes_by next part rest now same (clear_now m hand free near at.in_hand) other (whole placed p at) like
    (λ needs w. leaves_watches m.state next part rest other no_update wishes needs w) (in_front h at)

skips_on : {m : Machine} {hand : Hand} {part : Part} {rest : List Part} → load_of m ≡ clear
    → is_gone m.state.phase ≡ false → Passed placed m → Settling m → IsAt m hand part rest → Skips m hand part
    → IsBinding m → Binding m.state rest hand.queue hand.asked
skips_on {m} {hand} {rest = rest} free near p s at (Skips.by_wishes is) h =
    goes_by m.state Part.Updates rest rest (itself m.state) (clear_now m hand free near at.in_hand) refl
    (whole placed p at) (are_same rest) (λ needs w. due_set m.state.wishes s.tidy is) (in_front h at)
skips_on {m} {rest = rest} free near p s at _ h =
    passes_on m.state rest free near p at (itself m.state) refl refl refl (are_same rest) h

none_left : {state : State} {queue : List Want} {asked : List Sent} → Binding state [] queue asked
    → Binding state [] [] []
none_left h = record {
  watches = h.watches;
  learnt = tt;
  waits = λ is. cc;
  ahead = λ asks. cc;
  listed = λ is. refl;
  noted = λ classes some. cc;
  bound = h.bound;
}

begins_on : {state : State} (item : Item) → Binding state [] [] []
    → Binding (taken item state) (parts_of state item) [] []
begins_on {state} item h = record {
  watches = λ needs. h.watches refl;
  learnt = tt;
  waits = λ is. cc;
  ahead = λ asks. cc;
  listed = λ is. refl;
  noted = λ classes some. absurd (let no = sym (begun_noted state item) ∙ some in cc);
  bound = λ none. still_bound (taken item state) state (same_classes item none) (h.bound refl);
}
  where
    -- classes are learnt only where they are looked up then
    same_classes : (item : Item) → binds_ahead (parts_of state item) ≡ false → Same (taken item state) state
    same_classes (a_composite at composite) none =
        as_before (taken (a_composite at composite) state) state refl refl
        (by_phase state.phase (has_death composite.events) composite.policy refl refl none)
      where
        by_phase : (phase : Phase) (dies : Bool) (policy : Policy) → has_death composite.events ≡ dies
            → composite.policy ≡ policy → binds_ahead (composite_parts phase dies policy at state.next_entry) ≡ false
            → learnt_in phase composite state.classes ≡ state.classes
        by_phase Attached true policy is under none = rw is refl
        by_phase Attached false NoThread is under none = cc
        by_phase Attached false EventThread is under none = rw (is, under) refl
        by_phase Attached false All is under none = cc
        by_phase _ dies policy is under none = refl
    same_classes _ none = itself state

put_back : {state : State} {held : Option Hand} {hand : Hand} (change : Hand → Hand) → held ≡ Some hand
    → BindingHand state (Some (change hand)) → BindingHand state (option_map change held)
put_back {state} change is h = subst (λ held. BindingHand state (option_map change held)) (sym is) h

taken_out : (m : Machine) {hand : Hand} → IsBinding m → m.hand ≡ Some hand → BindingHand m.state (Some hand)
taken_out m h is = subst (λ held. BindingHand m.state held) is h

binding_on : (m next : Machine) (said : Option Message) → is_gone m.state.phase ≡ false → Passed placed m → Settling m
    → IsBinding m → Moves m said next → is_gone next.state.phase ≡ false → IsBinding next
binding_on m next said near p s h (Moves.begins picked free none is) here =
    begins_on picked.item (subst (λ held. BindingHand m.state held) none h)
binding_on m next said near p s h (Moves.drops {hand} free is none) here =
    none_left (subst (λ parts. Binding m.state parts hand.queue hand.asked) none (taken_out m h is))
binding_on m next said near p s h (Moves.responds {rest = rest} {outcome = outcome} free at is) here =
    passes_on (numbered_by outcome m.state) rest free near p at (told_same outcome m.state)
    (numbered_wishes outcome m.state) refl refl (are_same rest) h
binding_on m next said near p s h (Moves.finds {hand} {rest} {lookup} found free at is done) here =
    finds_on hand lookup found rest (clear_now m hand free near at.in_hand) (whole placed p at) is done (in_front h at)
binding_on m next said near p s h (Moves.passes_over free at why) here = skips_on free near p s at why h
binding_on m next said near p s h (Moves.tells {rest = rest} {event = event} free at) here =
    passes_on (after_event event m.state) rest free near p at (event_same event m.state)
    (told_wishes event m.state) refl refl (are_same rest) h
binding_on m next said near p s h (Moves.sends {rest = rest} {deed} free at is) here =
    passes_on (after_deed deed m.state) rest free near p at (as_before (after_deed deed m.state) m.state refl refl refl)
    refl refl refl (are_same rest) h
binding_on m next said near p s h (Moves.updates free at is away) here = in_front h at
binding_on m next said near p s h (Moves.greets free at is away) here =
    still_binding next.state (as_before next.state m.state refl refl refl) (λ needs w. w) h
binding_on m next said near p s h (Moves.notes {hand} {note} {rest} free at) here =
    notes_on note rest (clear_now m hand free near at.in_hand) (whole placed p at) (in_front h at)
binding_on m next said near p s h (Moves.unfolds {hand} {choice} {rest} free at) here =
    passes_on m.state (chosen choice m.state hand ++ rest) free near p at (itself m.state) refl refl refl
    (chosen_like choice m.state hand rest (placed_rest choice rest (whole placed p at))) h
binding_on m next said near p s h (Moves.queues {hand} free is) here = queues_on hand (taken_out m h is)
binding_on m next said near p s h (Moves.asks {hand} {want} {wants} free room is are) here =
    put_back (asked_hand want) is (subst (λ queue. Binding m.state hand.parts queue
    (hand.asked ++ record { want = want; reply = None } ∷ [])) (sym (ap behind_first are))
    (asks_on (subst (λ queue. Binding m.state hand.parts queue hand.asked) are (taken_out m h is))))
binding_on m next said near p s h (Moves.greeted read is) here =
    still_binding next.state (as_before next.state m.state refl refl refl) (λ needs w. w) h
binding_on m next said near p s h (Moves.answers {question} {replied} {hand} is waits reply last) here =
    put_back (hand_replied (a_question question) replied) is
    (answers_on question replied (is_failed question replied hand.asked) waits (taken_out m h is))
binding_on m next said near p s h (Moves.replies {effect} {replied} {hand} is flying reply last) here =
    put_back (hand_replied (an_effect effect) replied) is
    (replies_on effect replied
    (subst (λ held. IsDue m.state.wishes (parts_left held) (Some effect)) is
    (was_due m effect s.awaited (ap flying_in is ∙ ap flying_of flying))) reply (taken_out m h is))
binding_on m next said near p s h (Moves.loses late away why) here = cc
binding_on m next said near p s h _ here = h

-- The law -------------------------------------------------------------------------------------------------------------

starts_bound : Binding fresh.state [] [] []
unfolding need each made_with
starts_bound = record {
  watches = λ needs. none_wished;
  learnt = tt;
  waits = λ is. cc;
  ahead = λ asks. cc;
  listed = λ is. refl;
  noted = λ classes some. cc;
  bound = λ none. record { listed = refl; found = []; none_lacking = refl; bound = tt };
}

pub binding : {messages : List Message} {m : Machine} → Run messages m → is_gone m.state.phase ≡ false → IsBinding m
binding r = by_runs {Holds = λ (messages : List Message) (m : Machine). is_gone m.state.phase ≡ false → IsBinding m}
    (record {
      starts = λ near. starts_bound;
      moves = λ messages m next said r h moved after here.
          let near = near_before m next said moved here in
          binding_on m next said near (tested placed_test r) (settling r near) (h near) moved here;
      queues = λ messages m hand queue r may h near. anew_on hand may (h near);
    }) r

pub are_bound : (messages : List Message) (m : Machine) → Run messages m → IsAtRest m → m.state.phase ≡ Attached
    → AreAllBound m.state
are_bound messages m r rests attached =
    let none = (settles messages m r rests attached).none_in_hand in
    (subst (λ held. BindingHand m.state held) none (binding r (ap is_gone attached))).bound refl
