-- What each move is to the event requests: nothing, an effect that is sent, or the reply to one.
use Rattle.std.proofs.Common.{◌≡◌, Bool, true, false, cond, List, [], ◌∷◌, ◌++◌, Option, Some, None, refl, sym, ap, ◌∙◌}
use Rattle.std.proofs.Common.{◌⊎◌, inl, inr, option_map, arith, ◌||◌}
use Rattle.machine_model.specs.Due.{asked_hand, clear, load_of}
use Rattle.machine_model.specs.Lookups.{finished}
use Rattle.machine_model.specs.Outcomes.{result_of}
use Rattle.machine_model.specs.Replying.{IsReply, hand_replied, told_by}
use Rattle.machine_model.specs.Requests.{effect_due, wishes_after}
use Rattle.machine_model.specs.Rows.{chosen, noted}
use Rattle.machine_model.specs.Runs.{Message}
use Rattle.machine_model.specs.State.{Hand, Machine, State, is_empty, is_flying, is_gone, is_none, is_attached}
use Rattle.machine_model.specs.Telling.{after_event, numbered_by}
use Rattle.machine_steps.specs.Names.{Written, Classes, Clear, Does, Doing, Effect, Event, Lines, Note, Outcome, Part}
use Rattle.machine_steps.specs.Names.{Phase, Question, Replied, Set, TargetCommand, Want, a_question, an_effect, Choice}
use Rattle.machine_steps.specs.Names.{Decides, Functions, Judges, Leaves, Lookup, Stepped, Steps, StopsAt, TellsNews}
use Rattle.machine_steps.specs.Names.{breakpoint_hits}
use Rattle.machine_steps.proofs.RestLaws.{is_free}
use Rattle.machine_steps.proofs.Stepping.{Moves}
use Rattle.machine_steps.proofs.Tables.{is_updates, attaches, rewants, starts_updates}
use Rattle.machine_steps.proofs.Testing.{same_noted, same_numbered, same_replied}
use Rattle.wish_sets.specs.Wanted.{Wanted, with_exceptions, with_functions, with_known, with_lines, with_step}
use Rattle.wish_sets.specs.Wishes.{rewished}
use Rattle.class_tables.specs.Lookups.{found_in}

-- In flight -----------------------------------------------------------------------------------------------------------

abbrev pub flying_of : Option Doing → Option Effect
flying_of None = None
flying_of (Some doing) = cond (is_none doing.reply) (Some doing.effect) None

-- the effect that was sent for the item in hand and has no reply
abbrev pub flying_in : Option Hand → Option Effect
flying_in None = None
flying_in (Some hand) = flying_of hand.effect

abbrev pub parts_left : Option Hand → List Part
parts_left None = []
parts_left (Some hand) = hand.parts

-- a target that isn't gone wasn't
pub near_before : (m next : Machine) (said : Option Message) → Moves m said next → is_gone next.state.phase ≡ false
    → is_gone m.state.phase ≡ false
near_before m next said (Moves.responds {outcome} free at is) near =
    ap is_gone (sym (same_numbered outcome m.state)) ∙ near
near_before m next said (Moves.tells {event} free at) near = stays event m.state near
  where
    stays : (event : Event) (state : State) → is_gone (after_event event state).phase ≡ false → is_gone state.phase
        ≡ false
    stays event state near = grind (arith, near)
near_before m next said (Moves.notes {note} free at) near = ap is_gone (sym (same_noted note m.state)) ∙ near
near_before m next said (Moves.answers {question} {replied} is waits reply stays) near =
    ap is_gone (sym (same_replied (a_question question) replied m.state)) ∙ near
near_before m next said (Moves.replies {effect} {replied} is flying reply stays) near =
    ap is_gone (sym (same_replied (an_effect effect) replied m.state)) ∙ near
near_before m next said (Moves.loses late near why) here = near
near_before m next said _ near = near

-- nothing is in flight where a part is done
pub lands : (m : Machine) (hand : Hand) → load_of m ≡ clear → is_gone m.state.phase ≡ false → m.hand ≡ Some hand
    → flying_in m.hand ≡ None
lands m hand free near is = ap flying_in is ∙ by_effect hand.effect (is_free m hand free near is).lands
  where
    by_effect : (doing : Option Doing) → is_flying doing ≡ false → flying_of doing ≡ None
    by_effect doing is = grind (arith, is)

asked_flying : (want : Want) (hand : Option Hand) → flying_in (option_map (asked_hand want) hand) ≡ flying_in hand
asked_flying want hand = grind arith

pub asked_left : (want : Want) (hand : Option Hand) → parts_left (option_map (asked_hand want) hand) ≡ parts_left hand
asked_left want hand = grind arith

answered_flying : (question : Question) (replied : Replied) (hand : Option Hand)
    → flying_in (option_map (hand_replied (a_question question) replied) hand) ≡ flying_in hand
answered_flying question replied hand = grind arith

replied_flying : (effect : Effect) (replied : Replied) (hand : Option Hand)
    → flying_in (option_map (hand_replied (an_effect effect) replied) hand) ≡ None
replied_flying effect replied hand = grind arith

pub replied_left : (command : TargetCommand) (replied : Replied) (hand : Option Hand)
    → parts_left (option_map (hand_replied command replied) hand) ≡ parts_left hand
replied_left command replied hand = grind arith

-- What moves change of the event requests -----------------------------------------------------------------------------

pub numbered_wishes : (outcome : Outcome) (state : State) → (numbered_by outcome state).wishes ≡ state.wishes
numbered_wishes outcome state = grind arith

pub told_wishes : (event : Event) (state : State) → (after_event event state).wishes ≡ state.wishes
told_wishes event state = grind arith

pub noted_wishes : (note : Note) (state : State) → rewants (Part.Notes note) ≡ false
    → (noted note state).wishes ≡ state.wishes
noted_wishes note state is = grind (arith, is)

-- a note changes nothing of the event requests, or what is wanted
data Noted (note : Note) (state : State) : Type 0 where
  leaves_all : (noted note state).wishes ≡ state.wishes → Noted note state
  rewishes : (wanted : Wanted) → (noted note state).wishes ≡ rewished wanted state.wishes
      → rewants (Part.Notes note) ≡ true → Noted note state

noted_by : (note : Note) (state : State) → Noted note state
noted_by (Lines (Some key) path entries) state = Noted.rewishes (with_lines key entries state.wishes.wanted) refl refl
noted_by (Functions entries) state = Noted.rewishes (with_functions entries state.wishes.wanted) refl refl
noted_by (StopsAt caught uncaught) state =
    Noted.rewishes (with_exceptions caught uncaught state.wishes.wanted) refl refl
noted_by (Steps step) state = Noted.rewishes (with_step step state.wishes.wanted) refl refl
noted_by (Classes classes) state =
    Noted.rewishes (with_known (found_in state.classes) classes state.wishes.wanted) refl refl
noted_by _ state = Noted.leaves_all refl

pub learnt_wishes : (question : Question) (replied : Replied) (state : State)
    → (told_by question replied state).wishes ≡ state.wishes
learnt_wishes question replied state = grind arith

-- One move ------------------------------------------------------------------------------------------------------------

abbrev pub is_question : TargetCommand → Bool
is_question (a_question question) = true
is_question (an_effect effect) = false

-- the message sends no effect, and is no reply to one
abbrev pub is_aside : Message → Bool
is_aside (Message.sends command) = is_question command
is_aside (Message.answers command replied) = is_question command
is_aside _ = true

abbrev pub says_aside : Option Message → Bool
says_aside None = true
says_aside (Some message) = is_aside message

abbrev pub is_deed : Effect → Bool
is_deed (Does deed) = true
is_deed (Set wish) = false
is_deed (Clear wish request) = false

-- by what is set it is decided how the item goes on
abbrev pub is_choice : Choice → Bool
is_choice (TellsNews below) = false
is_choice Judges = true
is_choice (Decides logged stops) = true
is_choice Stepped = true
is_choice (Written seen) = false
is_choice (Leaves exits) = false

-- and the breakpoints that threads came to are judged by it
abbrev pub is_judging : Lookup → Bool
is_judging (breakpoint_hits strikes) = true
is_judging _ = false

abbrev pub decides : Part → Bool
decides (Part.Unfolds choice) = is_choice choice
decides (Part.Looks lookup) = is_judging lookup
decides _ = false

-- all that is wished has to be set by now: the session is attached, or it is before `updates`
abbrev pub needs_set : Bool → List Part → Bool
needs_set attached [] = attached
needs_set attached (part ∷ parts) =
    cond (is_updates part) false (cond (attaches part || rewants part || decides part) true (needs_set attached parts))

-- What a move is to the event requests: nothing, where the parts that are left are the same, or no effect is in flight;
-- something else is wanted, where all that was wished has to be set; an effect is sent, of `updates` the one that is
-- due; or it is replied to.
pub data Step (m next : Machine) : Option Message → Type 0 where
  aside : {said : Option Message} → says_aside said ≡ true → next.state.wishes ≡ m.state.wishes
      → flying_in next.hand ≡ flying_in m.hand
      → (flying_in m.hand ≡ None) ⊎ (parts_left next.hand ≡ parts_left m.hand) → Step m next said
  wants : (wanted : Wanted) → next.state.wishes ≡ rewished wanted m.state.wishes → flying_in m.hand ≡ None
      → flying_in next.hand ≡ None → needs_set (is_attached m.state.phase) (parts_left m.hand) ≡ true
      → Step m next None
  sends : {effect : Effect} → next.state.wishes ≡ m.state.wishes → flying_in m.hand ≡ None
      → flying_in next.hand ≡ Some effect
      → (is_deed effect ≡ false
      → (effect_due m.state.wishes ≡ Some effect) × (starts_updates (parts_left next.hand) ≡ true))
      → Step m next (Some (Message.sends (an_effect effect)))
  replies : {effect : Effect} {replied : Replied} → next.state.wishes ≡ wishes_after effect replied m.state.wishes
      → flying_in m.hand ≡ Some effect → flying_in next.hand ≡ None
      → IsReply m.state.sizes (an_effect effect) replied
      → Step m next (Some (Message.answers (an_effect effect) replied))

-- a part is done that is nothing to them
done : (m next : Machine) (said : Option Message) (hand : Hand) (parts : List Part) → load_of m ≡ clear
    → is_gone m.state.phase ≡ false → m.hand ≡ Some hand → next.hand ≡ Some (record hand { parts = parts })
    → next.state.wishes ≡ m.state.wishes → says_aside said ≡ true → Step m next said
done m next said hand parts free near is now same quiet =
    Step.aside quiet same (ap flying_in now ∙ sym (ap flying_in is)) (inl (lands m hand free near is))

-- nothing of the item in hand changes
still : (m next : Machine) (said : Option Message) → next.hand ≡ m.hand → next.state.wishes ≡ m.state.wishes
    → says_aside said ≡ true → Step m next said
still m next said now same quiet = Step.aside quiet same (ap flying_in now) (inr (ap parts_left now))

none_late : (phase : Phase) (late before after : List TargetCommand) (command : TargetCommand)
    → is_gone phase ≡ false → cond (is_gone phase) true (is_empty late) ≡ true → ¬ (late ≡ before ++ command ∷ after)
none_late phase late [] after command near none is = cc
none_late phase late (first ∷ before) after command near none is = cc

pub steps : (m next : Machine) (said : Option Message) → cond (is_gone m.state.phase) true (is_empty m.late) ≡ true
    → Moves m said next
    → is_gone m.state.phase ≡ false → is_gone next.state.phase ≡ false → Step m next said
steps m next said late (Moves.begins picked free none is) near here =
    Step.aside refl refl (sym (ap flying_in none)) (inl (ap flying_in none))
steps m next said late (Moves.drops {hand} free is none) near here =
    let landed = lands m hand free near is in Step.aside refl refl (sym landed) (inl landed)
steps m next said late (Moves.responds {hand} {rest} {outcome = outcome} free at is) near here =
    done m next _ hand rest free near at.in_hand refl (numbered_wishes outcome m.state) refl
steps m next said late (Moves.finds {hand} {rest} {lookup} found free at needs done_now) near here =
    done m next _ hand (finished lookup (result_of found) m.state ++ rest) free near at.in_hand refl refl refl
steps m next said late (Moves.passes_over {hand} {rest = rest} free at why) near here =
    done m next _ hand rest free near at.in_hand refl refl refl
steps m next said late (Moves.tells {hand} {rest} {event} free at) near here =
    done m next _ hand rest free near at.in_hand refl (told_wishes event m.state) refl
steps m next said late (Moves.sends {hand} {rest} {deed} free at is) near here =
    Step.sends refl (lands m hand free near at.in_hand) refl (λ no. cc)
steps m next said late (Moves.updates {hand} {effect} {rest} free at is away) near here =
    Step.sends refl (lands m hand free near at.in_hand) refl (λ no. (is, refl))
steps m next said late (Moves.notes {hand} {note} {rest} free at) near here = by_note (noted_by note m.state)
  where
    by_note : Noted note m.state → Step m next None
    by_note (Noted.leaves_all is) = done m next _ hand rest free near at.in_hand refl is refl
    by_note (Noted.rewishes wanted is changes) = let none = lands m hand free near at.in_hand in
        Step.wants wanted is none (sym (ap flying_in at.in_hand) ∙ none)
        (ap (needs_set (is_attached m.state.phase)) (ap parts_left at.in_hand ∙ at.parts) ∙ grind (arith, changes))
steps m next said late (Moves.unfolds {hand} {choice} {rest} free at) near here =
    done m next _ hand (chosen choice m.state hand ++ rest) free near at.in_hand refl refl refl
steps m next said late (Moves.queues free is) near here =
    Step.aside refl refl (sym (ap flying_in is)) (inr (sym (ap parts_left is)))
steps m next said late (Moves.asks {want = want} free room is are) near here =
    Step.aside refl refl (asked_flying want m.hand) (inr (asked_left want m.hand))
steps m next said late (Moves.answers {question} {replied} is waits reply stays) near here =
    Step.aside refl (learnt_wishes question replied m.state) (answered_flying question replied m.hand)
    (inr (replied_left (a_question question) replied m.hand))
steps m next said late (Moves.replies {effect} {replied} is flying reply stays) near here =
    Step.replies refl (ap flying_in is ∙ ap flying_of flying) (replied_flying effect replied m.hand) reply
steps m next said late (Moves.late {command} before after is reply) near here =
    absurd (none_late m.state.phase m.late before after command near late is)
steps m next said late (Moves.loses late_now away why) near here = cc
steps m next said late _ near here = still m next _ refl refl refl
