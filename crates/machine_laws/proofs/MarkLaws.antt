-- `initialized` is told once, before the target is gone; `terminated` is told once, of a target that is gone.
use Rattle.std.proofs.Common.{◌≡◌, Bool, true, false, cond, not, ◌||◌, List, [], ◌∷◌, ◌++◌, Option, Some, None, refl}
use Rattle.std.proofs.Common.{subst, ◌∙◌, option_map, arith}
use Rattle.machine_model.specs.Knowing.{has_last, is_fresh, is_last}
use Rattle.machine_model.specs.Lookups.{finished}
use Rattle.machine_model.specs.Outcomes.{result_of}
use Rattle.machine_model.specs.Replying.{given_up, hand_replied, replied_to}
use Rattle.machine_model.specs.Rows.{chosen, end_parts, failure_of, gone_parts, has_response, noted, parts_by, parts_of}
use Rattle.machine_model.specs.Rows.{request_parts, row_of, wanting}
use Rattle.machine_model.specs.Runs.{Message}
use Rattle.machine_model.specs.State.{Hand, Machine, State, is_gone}
use Rattle.machine_model.specs.Telling.{after_event, attached_from, numbered_by}
use Rattle.machine_model.specs.Composites.{composite_parts, has_death}
use Rattle.machine_steps.specs.Names.{Command, Event, Failure, Gone, Initialized, Item, Note, Outcome, Part, Phase}
use Rattle.machine_steps.specs.Names.{Replied, TargetCommand, Terminated, a_composite, a_question, a_raw, a_request}
use Rattle.machine_steps.specs.Names.{an_effect, target_end}
use Rattle.machine_steps.proofs.Stepping.{IsAt, Moves}
use Rattle.machine_steps.proofs.Tables.{are_plain, attaches, chosen_is, finished_is, has_attach, plain_attach}
use Rattle.machine_steps.proofs.Testing.{IsTest, Passed, same_noted, same_numbered, same_replied, whole}
use Rattle.jdwp_events.specs.declared.kind.Policy.{Policy}
use Rattle.machine_model.proofs.Bools.{always, first_holds}
use Rattle.std.proofs.lemmas.Bool.{not-true}

-- Lists of parts ------------------------------------------------------------------------------------------------------

abbrev is_mark : Part → Bool
is_mark part = attaches part || is_last part

abbrev has_mark : List Part → Bool
has_mark [] = false
has_mark (part ∷ parts) = is_mark part || has_mark parts

-- behind one of the two events the other doesn't stand, nor it again
abbrev stand_once : List Part → Bool
stand_once [] = true
stand_once (part ∷ parts) = cond (is_mark part) (not (has_mark parts)) (stand_once parts)

abbrev pub marks_once : Bool → List Part → Bool
marks_once gone parts = stand_once parts

none_once : (parts : List Part) → has_mark parts ≡ false → stand_once parts ≡ true
none_once [] is = refl
none_once (part ∷ parts) is = grind (arith, is, none_once parts)

once_tail : (part : Part) (rest : List Part) → stand_once (part ∷ rest) ≡ true → stand_once rest ≡ true
once_tail part rest is = grind (arith, is, none_once rest)

row_once : (failure : Option Failure) (command : Command) (state : State) → stand_once (parts_by failure (row_of command state)) ≡ true
row_once failure command state = grind arith

begun_once : (state : State) (item : Item) → stand_once (parts_of state item) ≡ true
begun_once state (a_request request) = row_once (failure_of (wanting request.command) state) request.command state
begun_once state (a_raw at body) = refl
begun_once state _ = grind arith

gone_none : (responds : Bool) (item : Item) → has_mark (gone_parts responds item) ≡ false
gone_none responds item = grind arith

plain_once : (parts rest : List Part) → are_plain parts ≡ true → stand_once (parts ++ rest) ≡ stand_once rest
plain_once [] rest is = refl
plain_once (part ∷ parts) rest is = grind (arith, is, plain_once parts rest)

pub marks : IsTest marks_once
marks = record {
  none = λ gone. refl;
  tail = λ gone part rest is. once_tail part rest is;
  begins = begun_once;
  unfolds = λ choice state hand rest is.
      plain_once (chosen choice state hand) rest (chosen_is choice state hand).plain ∙ is;
  finds = λ lookup result state rest is.
      plain_once (finished lookup result state) rest (finished_is lookup result state).plain ∙ is;
  gives_up = λ responds item. none_once (gone_parts responds item) (gone_none responds item);
}

pub plain_last : (parts rest : List Part) → are_plain parts ≡ true → has_last (parts ++ rest) ≡ has_last rest
plain_last [] rest is = refl
plain_last (part ∷ parts) rest is = grind (arith, is, plain_last parts rest)

mark_attach : (parts : List Part) → has_mark parts ≡ false → has_attach parts ≡ false
mark_attach [] is = refl
mark_attach (part ∷ parts) is = grind (arith, is, mark_attach parts)

mark_last : (parts : List Part) → has_mark parts ≡ false → has_last parts ≡ false
mark_last [] is = refl
mark_last (part ∷ parts) is = grind (arith, is, mark_last parts)

-- The invariant -------------------------------------------------------------------------------------------------------

-- the target's end was told only where it is gone
abbrev pub over_gone : Phase → Bool → Bool
over_gone phase terminated = cond terminated (is_gone phase) true

-- these parts attach a session that isn't yet, and tell of a target's end that was not told of
abbrev marked : Phase → Bool → List Part → Bool
marked phase terminated parts =
    cond (over_gone phase terminated) (cond (cond (has_attach parts) (is_fresh phase) true)
    (cond (has_last parts) (not terminated) true) false) false

abbrev hand_marked : Phase → Bool → Option Hand → Bool
hand_marked phase terminated None = over_gone phase terminated
hand_marked phase terminated (Some hand) = marked phase terminated hand.parts

abbrev pub IsMarked : Machine → Type 0
IsMarked m = hand_marked m.state.phase m.state.terminated m.hand ≡ true

pub marked_at : (m : Machine) (hand : Hand) (part : Part) (rest : List Part) → IsMarked m → IsAt m hand part rest
    → marked m.state.phase m.state.terminated (part ∷ rest) ≡ true
marked_at m hand part rest h at =
    subst (λ (parts : List Part). marked m.state.phase m.state.terminated parts ≡ true) at.parts
    (subst (λ (hand : Option Hand). hand_marked m.state.phase m.state.terminated hand ≡ true) at.in_hand h)

marked_tail : (phase : Phase) (terminated : Bool) (part : Part) (rest : List Part)
    → marked phase terminated (part ∷ rest) ≡ true → marked phase terminated rest ≡ true
marked_tail phase terminated part rest is =
    by_bools (over_gone phase terminated) (attaches part) (has_attach rest) (is_last part) (has_last rest)
    (is_fresh phase) (not terminated) is
  where
    by_bools : (over first attach one last fresh ends : Bool)
        → cond over (cond (cond (first || attach) fresh true) (cond (one || last) ends true) false) false ≡ true
        → cond over (cond (cond attach fresh true) (cond last ends true) false) false ≡ true
    by_bools over first attach one last fresh ends is = grind (arith, is)

marked_plain : (phase : Phase) (terminated : Bool) (parts rest : List Part) → are_plain parts ≡ true
    → marked phase terminated rest ≡ true → marked phase terminated (parts ++ rest) ≡ true
marked_plain phase terminated parts rest plain is =
    rw (plain_attach parts rest plain, plain_last parts rest plain) is

marked_none : (phase : Phase) (terminated : Bool) (parts : List Part) → over_gone phase terminated ≡ true
    → has_mark parts ≡ false → marked phase terminated parts ≡ true
marked_none phase terminated parts over is = rw (over, mark_attach parts is, mark_last parts is) refl

-- what it says of a target's end holds whatever is in hand
over_in : (phase : Phase) (terminated : Bool) (hand : Option Hand) → hand_marked phase terminated hand ≡ true
    → over_gone phase terminated ≡ true
over_in phase terminated None h = h
over_in phase terminated (Some hand) h = first_holds (over_gone phase terminated) _ h

pub none_over : (phase : Phase) (terminated : Bool) → over_gone phase terminated ≡ true → is_gone phase ≡ false
    → terminated ≡ false
none_over phase terminated over near = grind (arith, over, near)

request_marks : (state : State) (command : Command)
    → cond (cond (has_attach (request_parts command state)) (is_fresh state.phase) true)
    (cond (has_last (request_parts command state)) (not state.terminated) true) false ≡ true
request_marks state command = grind arith

begun_marked : (state : State) (item : Item) → over_gone state.phase state.terminated ≡ true
    → marked state.phase state.terminated (parts_of state item) ≡ true
begun_marked state (a_request request) over = rw over (request_marks state request.command)
begun_marked state target_end over = rw over (by_told state.terminated)
  where
    by_told : (told : Bool) → cond (cond (has_attach (end_parts told)) (is_fresh state.phase) true)
        (cond (has_last (end_parts told)) (not told) true) false ≡ true
    by_told told = grind arith
begun_marked state (a_composite at composite) over =
    by_phase state.phase (has_death composite.events) composite.policy state.terminated over
  where
    by_phase : (phase : Phase) (dies : Bool) (policy : Policy) (told : Bool) → over_gone phase told ≡ true
        → marked phase told (composite_parts phase dies policy at state.next_entry) ≡ true
    by_phase phase dies policy told over = grind (arith, over)
begun_marked state (a_raw at body) over = rw over refl

pub same_told : (outcome : Outcome) (state : State) → (numbered_by outcome state).terminated ≡ state.terminated
same_told outcome state = grind arith

pub same_note : (note : Note) (state : State) → (noted note state).terminated ≡ state.terminated
same_note note state = grind arith

pub same_reply : (command : TargetCommand) (replied : Replied) (state : State)
    → (replied_to command replied state).terminated ≡ state.terminated
same_reply command replied state = grind arith

replied_marked : (phase : Phase) (terminated : Bool) (command : TargetCommand) (replied : Replied) (hand : Option Hand)
    → hand_marked phase terminated (option_map (hand_replied command replied) hand) ≡ hand_marked phase terminated hand
replied_marked phase terminated command replied hand = grind arith

told_marked : (event : Event) (state : State) (rest : List Part) → stand_once (Part.Tells event ∷ rest) ≡ true
    → marked state.phase state.terminated rest ≡ true
    → marked (after_event event state).phase (after_event event state).terminated rest ≡ true
told_marked Initialized state rest is left =
    marked_none (after_event Initialized state).phase state.terminated rest
    (still_over state.phase (first_holds (over_gone state.phase state.terminated) _ left))
    (not-true (has_mark rest) is)
  where
    still_over : (phase : Phase) → over_gone phase state.terminated ≡ true
        → over_gone (attached_from phase) state.terminated ≡ true
    still_over phase is = grind (arith, is)
told_marked Terminated state rest is left =
    marked_none (after_event Terminated state).phase true rest refl (not-true (has_mark rest) is)
told_marked _ state rest is left = left

-- what is left of a hand
left_marked : (m : Machine) (hand : Hand) (part : Part) (rest : List Part) → IsMarked m → IsAt m hand part rest
    → marked m.state.phase m.state.terminated rest ≡ true
left_marked m hand part rest h at =
    marked_tail m.state.phase m.state.terminated part rest
    (marked_at m hand part rest h at)

pub marked_on : (m next : Machine) (said : Option Message) → Passed marks_once m → IsMarked m
    → Moves m said next → IsMarked next
marked_on m next said once h (Moves.begins picked free none is) =
    begun_marked m.state picked.item (over_in m.state.phase m.state.terminated m.hand h)
marked_on m next said once h (Moves.drops free is none) = over_in m.state.phase m.state.terminated m.hand h
marked_on m next said once h (Moves.responds {hand} {rest} {outcome = outcome} free at is) =
    rw (same_numbered outcome m.state, same_told outcome m.state)
    (left_marked m hand (Part.Responds outcome) rest h at)
marked_on m next said once h (Moves.finds {hand} {rest} {lookup} found free at needs done) =
    marked_plain m.state.phase m.state.terminated
    (finished lookup (result_of found) m.state) rest (finished_is lookup (result_of found) m.state).plain
    (left_marked m hand (Part.Looks lookup) rest h at)
marked_on m next said once h (Moves.passes_over {hand} {part} {rest} free at why) = left_marked m hand part rest h at
marked_on m next said once h (Moves.tells {hand} {rest} {event} free at) =
    told_marked event m.state rest (whole marks_once once at)
    (left_marked m hand (Part.Tells event) rest h at)
marked_on m next said once h (Moves.sends {hand} {rest} {deed} free at near) =
    left_marked m hand (Part.Sends deed) rest h at
marked_on m next said once h (Moves.updates {hand} {rest = rest} free at is near) = marked_at m hand Part.Updates
    rest h at
marked_on m next said once h (Moves.notes {hand} {note} {rest} free at) =
    rw (same_noted note m.state, same_note note m.state) (left_marked m hand (Part.Notes note) rest h at)
marked_on m next said once h (Moves.unfolds {hand} {choice} {rest} free at) =
    marked_plain m.state.phase m.state.terminated (chosen choice m.state hand) rest
    (chosen_is choice m.state hand).plain (left_marked m hand (Part.Unfolds choice) rest h at)
marked_on m next said once h (Moves.queues {hand} free is) =
    subst (λ (hand : Option Hand). hand_marked m.state.phase m.state.terminated hand ≡ true) is h
marked_on m next said once h (Moves.asks {hand} free room is are) =
    rw is (subst (λ (hand : Option Hand). hand_marked m.state.phase m.state.terminated hand ≡ true) is h)
marked_on m next said once h (Moves.answers {question} {replied} is waits reply stays) =
    rw (same_replied (a_question question) replied m.state, same_reply (a_question question) replied m.state)
    (replied_marked m.state.phase m.state.terminated (a_question question) replied m.hand ∙ h)
marked_on m next said once h (Moves.replies {effect} {replied} is flies reply stays) =
    rw (same_replied (an_effect effect) replied m.state, same_reply (an_effect effect) replied m.state)
    (replied_marked m.state.phase m.state.terminated (an_effect effect) replied m.hand ∙ h)
marked_on m next said once h (Moves.loses late near why) = given_marked m.hand
  where
    given_marked : (hand : Option Hand) → hand_marked Gone m.state.terminated (option_map given_up hand) ≡ true
    given_marked None = always m.state.terminated
    given_marked (Some hand) =
        marked_none Gone m.state.terminated
        (gone_parts (has_response hand.parts) hand.item) (always m.state.terminated)
        (gone_none (has_response hand.parts) hand.item)
marked_on m next said once h _ = h
