-- Where a session is attached, the sizes of ids are known.
use Rattle.std.proofs.Common.{◌≡◌, ◌≢◌, Bool, true, false, cond, ◌||◌, List, [], ◌∷◌, ◌++◌, Option, Some, None, refl}
use Rattle.std.proofs.Common.{sym, subst, option_map, arith}
use Rattle.jdwp_commands.specs.Answers.{kind_of_answer}
use Rattle.jdwp_commands.specs.Commands.{kind_of}
use Rattle.jdwp_commands.specs.declared.question.Question.TheVariants as questions
use Rattle.machine_model.specs.Due.{asked_hand, pick}
use Rattle.machine_model.specs.Lookups.{finished}
use Rattle.machine_model.specs.Replying.{IsReply, hand_replied, is_end, replied_to, shows_end, sizes_in, wire}
use Rattle.machine_model.specs.Responses.{IsIdle, are_raw}
use Rattle.machine_model.specs.Rest.{IsAtRest}
use Rattle.machine_model.specs.Rows.{chosen, failure_of, noted, parts_by, parts_of, row_of, wanting}
use Rattle.machine_model.specs.Runs.{Message, Run}
use Rattle.machine_model.specs.State.{Hand, Machine, SizesRead, State, is_attached, is_gone, is_some}
use Rattle.machine_model.specs.Telling.{after_event, numbered_by}
use Rattle.machine_model.specs.Outcomes.{result_of}
use Rattle.machine_model.proofs.Bools.{other_fails}
use Rattle.machine_steps.specs.Names.{Answer, Attached, Event, Failure, Fresh, Gone, IdSizes, Item, Outcome, Part}
use Rattle.machine_steps.specs.Names.{Phase, Question, Replied, TargetCommand, Want, a_question, a_raw, a_request}
use Rattle.machine_steps.specs.Names.{an_answer, an_effect, Command, Note}
use Rattle.machine_steps.proofs.RestLaws.{at_rest, none_waiting}
use Rattle.machine_steps.proofs.Stepping.{IsAt, Moves, Skips, by_moves}
use Rattle.machine_steps.proofs.Tables.{are_plain, chosen_is, finished_is, has_attach, plain_attach}
use Rattle.machine_steps.proofs.Testing.{same_replied}
use Rattle.machine_steps.proofs.RequestSteps.{parts_left}

-- it waits for the sizes of ids
abbrev pub sizes_first : Part → Bool
sizes_first (Part.Awaits IdSizes) = true
sizes_first _ = false

abbrev has_sizes : List Part → Bool
has_sizes [] = false
has_sizes (part ∷ parts) = sizes_first part || has_sizes parts

-- attached, or about to be: the sizes are known, or are waited for before
abbrev parts_sized : Phase → Option SizesRead → List Part → Bool
parts_sized phase sizes parts =
    cond (is_gone phase) true (cond (is_attached phase || has_attach parts) (is_some sizes || has_sizes parts) true)

abbrev IsSized : Machine → Type 0
IsSized m = parts_sized m.state.phase m.state.sizes (parts_left m.hand) ≡ true

row_sized : (failure : Option Failure) (command : Command) (state : State)
    → cond (has_attach (parts_by failure (row_of command state))) (has_sizes (parts_by failure (row_of command state))) true ≡ true
row_sized failure command state = grind arith

begun_sized : (state : State) (item : Item) → cond (has_attach (parts_of state item)) (has_sizes
    (parts_of state item)) true ≡ true
begun_sized state (a_request request) = row_sized (failure_of (wanting request.command) state) request.command state
begun_sized state (a_raw at body) = refl
begun_sized state _ = grind arith

-- what a part becomes leaves the guard where it is
has_behind : (parts rest : List Part) → has_sizes rest ≡ true → has_sizes (parts ++ rest) ≡ true
has_behind [] rest is = is
has_behind (part ∷ parts) rest is = grind (arith, has_behind parts rest)

-- what is told, noted or replied keeps the sizes
pub told_sizes : (outcome : Outcome) (state : State)
    → ((numbered_by outcome state).phase ≡ state.phase) × ((numbered_by outcome state).sizes ≡ state.sizes)
told_sizes outcome state = (grind arith, grind arith)

noted_sizes : (note : Note) (state : State)
    → ((noted note state).phase ≡ state.phase) × ((noted note state).sizes ≡ state.sizes)
noted_sizes note state = (grind arith, grind arith)

-- a reply that isn't the target's end gives sizes where they were asked for
pub good_answer : (answer : Answer) → kind_of_answer answer ≡ kind_of (wire (a_question questions.IdSizes))
    → is_some (sizes_in (an_answer answer)) ≡ true
good_answer answer is = grind (arith, is)

pub sizes_replied : (sizes : Option SizesRead) (replied : Replied) → IsReply sizes
    (a_question questions.IdSizes) replied
    → is_end (a_question questions.IdSizes) replied ≡ false → is_some (sizes_in replied) ≡ true
sizes_replied sizes replied (IsReply.with_answer {answer} used serves is good) last = good_answer answer is.row
sizes_replied sizes replied (IsReply.with_error some tolerated) last = grind (arith, tolerated, last)

pub question_sizes : (state : State) (question : Question) (replied : Replied) → IsReply state.sizes
    (a_question question) replied
    → is_end (a_question question) replied ≡ false → is_some state.sizes ≡ true
    → is_some (replied_to (a_question question) replied state).sizes ≡ true
question_sizes state questions.IdSizes replied reply last is = sizes_replied state.sizes replied reply last
question_sizes state _ replied reply last is = is

sized_by : (phase : Phase) (sizes later : Option SizesRead) (parts : List Part) → (is_some sizes ≡ true
    → is_some later ≡ true)
    → parts_sized phase sizes parts ≡ true → parts_sized phase later parts ≡ true
sized_by phase sizes later parts grows h = by_tests (is_gone phase) (is_attached phase || has_attach parts)
    (is_some sizes)
    (is_some later) (has_sizes parts) grows h
  where
    by_tests : (gone needs now then_ guard : Bool) → (now ≡ true → then_ ≡ true)
        → cond gone true (cond needs (now || guard) true) ≡ true → cond gone true (cond needs
        (then_ || guard) true) ≡ true
    by_tests gone needs now then_ guard grows h = grind (arith, grows, h)

-- a reply keeps the invariant
replied_sized : (m : Machine) (command : TargetCommand) (replied : Replied) → IsReply m.state.sizes command replied
    → shows_end m.state.phase command replied ≡ false → IsSized m
    → parts_sized m.state.phase (replied_to command replied m.state).sizes (parts_left m.hand) ≡ true
replied_sized m (an_effect effect) replied reply stays h = h
replied_sized m (a_question question) replied reply stays h = by_gone (is_gone m.state.phase) refl
  where
    by_gone : (gone : Bool) → is_gone m.state.phase ≡ gone
        → parts_sized m.state.phase (replied_to (a_question question) replied m.state).sizes (parts_left m.hand) ≡ true
    by_gone true gone = rw gone refl
    by_gone false near = sized_by m.state.phase m.state.sizes (replied_to (a_question question) replied m.state).sizes
        (parts_left m.hand) (question_sizes m.state question replied reply
        (other_fails (is_gone m.state.phase) (is_end (a_question question) replied) near stays)) h

pub replied_parts : (command : TargetCommand) (replied : Replied) (hand : Option Hand)
    → parts_left (option_map (hand_replied command replied) hand) ≡ parts_left hand
replied_parts command replied hand = grind arith

pub asked_parts : (want : Want) (hand : Option Hand) → parts_left (option_map (asked_hand want) hand) ≡ parts_left hand
asked_parts want hand = grind arith

-- what is left behind the part in front
left_sized : (m : Machine) (hand : Hand) (part : Part) (rest : List Part) → IsSized m → IsAt m hand part rest
    → sizes_first part ≡ false → parts_sized m.state.phase m.state.sizes rest ≡ true
left_sized m hand part rest h at other = grind (arith, h, at.in_hand, at.parts, other)

-- what a part becomes
block_sized : (m : Machine) (hand : Hand) (part : Part) (parts rest : List Part) → IsSized m → IsAt m hand part rest
    → sizes_first part ≡ false → are_plain parts ≡ true
    → parts_sized m.state.phase m.state.sizes (parts ++ rest) ≡ true
block_sized m hand part parts rest h at other plain = by_tests (is_gone m.state.phase) (is_attached m.state.phase)
    (has_attach rest) (has_attach (parts ++ rest)) (is_some m.state.sizes) (has_sizes rest) (has_sizes (parts ++ rest))
    (plain_attach parts rest plain) (has_behind parts rest) (left_sized m hand part rest h at other)
  where
    by_tests : (gone attached tells more known guard guards : Bool) → more ≡ tells → (guard ≡ true → guards ≡ true)
        → cond gone true (cond (attached || tells) (known || guard) true) ≡ true
        → cond gone true (cond (attached || more) (known || guards) true) ≡ true
    by_tests gone attached tells more known guard guards same grows k = grind (arith, same, grows, k)

told_event : (event : Event) (state : State) (rest : List Part)
    → parts_sized state.phase state.sizes (Part.Tells event ∷ rest) ≡ true
    → parts_sized (after_event event state).phase (after_event event state).sizes rest ≡ true
told_event event state rest h = grind (arith, h)

skipped_sized : (m : Machine) (hand : Hand) (part : Part) (rest : List Part) → IsSized m → IsAt m hand part rest
    → Skips m hand part → parts_sized m.state.phase m.state.sizes rest ≡ true
skipped_sized m hand part rest h at (Skips.by_guard {guard} is) = grind (arith, h, at.in_hand, at.parts, is)
skipped_sized m hand part rest h at (Skips.by_wishes is) = left_sized m hand Part.Updates rest h at refl
skipped_sized m hand part rest h at (Skips.no_request {outcome} is) =
    left_sized m hand (Part.Responds outcome) rest h at refl

begun_on : (m : Machine) (item : Item) → m.hand ≡ None → IsSized m
    → parts_sized m.state.phase m.state.sizes (parts_of m.state item) ≡ true
begun_on m item none h = grind (arith, h, none, begun_sized m.state item)

same_sized : (m : Machine) (state : State) (parts : List Part)
    → (state.phase ≡ m.state.phase) × (state.sizes ≡ m.state.sizes)
    → parts_sized m.state.phase m.state.sizes parts ≡ true → parts_sized state.phase state.sizes parts ≡ true
same_sized m state parts same h = rw (same.0, same.1) h

held_sized : (m : Machine) (hand : Option Hand) (hand_now : Option Hand) → m.hand ≡ hand
    → parts_left hand_now ≡ parts_left hand
    → IsSized m → parts_sized m.state.phase m.state.sizes (parts_left hand_now) ≡ true
held_sized m hand hand_now is same h =
    subst (λ (parts : List Part). parts_sized m.state.phase m.state.sizes parts ≡ true) (sym same)
    (subst (λ (hand : Option Hand). parts_sized m.state.phase m.state.sizes (parts_left hand) ≡ true) is h)

sized_on : (m next : Machine) (said : Option Message) → IsSized m → Moves m said next → IsSized next
sized_on m next said h (Moves.begins picked free none is) = begun_on m picked.item none h
sized_on m next said h (Moves.drops {hand} free is none) = grind (arith, h, is, none)
sized_on m next said h (Moves.responds {hand} {rest} {request} {outcome} free at is) =
    same_sized m (numbered_by outcome m.state) rest (told_sizes outcome m.state)
    (left_sized m hand (Part.Responds outcome) rest h at refl)
sized_on m next said h (Moves.finds {hand} {rest} {lookup} found free at needs done) =
    block_sized m hand (Part.Looks lookup) (finished lookup (result_of found) m.state) rest h at refl
    (finished_is lookup (result_of found) m.state).plain
sized_on m next said h (Moves.passes_over {hand} {part} {rest} free at why) = skipped_sized m hand part rest h at why
sized_on m next said h (Moves.tells {hand} {rest} {event} free at) =
    told_event event m.state rest (grind (arith, h, at.in_hand, at.parts))
sized_on m next said h (Moves.sends {hand} {rest} {deed} free at near) =
    left_sized m hand (Part.Sends deed) rest h at refl
sized_on m next said h (Moves.updates {hand} {effect} {rest} free at is near) =
    held_sized m (Some hand) (Some (record hand { parts = Part.Updates ∷ rest })) at.in_hand (sym at.parts) h
sized_on m next said h (Moves.notes {hand} {note} {rest} free at) =
    same_sized m (noted note m.state) rest (noted_sizes note m.state) (left_sized m hand
    (Part.Notes note) rest h at refl)
sized_on m next said h (Moves.unfolds {hand} {choice} {rest} free at) =
    block_sized m hand (Part.Unfolds choice) (chosen choice m.state hand) rest h at refl
    (chosen_is choice m.state hand).plain
sized_on m next said h (Moves.queues {hand} free is) = held_sized m (Some hand) (Some hand) is refl h
sized_on m next said h (Moves.asks {hand} {want} free room is are) =
    held_sized m m.hand (option_map (asked_hand want) m.hand) refl (asked_parts want m.hand) h
sized_on m next said h (Moves.answers {question} {replied} is waits reply stays) =
    rw (replied_parts (a_question question) replied m.hand, same_replied (a_question question) replied m.state)
    (replied_sized m (a_question question) replied reply stays h)
sized_on m next said h (Moves.replies {effect} {replied} is flying reply stays) =
    rw (replied_parts (an_effect effect) replied m.hand) h
sized_on m next said h (Moves.loses late near why) = refl
sized_on m next said h _ = h

pub always_sized : {messages : List Message} {m : Machine} → Run messages m → IsSized m
always_sized r = by_moves {Holds = λ (messages : List Message) (m : Machine). IsSized m}
    (record {
      starts = refl;
      moves = λ messages m next said h moved. sized_on m next said h moved;
      queues = λ messages m hand queue may h. h;
    }) r

-- At rest -------------------------------------------------------------------------------------------------------------

raw_only : (gone : Bool) (waiting : List Item) → pick gone waiting ≡ None → are_raw waiting ≡ true
raw_only gone [] is = refl
raw_only gone (item ∷ items) is = grind (arith, is, raw_only gone items)

pub attached_sizes : (m : Machine) → IsSized m → m.hand ≡ None → m.state.phase ≡ Attached → is_some m.state.sizes ≡ true
attached_sizes m h none is = grind (arith, h, none, is)

none_left : (m : Machine) → (phase : Phase) → m.state.phase ≡ phase → IsSized m → IsAtRest m → m.hand ≡ None
    → pick (is_gone phase) m.waiting ≡ None → phase ≢ Fresh → m.waiting ≡ []
none_left m Fresh is h rests none picks later = absurd (later refl)
none_left m Attached is h rests none picks later =
    none_waiting false m.waiting picks
    (grind (arith, is, rests.nothing_pending, none, attached_sizes m h none is))
none_left m Gone is h rests none picks later = none_waiting true m.waiting picks refl

pub is_idle : (messages : List Message) (m : Machine) → Run messages m → IsAtRest m → IsIdle m
is_idle messages m r rests =
    let done = at_rest r rests in
    record {
      no_hand = done.no_hand;
      raw = raw_only (is_gone m.state.phase) m.waiting done.picks_none;
      none_later = none_left m m.state.phase refl (always_sized r) rests done.no_hand done.picks_none;
    }
