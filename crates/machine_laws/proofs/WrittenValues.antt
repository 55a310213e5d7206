-- Where a `setVariable` succeeds a value was written for it, and a value is written in a stop alone.
use Rattle.std.proofs.Common.{◌≡◌, Bool, true, false, cond, not, List, [], ◌∷◌, ◌++◌, Option, Some, None, refl, sym, ap}
use Rattle.std.proofs.Common.{ℕ, subst, ◌∙◌, option_map, arith}
use Rattle.std.specs.Prelude.{Result as Found, Ok, Err}
use Rattle.dap_messages.specs.declared.requests.SetVariableArguments.{SetVariableArguments}
use Rattle.dap_messages.specs.declared.told.Outcome.TheVariants as outcomes
use Rattle.dap_messages.specs.declared.told.Response.{Response}
use Rattle.dap_messages.specs.declared.told.Shape.{Shape}
use Rattle.jdwp_events.specs.declared.kind.Policy.{Policy}
use Rattle.jdwp_events.specs.declared.kind.Policy.TheVariants.{All, EventThread, NoThread}
use Rattle.machine_model.specs.Asking.{AreAsked}
use Rattle.machine_model.specs.Due.{asked_hand, clear, due, load_of, stopped_by}
use Rattle.machine_model.specs.Lookups.{finished, found_for, written_parts}
use Rattle.machine_model.specs.Outcomes.{result_of}
use Rattle.machine_model.specs.Plans.{Need, Result, gave, refused}
use Rattle.machine_model.specs.Replying.{given_up, hand_replied}
use Rattle.machine_model.specs.Rest.{without_response}
use Rattle.machine_model.specs.Rows.{chosen, code_in, gone_parts, has_response, if_attached, parts_by, parts_of}
use Rattle.machine_model.specs.Rows.{refused_with, request_parts, write_by, written_by}
use Rattle.machine_model.specs.Runs.{Allows, Message, Run, said}
use Rattle.machine_model.specs.State.{Hand, Machine, State, is_empty, is_flying, is_gone, is_none}
use Rattle.machine_model.specs.Telling.{outcome_told}
use Rattle.machine_model.proofs.Bools.{first_holds, second_holds}
use Rattle.machine_laws.specs.ClientStops.{AreRead}
use Rattle.machine_steps.specs.Names.{Act, Answer, Choice, Command, Deed, Does, Doing, Effect, Failed, Failure}
use Rattle.machine_steps.specs.Names.{Finding, Item, Lookup, Outcome, Part, Question, Replied, Request, SetVariable}
use Rattle.machine_steps.specs.Names.{Success, Want, TargetCommand, Write, Writes, Written, a_composite, a_question}
use Rattle.machine_steps.specs.Names.{a_request, a_response, an_answer, an_effect, an_error, no_value, variable_write}
use Rattle.machine_steps.specs.Names.{write_found}
use Rattle.machine_laws.specs.VariableWrites.{HasWritten, IsBehindWrite, IsInStop}
use Rattle.machine_laws.proofs.CausedChanges.{is_to_write, is_writing, purpose, purpose_of, purpose_under}
use Rattle.machine_laws.proofs.ConfiguredEntry.{succeeds}
use Rattle.machine_laws.proofs.GivenPlans.{finds_write, is_of_write, result_passes}
use Rattle.machine_steps.proofs.HoldingParts.{numbered_stop, same_stop}
use Rattle.machine_laws.proofs.LeavingLaws.{first_in}
use Rattle.machine_laws.proofs.NumbersInStops.{IsRefused, no_container, none_numbered}
use Rattle.machine_laws.proofs.OutcomeLaws.{asked_since, near_of}
use Rattle.machine_steps.proofs.ReferenceLaws.{due_request}
use Rattle.machine_steps.proofs.RequestSteps.{is_deed}
use Rattle.machine_steps.proofs.RestLaws.{is_free}
use Rattle.machine_laws.proofs.ShownStops.{shown_beside, stays, turning, turning_of}
use Rattle.machine_steps.proofs.Stepping.{IsAt, Loses, Moves, Skips, by_runs, moved}
use Rattle.machine_steps.proofs.Testing.{same_numbered, same_replied}
use Rattle.stop_refs.specs.Numbers.{container}
use Rattle.stop_refs.specs.declared.fault.RefFault.{RefFault}
use Rattle.stop_refs.specs.declared.thing.Thing.{Thing}

-- What is left of a `setVariable` -------------------------------------------------------------------------------------

abbrev is_write : Effect → Bool
is_write (Does (Writes write)) = true
is_write _ = false

abbrev is_answered : Option Replied → Bool
is_answered None = false
is_answered (Some (an_answer answer)) = true
is_answered (Some (an_error code)) = false

-- the last command that changes the target is a write; and the target answered it
abbrev has_sent : Option Doing → Bool
has_sent None = false
has_sent (Some doing) = is_write doing.effect

abbrev has_written : Option Doing → Bool
has_written None = false
has_written (Some doing) = cond (is_answered doing.reply) (is_write doing.effect) false

-- as long as the target isn't gone
abbrev wrote : Bool → Option Doing → Bool
wrote gone effect = cond (has_written effect) (not gone) false

abbrev is_written : Choice → Bool
is_written (Written seen) = true
is_written _ = false

abbrev is_write_choice : Part → Bool
is_write_choice (Part.Unfolds choice) = is_written choice
is_write_choice _ = false

-- by the reply to the write it is decided how it goes on, and that is all
abbrev awaits_write : List Part → Bool
awaits_write [] = false
awaits_write (part ∷ rest) = cond (is_write_choice part) (is_empty rest) false

abbrev looks_write : Lookup → Bool
looks_write (variable_write thing name text) = true
looks_write _ = false

-- what may be left, where a stop is in hand, a write was sent, and it was answered, or not
abbrev fits : Bool → Bool → Bool → List Part → Bool
fits stopped sent written [] = true
fits stopped sent written (Part.Responds outcome ∷ rest) =
    cond (is_empty rest) (cond (succeeds outcome) written true) false
fits stopped sent written (Part.Looks lookup ∷ rest) =
    cond (looks_write lookup) (cond (is_empty rest) stopped false) false
fits stopped sent written (Part.Sends deed ∷ rest) =
    cond (is_write (Does deed)) (cond stopped (awaits_write rest) false) false
fits stopped sent written (Part.Unfolds choice ∷ rest) =
    cond sent (cond (is_written choice) (is_empty rest) false) false
fits stopped sent written (_ ∷ rest) = false

abbrev writes : Item → Bool
writes item = is_writing (purpose_of item)

abbrev hand_fits : Bool → Bool → Option Hand → Bool
hand_fits gone stopped None = true
hand_fits gone stopped (Some hand) = cond (writes hand.item)
    (fits stopped (has_sent hand.effect) (wrote gone hand.effect) hand.parts) true

abbrev IsWriting : Machine → Type 0
IsWriting m = hand_fits (is_gone m.state.phase) m.state.stopped m.hand ≡ true

-- The tables ----------------------------------------------------------------------------------------------------------

begun_fits : (state : State) (item : Item) → (state.stopped ≡ false → state.numbers.things ≡ [])
    → cond (writes item) (fits state.stopped false false (parts_of state item)) true ≡ true
begun_fits state (a_request request) none = by_command request.command
  where
    by_thing : (stopped : Bool) (arguments : SetVariableArguments) (found : Found Thing RefFault)
        → (stopped ≡ false → IsRefused found) → fits stopped false false (write_by arguments found) ≡ true
    by_thing stopped arguments (Err fault) k = refl
    by_thing true arguments (Ok thing) k = refl
    by_thing false arguments (Ok thing) k = let no = (k refl).is in cc

    by_failure : (arguments : SetVariableArguments) (failure : Option Failure)
        → fits state.stopped false false (parts_by failure
        (write_by arguments (container arguments.variables_reference state.numbers))) ≡ true
    by_failure arguments (Some failure) = refl
    by_failure arguments None =
        by_thing state.stopped arguments (container arguments.variables_reference state.numbers)
        (λ running. no_container arguments.variables_reference state.numbers (none running))

    by_command : (command : Command)
        → cond (is_writing (purpose command)) (fits state.stopped false false (request_parts command state)) true ≡ true
    by_command (SetVariable arguments) = by_failure arguments (if_attached state.phase)
    by_command _ = refl
begun_fits state (a_composite at composite) none = by_policy composite.policy _
  where
    by_policy : (policy : Policy) (fit : Bool) → cond (is_writing (purpose_under policy)) fit true ≡ true
    by_policy All fit = refl
    by_policy EventThread fit = refl
    by_policy NoThread fit = refl
begun_fits state _ none = refl

-- a look-up is done: of a value that is to be written, in the stop
found_fits : (aims stopped sent written : Bool) (lookup : Lookup) (found : Need Finding) (state : State) (hand : Hand)
    (rest : List Part) → found_for lookup state hand ≡ found
    → cond aims (fits stopped sent written (Part.Looks lookup ∷ rest)) true ≡ true
    → cond aims (fits stopped sent written (finished lookup (result_of found) state ++ rest)) true ≡ true
found_fits false stopped sent written lookup found state hand rest needs h = refl
found_fits true stopped sent written (variable_write thing name text) found state hand rest needs h =
    by_rest rest h (result_of found) (finds_write thing name text state hand found needs)
  where
    by_result : (result : Result Finding) → result_passes is_of_write result ≡ true → stopped ≡ true
        → fits stopped sent written (written_parts result ++ []) ≡ true
    by_result (gave (write_found write seen)) of_write is = rw is refl
    by_result (gave (no_value failure)) of_write is = refl
    by_result (gave _) of_write is = cc
    by_result (refused code) of_write is = refl

    by_rest : (rest : List Part) → cond (is_empty rest) stopped false ≡ true → (result : Result Finding)
        → result_passes is_of_write result ≡ true → fits stopped sent written (written_parts result ++ rest) ≡ true
    by_rest [] h result of_write = by_result result of_write h
    by_rest (part ∷ rest) h result of_write = cc
found_fits true stopped sent written lookup found state hand rest needs h = cc

-- by the reply to the write
answered : (effect : Option Doing) → has_sent effect ≡ true → is_flying effect ≡ false → refused_with effect ≡ None
    → has_written effect ≡ true
answered None is lands none = cc
answered (Some doing) is lands none = by_reply doing.reply lands none
  where
    by_reply : (reply : Option Replied) → is_none reply ≡ false → code_in reply ≡ None
        → cond (is_answered reply) (is_write doing.effect) false ≡ true
    by_reply None lands none = cc
    by_reply (Some (an_answer answer)) lands none = is
    by_reply (Some (an_error code)) lands none = cc

chosen_fits : {messages : List Message} {m : Machine} {hand : Hand} (stopped aims : Bool) (choice : Choice)
    (rest : List Part) → Run messages m → load_of m ≡ clear → IsAt m hand (Part.Unfolds choice) rest
    → cond aims (fits stopped (has_sent hand.effect) (wrote (is_gone m.state.phase) hand.effect)
    (Part.Unfolds choice ∷ rest)) true ≡ true
    → cond aims (fits stopped (has_sent hand.effect) (wrote (is_gone m.state.phase) hand.effect)
    (chosen choice m.state hand ++ rest)) true ≡ true
chosen_fits stopped false choice rest r free at h = refl
chosen_fits {m = m} {hand} stopped true (Written seen) [] r free at h =
    by_code (refused_with hand.effect) refl
  where
    near : is_gone m.state.phase ≡ false
    near = near_of r at refl

    by_code : (code : Option ℕ) → refused_with hand.effect ≡ code
        → fits stopped (has_sent hand.effect) (wrote (is_gone m.state.phase) hand.effect) (written_by seen code ++ [])
        ≡ true
    by_code None none = rw (
      answered hand.effect (first_holds (has_sent hand.effect) true h)
          (is_free m hand free near at.in_hand).lands none,
      near,
    ) refl
    by_code (Some code) none = refl
chosen_fits {hand = hand} stopped true (Written seen) (part ∷ rest) r free at h =
    let no : false ≡ true = second_holds (has_sent hand.effect) false h in cc
chosen_fits {hand = hand} stopped true choice rest r free at h =
    let no : false ≡ true = second_holds (has_sent hand.effect) false h in cc

-- behind the end of a list, or of a part that has no place here
none_left : (aims stopped sent written may : Bool) (rest : List Part)
    → cond aims (cond (is_empty rest) may false) true ≡ true → cond aims (fits stopped sent written rest) true ≡ true
none_left false stopped sent written may rest h = refl
none_left true stopped sent written may [] h = refl
none_left true stopped sent written may (part ∷ rest) h = cc

apart : (aims fit : Bool) → cond aims false true ≡ true → cond aims fit true ≡ true
apart true fit h = cc
apart false fit h = refl

awaited_fits : (stopped : Bool) (rest : List Part) → awaits_write rest ≡ true → fits stopped true false rest ≡ true
awaited_fits stopped [] is = cc
awaited_fits stopped (Part.Unfolds choice ∷ rest) is = is
awaited_fits stopped (_ ∷ rest) is = cc

sent_fits : (aims stopped sent written : Bool) (deed : Deed) (rest : List Part)
    → cond aims (fits stopped sent written (Part.Sends deed ∷ rest)) true ≡ true
    → cond aims (fits (stopped_by deed stopped) (is_write (Does deed)) false rest) true ≡ true
sent_fits false stopped sent written deed rest h = refl
sent_fits true stopped sent written (Writes write) rest h =
    awaited_fits stopped rest (second_holds stopped (awaits_write rest) h)
sent_fits true stopped sent written _ rest h = cc

-- with the answer to the write no less may be left
more_fits : (stopped sent written : Bool) (parts : List Part) → fits stopped sent false parts ≡ true
    → fits stopped sent written parts ≡ true
more_fits stopped sent written [] is = refl
more_fits stopped sent written (Part.Responds outcome ∷ rest) is =
    by_tests (is_empty rest) (succeeds outcome) is
  where
    by_tests : (none success : Bool) → cond none (cond success false true) false ≡ true
        → cond none (cond success written true) false ≡ true
    by_tests none success is = grind (arith, is)
more_fits stopped sent written (part ∷ rest) is = is

replied_fits : (gone stopped aims : Bool) (effect : Effect) (replied : Replied) (was : Option Doing) (parts : List Part)
    → was ≡ Some (record { effect = effect; reply = None })
    → cond aims (fits stopped (has_sent was) (wrote gone was) parts) true ≡ true
    → cond aims (fits stopped (is_write effect)
    (wrote gone (Some (record { effect = effect; reply = Some replied }))) parts) true ≡ true
replied_fits gone stopped false effect replied was parts flies h = refl
replied_fits gone stopped true effect replied was parts flies h =
    more_fits stopped (is_write effect) (wrote gone (Some (record { effect = effect; reply = Some replied }))) parts
    (subst (λ (doing : Option Doing). fits stopped (has_sent doing) (wrote gone doing) parts ≡ true) flies h)

-- In runs -------------------------------------------------------------------------------------------------------------

at_front : {m : Machine} {hand : Hand} {part : Part} {rest : List Part} → IsWriting m → IsAt m hand part rest
    → cond (writes hand.item) (fits m.state.stopped (has_sent hand.effect)
    (wrote (is_gone m.state.phase) hand.effect) (part ∷ rest)) true ≡ true
at_front {m} {hand} h at = subst (λ (parts : List Part). cond (writes hand.item) (fits m.state.stopped
    (has_sent hand.effect) (wrote (is_gone m.state.phase) hand.effect) parts) true ≡ true) at.parts
    (subst (λ (held : Option Hand). hand_fits (is_gone m.state.phase) m.state.stopped held ≡ true) at.in_hand h)

skipped_fits : {m : Machine} {hand : Hand} {part : Part} {rest : List Part} → IsWriting m → IsAt m hand part rest
    → Skips m hand part → cond (writes hand.item) (fits m.state.stopped (has_sent hand.effect)
    (wrote (is_gone m.state.phase) hand.effect) rest) true ≡ true
skipped_fits {hand = hand} h at (Skips.by_guard is) = apart (writes hand.item) _ (at_front h at)
skipped_fits {hand = hand} h at (Skips.by_wishes is) = apart (writes hand.item) _ (at_front h at)
skipped_fits {m} {hand} {rest = rest} h at (Skips.no_request {outcome} is) =
    none_left (writes hand.item) m.state.stopped (has_sent hand.effect) (wrote (is_gone m.state.phase) hand.effect)
    (cond (succeeds outcome) (wrote (is_gone m.state.phase) hand.effect) true) rest (at_front h at)

asked_fits : (gone stopped : Bool) (want : Want) (hand : Option Hand)
    → hand_fits gone stopped (option_map (asked_hand want) hand) ≡ hand_fits gone stopped hand
asked_fits gone stopped want None = refl
asked_fits gone stopped want (Some hand) = refl

answered_fits : (gone stopped : Bool) (question : Question) (replied : Replied) (hand : Option Hand)
    → hand_fits gone stopped (option_map (hand_replied (a_question question) replied) hand)
    ≡ hand_fits gone stopped hand
answered_fits gone stopped question replied None = refl
answered_fits gone stopped question replied (Some hand) = refl

given_fits : (gone stopped : Bool) (hand : Option Hand) → hand_fits gone stopped (option_map given_up hand) ≡ true
given_fits gone stopped None = refl
given_fits gone stopped (Some hand) = by_item (has_response hand.parts) hand.item
  where
    by_item : (responds : Bool) (item : Item)
        → cond (writes item) (fits stopped false false (gone_parts responds item)) true ≡ true
    by_item responds item = grind arith

writing_on : (messages : List Message) (m next : Machine) (said : Option Message) → Run messages m → IsWriting m
    → Moves m said next → IsWriting next
writing_on messages m next said r h (Moves.begins picked free none is) =
    begun_fits m.state picked.item (λ running. none_numbered r running)
writing_on messages m next said r h (Moves.drops free is none) = refl
writing_on messages m next said r h (Moves.responds {hand} {rest} {outcome = outcome} free at is) =
    rw (numbered_stop outcome m.state, same_numbered outcome m.state)
    (none_left (writes hand.item) m.state.stopped (has_sent hand.effect) (wrote (is_gone m.state.phase) hand.effect)
    (cond (succeeds outcome) (wrote (is_gone m.state.phase) hand.effect) true) rest (at_front h at))
writing_on messages m next said r h (Moves.finds {hand} {rest} {lookup} found free at needs done) =
    found_fits (writes hand.item) m.state.stopped (has_sent hand.effect) (wrote (is_gone m.state.phase) hand.effect)
    lookup found m.state hand rest needs (at_front h at)
writing_on messages m next said r h (Moves.passes_over free at why) = skipped_fits h at why
writing_on messages m next said r h (Moves.tells {hand} free at) = apart (writes hand.item) _ (at_front h at)
writing_on messages m next said r h (Moves.sends {hand} {rest} {deed} free at near) =
    sent_fits (writes hand.item) m.state.stopped (has_sent hand.effect) (wrote (is_gone m.state.phase) hand.effect)
    deed rest (at_front h at)
writing_on messages m next said r h (Moves.updates {hand} free at is near) =
    apart (writes hand.item) _ (at_front h at)
writing_on messages m next said r h (Moves.notes {hand} free at) = apart (writes hand.item) _ (at_front h at)
writing_on messages m next said r h (Moves.unfolds {hand} {choice} {rest} free at) =
    chosen_fits m.state.stopped (writes hand.item) choice rest r free at (at_front h at)
writing_on messages m next said r h (Moves.queues free is) =
    subst (λ (held : Option Hand). hand_fits (is_gone m.state.phase) m.state.stopped held ≡ true) is h
writing_on messages m next said r h (Moves.asks {want = want} free room is are) =
    asked_fits (is_gone m.state.phase) m.state.stopped want m.hand ∙ h
writing_on messages m next said r h (Moves.answers {question} {replied} is waits reply lasts) =
    rw (same_stop (a_question question) replied m.state, same_replied (a_question question) replied m.state)
    (answered_fits (is_gone m.state.phase) m.state.stopped question replied m.hand ∙ h)
writing_on messages m next said r h (Moves.replies {effect} {replied} {hand} is flies reply lasts) =
    subst (λ (held : Option Hand). hand_fits (is_gone m.state.phase) m.state.stopped
    (option_map (hand_replied (an_effect effect) replied) held) ≡ true) (sym is)
    (replied_fits (is_gone m.state.phase) m.state.stopped (writes hand.item) effect replied hand.effect hand.parts flies
    (subst (λ (held : Option Hand). hand_fits (is_gone m.state.phase) m.state.stopped held ≡ true) is h))
writing_on messages m next said r h (Moves.loses late near why) = given_fits true false m.hand
writing_on messages m next said r h _ = h

writing : {messages : List Message} {m : Machine} → Run messages m → IsWriting m
writing r = by_runs {Holds = λ (messages : List Message) (m : Machine). IsWriting m} (record {
  starts = refl;
  moves = λ messages m next said before h moved after. writing_on messages m next said before h moved;
  queues = λ messages m hand queue before may h. h;
}) r

-- The laws ------------------------------------------------------------------------------------------------------------

-- a write that was answered
record IsDone (effect : Option Doing) : Type 0 where
  write : Write
  answer : Answer
  is : effect ≡ Some (record { effect = Does (Writes write); reply = Some (an_answer answer) })

write_done : (effect : Option Doing) → has_written effect ≡ true → IsDone effect
write_done None is = cc
write_done (Some doing) is = by_reply doing.reply is
  where
    by_effect : (effect : Effect) (answer : Answer) → is_write effect ≡ true
        → IsDone (Some (record { effect = effect; reply = Some (an_answer answer) }))
    by_effect (Does (Writes write)) answer is = record { write = write; answer = answer; is = refl }
    by_effect _ answer is = cc

    by_reply : (reply : Option Replied) → cond (is_answered reply) (is_write doing.effect) false ≡ true
        → IsDone (Some (record { effect = doing.effect; reply = reply }))
    by_reply None is = cc
    by_reply (Some (an_answer answer)) is = by_effect doing.effect answer is
    by_reply (Some (an_error code)) is = cc

-- what holds of an item that writes
of_writer : (aims fit : Bool) → aims ≡ true → cond aims fit true ≡ true → fit ≡ true
of_writer aims fit is h = grind (arith, is, h)

written_at : {messages : List Message} {m : Machine} {hand : Hand} {rest : List Part} {request : Request}
    (outcome : Outcome) (arguments : SetVariableArguments) → Run messages m → IsAt m hand (Part.Responds outcome) rest
    → hand.item ≡ a_request request → request.command ≡ SetVariable arguments → succeeds outcome ≡ true
    → HasWritten messages request
written_at {messages} {m} {hand} {rest} {request} outcome arguments r at item command success =
    let aims = ap writes item ∙ ap (λ (command : Command). is_writing (purpose command)) command in
    let gone = is_gone m.state.phase in
    let (done, near) = by_tests (is_empty rest) (succeeds outcome) (has_written hand.effect) gone success
    (of_writer (writes hand.item) _ aims (at_front (writing r) at)) in
    let d = write_done hand.effect done in
    let a = asked_since r near at.in_hand item (ap has_response at.parts) in
    record {
      earlier = a.earlier;
      since = a.since;
      asked = hand.asked;
      write = d.write;
      answer = d.answer;
      messages_are = a.messages_are;
      first = record {
        answered = a.in_order.answered;
        others = a.in_order.others;
        heard = a.in_order.heard;
        in_turn = a.in_order.in_turn;
      };
      none_told = a.none_told;
      written = subst (λ (doing : Option Doing). AreAsked a.since hand.asked doing) d.is a.asked;
    }
  where
    by_tests : (none success done gone : Bool) → success ≡ true
        → cond none (cond success (cond done (not gone) false) true) false ≡ true → (done ≡ true) × (gone ≡ false)
    by_tests true true true false is h = (refl, refl)
    by_tests _ _ _ _ is h = cc

-- a success that is told
pub success_of : (outcome : Outcome) (state : State) (shape : Shape)
    → outcome_told outcome state ≡ outcomes.Success shape → succeeds outcome ≡ true
success_of (Success body) state shape is = refl
success_of (Failed failure) state shape is = cc

behind_write : {messages : List Message} (m next : Machine) (said : Option Message) (response : Response)
    (shape : Shape) → Run messages m → said ≡ Some (Message.tells (a_response response))
    → response.outcome ≡ outcomes.Success shape → Moves m said next → IsBehindWrite messages response
behind_write m next said response shape r is success (Moves.responds {hand} {rest} {request} {outcome} free at item) =
    let same : response ≡ record {
      request_seq = request.seq;
      command = request.name;
      outcome = outcome_told outcome m.state;
    } = cc in
    record {
      request = request;
      first = first_in r at item refl;
      answers = record {
        seq = ap (λ (response : Response). response.request_seq) same;
        command = ap (λ (response : Response). response.command) same;
      };
      has_written = λ arguments command. written_at outcome arguments r at item command
          (success_of outcome m.state shape
          (sym (ap (λ (response : Response). response.outcome) same) ∙ success));
    }
behind_write {messages} m next said response shape r is success (Moves.loses late near why) = by_loss why is
  where
    by_loss : {message : Message} {late : List TargetCommand} → Loses m message late
        → Some message ≡ Some (Message.tells (a_response response)) → IsBehindWrite messages response
    by_loss Loses.by_end is = cc
    by_loss _ is = cc
behind_write m next said response shape r is success _ = cc

pub sets_by_writes : (messages : List Message) (m : Machine) (response : Response) (shape : Shape) → Run messages m
    → (due false m).act ≡ Act.Tells (a_response response) → response.outcome ≡ outcomes.Success shape
    → IsBehindWrite messages response
sets_by_writes messages m response shape r is success =
    behind_write m (due false m).next _ response shape r refl success (moved (Allows.acts (ap said is)))

-- an item that writes changes nothing of a stop
still_turning : (item : Item) → writes item ≡ true → turning_of item ≡ stays
still_turning (a_request request) is = by_command request.command is
  where
    by_command : (command : Command) → is_writing (purpose command) ≡ true → turning command ≡ stays
    by_command (SetVariable arguments) is = refl
    by_command _ is = cc
still_turning _ is = refl

in_stop : {messages : List Message} (m next : Machine) (said : Option Message) (write : Write) → Run messages m
    → said ≡ Some (Message.sends (an_effect (Does (Writes write)))) → Moves m said next → IsInStop messages
in_stop {messages} m next said write r is (Moves.sends {hand} {rest} {deed} free at near) =
    let same : deed ≡ Writes write = cc in
    let here : IsAt m hand (Part.Sends (Writes write)) rest =
    subst (λ (deed : Deed). IsAt m hand (Part.Sends deed) rest) same at in
    let aims = is_to_write write r here in
    let stopped = first_holds m.state.stopped (awaits_write rest)
    (of_writer (writes hand.item) _ aims (at_front (writing r) here)) in
    let (configured, told) = shown_beside r near here (still_turning hand.item aims) in
    record {
      requests = without_response m;
      configured = configured;
      told = subst (λ (stopped : Bool). AreRead messages (without_response m) stopped configured) stopped told;
    }
in_stop m next said write r is (Moves.updates {effect = effect} free at due_now near) =
    let same : effect ≡ Does (Writes write) = cc in
    let no : false ≡ true = sym (due_request m.state.wishes effect due_now) ∙ ap is_deed same in cc
in_stop {messages} m next said write r is (Moves.loses late near why) = by_loss why is
  where
    by_loss : {message : Message} {late : List TargetCommand} → Loses m message late
        → Some message ≡ Some (Message.sends (an_effect (Does (Writes write)))) → IsInStop messages
    by_loss Loses.by_end is = cc
    by_loss _ is = cc
in_stop m next said write r is _ = cc

pub writes_in_stops : (messages : List Message) (m : Machine) (write : Write) → Run messages m
    → (due false m).act ≡ Act.Sends (Does (Writes write)) → IsInStop messages
writes_in_stops messages m write r is =
    in_stop m (due false m).next _ write r refl (moved (Allows.acts (ap said is)))
