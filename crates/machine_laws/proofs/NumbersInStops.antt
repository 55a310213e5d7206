-- Outside a stop nothing has a number, and nothing that would get one is left to be told.
use Rattle.std.proofs.Common.{◌≡◌, ◌-◌, ◌||◌, ℕ, Bool, true, false, cond, not, List, [], ◌∷◌, ◌++◌, Option, Some}
use Rattle.std.proofs.Common.{None, refl, sym, ap, subst, ◌∙◌, option_map, arith}
use Rattle.std.specs.Prelude.{Result as Found, Err, if◌then◌else◌, nat_lt, slice_get}
use Rattle.field_exprs.specs.Parsing.{parsed}
use Rattle.machine_model.specs.Due.{after_deed}
use Rattle.machine_model.specs.Lookups.{finished, found_for, plain_outcome, written_parts}
use Rattle.machine_model.specs.Outcomes.{result_of}
use Rattle.machine_model.specs.Plans.{Need, Result}
use Rattle.machine_model.specs.Replying.{given_up, replied_machine}
use Rattle.machine_model.specs.Rows.{chosen, evaluate_by, failure_of, gone_parts, has_response, if_stopped, is_response}
use Rattle.machine_model.specs.Rows.{news_of, parts_by, parts_of, refused_with, request_parts, row_of}
use Rattle.machine_model.specs.Rows.{scopes_parts, stack_parts, stepped_by, thread_with, variables_parts, wanting}
use Rattle.machine_model.specs.Runs.{Message, Run}
use Rattle.machine_model.specs.State.{Hand, Machine, State, numbers_over}
use Rattle.machine_model.specs.Telling.{after_event, numbered_by}
use Rattle.machine_model.proofs.Bools.{both_hold, first_holds, second_holds}
use Rattle.machine_steps.specs.Names.{Body, Choice, Command, Deed, Decides, Evaluate, Event, Failed, Failure, Finding}
use Rattle.machine_steps.specs.Names.{Judges, Logged}
use Rattle.machine_steps.specs.Names.{Initialized, Item, Lookup, Outcome, Part, Phase, Replied, Resume, Scopes}
use Rattle.machine_steps.specs.Names.{StackTrace, Stepped, Success, Suspend, TargetCommand, TellsNews, Terminated}
use Rattle.machine_steps.specs.Names.{Variables, a_question, a_request, a_stop, a_value, all_threads, an_effect}
use Rattle.machine_steps.specs.Names.{container_children, exception_info, expression_value, frame_list, of_stop}
use Rattle.machine_steps.specs.Names.{scope_list, some_news, thread_frames, variable_list, variable_write, Attached}
use Rattle.machine_steps.specs.Names.{Fresh, Gone}
use Rattle.machine_laws.proofs.GivenPlans.{finds_exception, finds_threads, is_unnumbered, result_passes}
use Rattle.machine_steps.proofs.HoldingParts.{numbered_stop, same_stop}
use Rattle.machine_steps.proofs.PartTests.{both_pass, is_request, passes}
use Rattle.machine_steps.proofs.ReferenceLaws.{noted_numbers, replied_numbers}
use Rattle.machine_steps.proofs.RequestSteps.{asked_left, parts_left, replied_left}
use Rattle.machine_steps.proofs.Stepping.{IsAt, Moves, by_runs}
use Rattle.machine_laws.proofs.StepLaws.{noted_stop}
use Rattle.machine_laws.proofs.StopParts.{are_bare, bare_parts, is_bare}
use Rattle.machine_steps.proofs.Tables.{decided_alike, last_silent, silent_last, silent_test, told_alike, judged_alike}
use Rattle.machine_steps.proofs.Testing.{tested, whole}
use Rattle.stop_refs.specs.Numbers.{InHand, and_then, container, frame, next_in, or_unknown, refused_in, stop_with}
use Rattle.stop_refs.specs.Numbers.{thing_with}
use Rattle.stop_refs.specs.Things.{as_container, as_frame}
use Rattle.stop_refs.specs.declared.fault.RefFault.{RefFault}
use Rattle.stop_refs.specs.declared.fault.RefFault.TheVariants.{Unknown}
use Rattle.stop_refs.specs.declared.thing.FrameThing.{FrameThing}
use Rattle.stop_refs.specs.declared.thing.Thing.{Thing}

-- Numbers that stand for nothing --------------------------------------------------------------------------------------

-- a number is refused
pub record IsRefused {A : Type 0} (found : Found A RefFault) : Type 0 where
  pub fault : RefFault
  pub is : found ≡ Err fault

none_there : (n : ℕ) (numbers : InHand) → numbers.things ≡ [] → IsRefused (thing_with n numbers)
none_there n numbers none = by_before (nat_lt n numbers.past.next)
  where
    by_before : (before : Bool) → IsRefused (if before then Err (refused_in (next_in numbers)
        (stop_with numbers.past.firsts n))
        else or_unknown (next_in numbers) (slice_get numbers.things (n - numbers.past.next)))
    by_before true = record { fault = refused_in (next_in numbers) (stop_with numbers.past.firsts n); is = refl }
    by_before false = record {
      fault = Unknown (next_in numbers);
      is = ap (λ (things : List Thing). or_unknown (next_in numbers)
          (slice_get things (n - numbers.past.next))) none;
    }

-- where nothing has a number no container and no frame is found
pub no_container : (n : ℕ) (numbers : InHand) → numbers.things ≡ [] → IsRefused (container n numbers)
no_container n numbers none = let refused_one = none_there n numbers none in
    record { fault = refused_one.fault; is = ap (and_then as_container) refused_one.is }

no_frame : (n : ℕ) (numbers : InHand) → numbers.things ≡ [] → IsRefused (frame n numbers)
no_frame n numbers none = let refused_one = none_there n numbers none in
    record { fault = refused_one.fault; is = ap (and_then as_frame) refused_one.is }

-- Parts ---------------------------------------------------------------------------------------------------------------

-- a body that tells frames or containers by numbers
abbrev is_numbered : Body → Bool
is_numbered (frame_list total frames) = true
is_numbered (scope_list frame) = true
is_numbered (variable_list shown) = true
is_numbered (a_value seen) = true
is_numbered _ = false

abbrev is_plain_outcome : Outcome → Bool
is_plain_outcome (Success body) = not (is_numbered body)
is_plain_outcome (Failed failure) = true

abbrev looks_plain : Lookup → Bool
looks_plain (thread_frames thread start levels) = false
looks_plain (container_children thing filter start count) = false
looks_plain (expression_value frame expression) = false
looks_plain _ = true

-- a part that tells nothing by numbers
abbrev is_plain : Part → Bool
is_plain (Part.Responds outcome) = is_plain_outcome outcome
is_plain (Part.Looks lookup) = looks_plain lookup
is_plain _ = true

-- The tables ----------------------------------------------------------------------------------------------------------

both_are : (first other : Bool) → first ≡ true → other ≡ true → cond first other false ≡ true
both_are first other is also = grind (arith, is, also)

by_failure : (failure : Option Failure) (row : List Part) → passes is_plain row ≡ true
    → passes is_plain (parts_by failure row) ≡ true
by_failure (Some failure) row is = refl
by_failure None row is = is

-- a request that shows frames, or what they have
abbrev shows_things : Command → Bool
shows_things (StackTrace arguments) = true
shows_things (Scopes arguments) = true
shows_things (Variables arguments) = true
shows_things (Evaluate arguments) = true
shows_things _ = false

other_row : (command : Command) (state : State) → shows_things command ≡ false
    → passes is_plain (row_of command state) ≡ true
other_row command state is = grind (arith, is)

row_plain : (command : Command) (state : State) → state.stopped ≡ false → state.numbers.things ≡ []
    → passes is_plain (request_parts command state) ≡ true
row_plain (StackTrace arguments) state running none =
    subst (λ (stopped : Bool). passes is_plain (parts_by (if_stopped stopped state.phase) row) ≡ true) (sym running)
    (by_phase state.phase)
  where
    row : List Part
    row = stack_parts (thread_with state.threads arguments.thread_id) arguments

    by_phase : (phase : Phase) → passes is_plain (parts_by (if_stopped false phase) row) ≡ true
    by_phase Fresh = refl
    by_phase Attached = refl
    by_phase Gone = refl
row_plain (Scopes arguments) state running none =
    by_failure (failure_of (wanting (Scopes arguments)) state) (row_of (Scopes arguments) state)
    (subst (λ (found : Found FrameThing RefFault). passes is_plain (scopes_parts state.numbers found) ≡ true)
    (sym (no_frame arguments.frame_id state.numbers none).is) refl)
row_plain (Variables arguments) state running none =
    by_failure (failure_of (wanting (Variables arguments)) state) (row_of (Variables arguments) state)
    (subst (λ (found : Found Thing RefFault). passes is_plain (variables_parts arguments found) ≡ true)
    (sym (no_container arguments.variables_reference state.numbers none).is) refl)
row_plain (Evaluate arguments) state running none =
    by_failure (failure_of (wanting (Evaluate arguments)) state) (row_of (Evaluate arguments) state)
    (subst (λ (found : Found FrameThing RefFault).
    passes is_plain (evaluate_by (parsed arguments.expression) found) ≡ true)
    (sym (no_frame arguments.frame_id state.numbers none).is) refl)
row_plain command state running none =
    by_failure (failure_of (wanting command) state) (row_of command state) (other_row command state refl)

other_plain : (state : State) (item : Item) → is_request item ≡ false → passes is_plain (parts_of state item) ≡ true
other_plain state item is = grind (arith, is)

begun_plain : (state : State) (item : Item) → state.stopped ≡ false → state.numbers.things ≡ []
    → passes is_plain (parts_of state item) ≡ true
begun_plain state (a_request request) running none = row_plain request.command state running none
begun_plain state item running none = other_plain state item refl

outcome_plain : (result : Result Finding) → result_passes is_unnumbered result ≡ true
    → is_plain_outcome (plain_outcome result) ≡ true
outcome_plain result is = grind (arith, is)

written_plain : (result : Result Finding) → passes is_plain (written_parts result) ≡ true
written_plain result = grind arith

-- what a look-up becomes that shows nothing by numbers
found_plain : (lookup : Lookup) (found : Need Finding) (state : State) (hand : Hand) (rest : List Part)
    → found_for lookup state hand ≡ found → looks_plain lookup ≡ true → passes is_plain rest ≡ true
    → passes is_plain (finished lookup (result_of found) state ++ rest) ≡ true
found_plain all_threads found state hand rest needs is h =
    both_are (is_plain_outcome (plain_outcome (result_of found))) (passes is_plain rest)
    (outcome_plain (result_of found) (finds_threads state hand found needs)) h
found_plain (exception_info thrown) found state hand rest needs is h =
    both_are (is_plain_outcome (plain_outcome (result_of found))) (passes is_plain rest)
    (outcome_plain (result_of found) (finds_exception thrown state hand found needs)) h
found_plain (variable_write thing name text) found state hand rest needs is h =
    both_pass is_plain (written_parts (result_of found)) rest (written_plain (result_of found)) h
found_plain lookup found state hand rest needs is h = grind (arith, is, h)

chosen_plain : (choice : Choice) (state : State) (hand : Hand) (rest : List Part) → passes is_plain rest ≡ true
    → passes is_plain (chosen choice state hand ++ rest) ≡ true
chosen_plain (TellsNews below) state hand rest is =
    told_alike (passes is_plain) (λ news parts. refl) state.phase (news_of below state hand.item) rest ∙ is
chosen_plain Judges state hand rest is =
    judged_alike (passes is_plain) (λ strikes parts. refl) state hand.item rest ∙ is
chosen_plain (Decides logged stops) state hand rest is =
    decided_alike (passes is_plain) (λ thrown parts. refl) (λ stopping parts. refl) (λ thread object parts. refl)
    (λ parts. refl) (λ parts. refl) (λ text texts strikes parts. refl) state logged stops hand.item rest ∙ is
chosen_plain Stepped state hand rest is = by_code (refused_with hand.effect)
  where
    by_code : (code : Option ℕ) → passes is_plain (stepped_by code ++ rest) ≡ true
    by_code code = grind (arith, is)
chosen_plain choice state hand rest is = grind (arith, is)

given_plain : (hand : Option Hand) → passes is_plain (parts_left (option_map given_up hand)) ≡ true
given_plain None = refl
given_plain (Some hand) = by_item (has_response hand.parts) hand.item
  where
    by_item : (responds : Bool) (item : Item) → passes is_plain (gone_parts responds item) ≡ true
    by_item responds item = grind arith

-- a part that asks nothing shows nothing by numbers, and so does one that brings no response
bare_plain : (parts : List Part) → are_bare parts ≡ true → passes is_plain parts ≡ true
bare_plain [] is = refl
bare_plain (part ∷ parts) is = let (bare, others) = both_hold (is_bare part) (are_bare parts) is in
    both_are (is_plain part) (passes is_plain parts) (one part bare) (bare_plain parts others)
  where
    one : (part : Part) → is_bare part ≡ true → is_plain part ≡ true
    one part is = grind (arith, is)

silent_plain : (parts : List Part) → has_response parts ≡ false → passes is_plain parts ≡ true
silent_plain [] is = refl
silent_plain (part ∷ parts) is =
    both_are (is_plain part) (passes is_plain parts) (one part (first_none (is_response part) (has_response parts) is))
    (silent_plain parts (second_none (is_response part) (has_response parts) is))
  where
    first_none : (first others : Bool) → (first || others) ≡ false → first ≡ false
    first_none first others is = grind (arith, is)

    second_none : (first others : Bool) → (first || others) ≡ false → others ≡ false
    second_none first others is = grind (arith, is)

    one : (part : Part) → is_response part ≡ false → is_plain part ≡ true
    one part is = grind (arith, is)

numbered_plain : (outcome : Outcome) (state : State) → is_plain_outcome outcome ≡ true
    → (numbered_by outcome state).numbers ≡ state.numbers
numbered_plain outcome state is = grind (arith, is)

-- In runs -------------------------------------------------------------------------------------------------------------

record Unnumbered (numbers : InHand) (parts : List Part) : Type 0 where
  things : numbers.things ≡ []
  plain : passes is_plain parts ≡ true

abbrev IsUnnumbered : Machine → Type 0
IsUnnumbered m = m.state.stopped ≡ false → Unnumbered m.state.numbers (parts_left m.hand)

at_front : {m : Machine} {hand : Hand} {part : Part} {rest : List Part} → IsUnnumbered m → IsAt m hand part rest
    → m.state.stopped ≡ false → Unnumbered m.state.numbers (part ∷ rest)
at_front {m} {hand} h at running =
    subst (λ (parts : List Part). Unnumbered m.state.numbers parts) at.parts
    (subst (λ (held : Option Hand). Unnumbered m.state.numbers (parts_left held)) at.in_hand (h running))

-- behind a part that changes no numbers
behind : {numbers now : InHand} {part : Part} {rest : List Part} → now ≡ numbers → Unnumbered numbers (part ∷ rest)
    → Unnumbered now rest
behind {part = part} {rest} same u = record {
  things = ap (λ (numbers : InHand). numbers.things) same ∙ u.things;
  plain = second_holds (is_plain part) (passes is_plain rest) u.plain;
}

-- a stop that is over, if one was in hand
over_things : (stopped : Bool) (numbers : InHand) → (stopped ≡ false → numbers.things ≡ [])
    → (numbers_over stopped numbers).things ≡ []
over_things true numbers k = refl
over_things false numbers k = k refl

-- behind the word that nothing more comes of the target there is no response
silent_behind : {messages : List Message} {m : Machine} {hand : Hand} {rest : List Part} → Run messages m
    → IsAt m hand (Part.Tells Terminated) rest → has_response rest ≡ false
silent_behind {rest = rest} r at =
    by_test (has_response rest) (last_silent rest) (whole silent_last (tested silent_test r) at)
  where
    by_test : (responds silent : Bool) → cond (not responds) silent false ≡ true → responds ≡ false
    by_test responds silent is = grind (arith, is)

told_on : {messages : List Message} {m : Machine} {hand : Hand} {rest : List Part} (event : Event) → Run messages m
    → IsUnnumbered m → IsAt m hand (Part.Tells event) rest → (after_event event m.state).stopped ≡ false
    → Unnumbered (after_event event m.state).numbers rest
told_on (a_stop stopping) r h at running = cc
told_on {m = m} {rest = rest} Terminated r h at running = record {
  things = over_things m.state.stopped m.state.numbers (λ running. (h running).things);
  plain = silent_plain rest (silent_behind r at);
}
told_on Initialized r h at running = behind refl (at_front h at running)
told_on (Logged text) r h at running = behind refl (at_front h at running)
told_on (some_news news) r h at running = behind refl (at_front h at running)

sent_on : {messages : List Message} {m : Machine} {hand : Hand} {rest : List Part} (deed : Deed) → Run messages m
    → IsUnnumbered m → IsAt m hand (Part.Sends deed) rest → (after_deed deed m.state).stopped ≡ false
    → Unnumbered (after_deed deed m.state).numbers rest
sent_on Suspend r h at running = cc
sent_on {m = m} {rest = rest} (Resume of_stop) r h at running = record {
  things = over_things m.state.stopped m.state.numbers (λ running. (h running).things);
  plain = bare_plain rest (bare_parts r at refl);
}
sent_on _ r h at running = behind refl (at_front h at running)

-- a command is replied to
replied_on : (m : Machine) (command : TargetCommand) (replied : Replied) → IsUnnumbered m
    → IsUnnumbered (replied_machine m command replied)
replied_on m command replied h = λ running.
    let u = h (sym (same_stop command replied m.state) ∙ running) in record {
      things = ap (λ (numbers : InHand). numbers.things) (replied_numbers command replied m.state) ∙ u.things;
      plain = ap (passes is_plain) (replied_left command replied m.hand) ∙ u.plain;
    }

unnumbered_on : (messages : List Message) (m next : Machine) (said : Option Message) → Run messages m → IsUnnumbered m
    → Moves m said next → IsUnnumbered next
unnumbered_on messages m next said r h (Moves.begins picked free none is) = λ running. let u = h running in
    record { things = u.things; plain = begun_plain m.state picked.item running u.things }
unnumbered_on messages m next said r h (Moves.drops free is none) = λ running.
    record { things = (h running).things; plain = refl }
unnumbered_on messages m next said r h (Moves.responds {rest = rest} {outcome = outcome} free at is) = λ running.
    let u = at_front h at (sym (numbered_stop outcome m.state) ∙ running) in
    behind (numbered_plain outcome m.state (first_holds (is_plain_outcome outcome) (passes is_plain rest) u.plain)) u
unnumbered_on messages m next said r h (Moves.finds {hand} {rest} {lookup} found free at needs done) = λ running.
    let u = at_front h at running in
    let (looks, others) = both_hold (looks_plain lookup) (passes is_plain rest) u.plain in
    record { things = u.things; plain = found_plain lookup found m.state hand rest needs looks others }
unnumbered_on messages m next said r h (Moves.passes_over free at why) = λ running. behind refl (at_front h at running)
unnumbered_on messages m next said r h (Moves.tells {event = event} free at) = told_on event r h at
unnumbered_on messages m next said r h (Moves.sends {deed = deed} free at near) = sent_on deed r h at
unnumbered_on messages m next said r h (Moves.updates free at is near) = at_front h at
unnumbered_on messages m next said r h (Moves.notes {note = note} free at) = λ running.
    behind (noted_numbers note m.state) (at_front h at (sym (noted_stop note m.state) ∙ running))
unnumbered_on messages m next said r h (Moves.unfolds {hand} {choice} {rest} free at) = λ running.
    let u = at_front h at running in
    record {
      things = u.things;
      plain = chosen_plain choice m.state hand rest (second_holds true (passes is_plain rest) u.plain);
    }
unnumbered_on messages m next said r h (Moves.queues free is) = λ running.
    subst (λ (held : Option Hand). Unnumbered m.state.numbers (parts_left held)) is (h running)
unnumbered_on messages m next said r h (Moves.asks {want = want} free room is are) = λ running.
    subst (λ (parts : List Part). Unnumbered m.state.numbers parts) (sym (asked_left want m.hand)) (h running)
unnumbered_on messages m next said r h (Moves.answers {question} {replied} is waits reply lasts) =
    replied_on m (a_question question) replied h
unnumbered_on messages m next said r h (Moves.replies {effect} {replied} is flies reply lasts) =
    replied_on m (an_effect effect) replied h
unnumbered_on messages m next said r h (Moves.loses late near why) = λ running. record {
  things = over_things m.state.stopped m.state.numbers (λ running. (h running).things);
  plain = given_plain m.hand;
}
unnumbered_on messages m next said r h _ = h

-- outside a stop nothing has a number
pub none_numbered : {messages : List Message} {m : Machine} → Run messages m → m.state.stopped ≡ false
    → m.state.numbers.things ≡ []
none_numbered r running =
    (by_runs {Holds = λ (messages : List Message) (m : Machine). IsUnnumbered m} (record {
      starts = λ running. record { things = refl; plain = refl };
      moves = λ messages m next said before h moved after. unnumbered_on messages m next said before h moved;
      queues = λ messages m hand queue before may h. h;
    }) r running).things
