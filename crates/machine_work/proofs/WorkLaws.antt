-- Each act lessens what the machine can still do, but a wait and an end; and whether the next id is pending matters to
-- questions alone.
use Rattle.std.proofs.Common.{◌≡◌, ℕ, ◌+◌, ◌*◌, ◌<◌, ◌≤◌, Bool, true, false, cond, not, List, [], ◌∷◌}
use Rattle.std.proofs.Common.{◌++◌, length, Option, Some, None, refl, sym, ap, subst, ◌∙◌, option_map, nat_le, arith}
use Rattle.std.proofs.Common.{length-append}
use Rattle.std.proofs.lemmas.List.Concat.{flat_map-append}
use Rattle.std.specs.List.{flat_map}
use Rattle.machine_model.specs.Due.{Due, Load, Picked, Way, after_deed, asked_first, asked_hand, asked_next, begun}
use Rattle.machine_model.specs.Due.{behind_first, busy, can_read, clear, due, due_by, gated, guarded, hand_due}
use Rattle.machine_model.specs.Due.{is_full, lacking_more, lets, load_of, looked, newly_lacked, next_item, passed_by}
use Rattle.machine_model.specs.Due.{pick, queued, queued_next, responded, updated, waiting, wanted, wanted_in, way}
use Rattle.machine_model.specs.Due.Way.{passes, greets as greets_way, holds as holds_way, asks as asks_way}
use Rattle.machine_model.specs.Lookups.{finished, found_for, written_parts}
use Rattle.machine_work.specs.Names.{Evaluate, SetVariable, Written}
use Rattle.machine_work.specs.Names.{Act, Attach, Attached, BadArguments, Choice, Command, ConfigurationDone, Continue}
use Rattle.machine_work.specs.Names.{Decides, Disconnect, Does, Effect, Event, Failure, Finding, Fresh, Gone}
use Rattle.machine_work.specs.Names.{Initialize, Item, Leaves, Lookup, Note, Outcome, Part, Pause, Phase, Question}
use Rattle.machine_work.specs.Names.{Scopes, SetBreakpoints, StackTrace, TargetCommand, TellsNews, Threads, Unsupported}
use Rattle.machine_work.specs.Names.{ExceptionInfo, Next, SetExceptionBreakpoints, SetFunctionBreakpoints, StepIn, StepOut}
use Rattle.machine_work.specs.Names.{Judges, Stepped, Steps, Strike, Throws, Variables, Want, Resume}
use Rattle.machine_work.specs.Names.{a_composite, a_question, a_raw, a_request, all_threads, an_effect, breakpoint_hits}
use Rattle.machine_work.specs.Names.{class_facts, container_children, exception_info, exception_text}
use Rattle.machine_work.specs.Names.{expression_value, target_end, thread_frames, variable_write}
use Rattle.machine_model.specs.Outcomes.{result_of}
use Rattle.machine_model.specs.Plans.{Need, Result, fails, has, lacks, need, question_of}
use Rattle.machine_model.specs.Replying.{pending_in, pending_of, unanswered, unanswered_effect}
use Rattle.machine_model.specs.Requests.{effect_due}
use Rattle.jdwp_values.specs.declared.id.ThreadId.{ThreadId}
use Rattle.machine_model.specs.Composites.{changes_in, composite_parts, has_death}
use Rattle.machine_model.specs.declared.parts.News.{News}
use Rattle.field_exprs.specs.Parsing.{parsed}
use Rattle.field_exprs.specs.declared.expr.Expr.{Expr}
use Rattle.machine_model.specs.Rows.{evaluate_by, write_by, written_by}
use Rattle.machine_model.specs.declared.parts.Seen.{Seen}
use Rattle.dap_messages.specs.declared.requests.SetVariableArguments.{SetVariableArguments}
use Rattle.machine_model.specs.Rows.{chosen, configured_parts, continue_parts, end_parts, failure_of, leaves, news_of}
use Rattle.machine_model.specs.Rows.{noted, parts_by, parts_of, pause_parts, row_of, scopes_parts, stack_parts, thread_with}
use Rattle.machine_model.specs.Rows.{variables_parts}
use Rattle.machine_model.specs.Rows.{told_in, wanting}
use Rattle.machine_model.specs.Runs.{Allows, Message, Run, said}
use Rattle.machine_model.specs.State.{Hand, Machine, State, has_waiting, is_empty, is_flying, is_gone, is_raw, knowing}
use Rattle.machine_model.specs.State.{is_attached, left}
use Rattle.machine_model.specs.Telling.{after_event, numbered_by}
use Rattle.machine_model.specs.Rows.{exception_parts, refused_with, step_parts, stepped_by, stepped_thread, thrown_first}
use Rattle.machine_model.specs.Stops.{decided, decided_by, events_in, hit_parts, hits_in, holds_entry, logged_first}
use Rattle.machine_model.specs.Stops.{stop_among, thrown_in}
use Rattle.machine_model.specs.declared.parts.Halt.{Halt}
use Rattle.machine_model.specs.declared.parts.Suspension.TheVariants.{Composite as of_composite}
use Rattle.machine_model.specs.declared.parts.Thrown.{Thrown}
use Rattle.machine_steps.proofs.HandshakeLaws.{has_handshake}
use Rattle.machine_steps.proofs.PendingLaws.{all_open}
use Rattle.machine_steps.proofs.QuietLaws.{lacking_hand, load_in}
use Rattle.machine_steps.proofs.RestLaws.{is_free, near_queue}
use Rattle.machine_steps.proofs.Stepping.{IsAt, Moves, moved, walks_due}
use Rattle.machine_steps.proofs.Tables.{of_judged, of_told}
use Rattle.wish_sets.specs.declared.wish.Depth.{Depth}
use Rattle.wish_sets.specs.declared.wish.Depth.TheVariants.{Into, Out, Over}
use Rattle.machine_steps.proofs.TurnLaws.{Turns, turned, unsent}
use Rattle.machine_work.specs.Working.{choice_weight, hand_work, is_wait, is_work, lines_in, lookup_weight, news_in_hand}
use Rattle.machine_work.specs.Working.{news_left}
use Rattle.machine_work.specs.Working.{one_if, one_unless, waiting_work, weight, weights, work, work_of}
use Rattle.dap_messages.specs.declared.requests.StackTraceArguments.{StackTraceArguments}
use Rattle.dap_messages.specs.declared.requests.VariablesArguments.{VariablesArguments}
use Rattle.std.specs.Prelude as prelude
use Rattle.std.specs.Prelude.{Ok, Err, option_and_then}
use Rattle.stop_refs.specs.Numbers.{InHand, container, frame}
use Rattle.stop_refs.specs.declared.fault.RefFault.{RefFault}
use Rattle.stop_refs.specs.declared.thing.FrameThing.{FrameThing}
use Rattle.stop_refs.specs.declared.thing.Thing.{Thing}
use Rattle.jdwp_events.specs.declared.kind.Policy.{Policy}
use Rattle.wish_sets.specs.Entries.{all_entries}
use Rattle.machine_work.proofs.LineLaws.{all_news_few, news_on}
use Rattle.machine_work.proofs.OwnMoves.{is_own, not_lost}

-- Whether the next id is pending --------------------------------------------------------------------------------------

any_first : (full : Bool) (m : Machine) (wants : List Want) → is_wait (asked_first true m wants).act ≡ false
    → asked_first true m wants ≡ asked_first full m wants
any_first full m [] is = refl
any_first full m (want ∷ wants) is = cc

any_next : (full : Bool) (m : Machine) (hand : Option Hand) → is_wait (asked_next true m hand).act ≡ false
    → asked_next true m hand ≡ asked_next full m hand
any_next full m None is = refl
any_next full m (Some hand) is = any_first full m hand.queue is

any_load : (full : Bool) (m : Machine) (load : Load) → is_wait (due_by true load m).act ≡ false
    → due_by true load m ≡ due_by full load m
any_load full m busy is = refl
any_load full m queued is = any_next full m m.hand is
any_load full m lacking_more is = refl
any_load full m waiting is = refl
any_load full m clear is = refl

-- what is due is the same whether or not the next id is pending, unless it is a wait
pub due_any : (id_pending : Bool) (m : Machine) → is_wait (due id_pending m).act ≡ false
    → due id_pending m ≡ due false m
unfolding due
due_any false m is = refl
due_any true m is = any_load (is_full false m) m (load_of m) is

abbrev is_ask : Act → Bool
is_ask (Act.Asks question) = true
is_ask _ = false

no_ask_first : (m : Machine) (wants : List Want) → is_ask (asked_first true m wants).act ≡ false
no_ask_first m [] = refl
no_ask_first m (want ∷ wants) = refl

no_ask_next : (m : Machine) (hand : Option Hand) → is_ask (asked_next true m hand).act ≡ false
no_ask_next m None = refl
no_ask_next m (Some hand) = no_ask_first m hand.queue

no_ask_queued : (m : Machine) (hand : Option Hand) → is_ask (queued_next m hand).act ≡ false
no_ask_queued m None = refl
no_ask_queued m (Some hand) = refl

no_ask_gated : (gone : Bool) (m : Machine) (to : Due) (act : Act) → to.act ≡ act
    → is_ask (gated (lets gone act) m to).act ≡ false
no_ask_gated gone m to Act.Waits is = refl
no_ask_gated gone m to Act.Goes is = rw is refl
no_ask_gated gone m to (Act.Tells told) is = rw is refl
no_ask_gated gone m to Act.Greets is = by_gone gone
  where
    by_gone : (gone : Bool) → is_ask (gated (not gone) m to).act ≡ false
    by_gone true = refl
    by_gone false = rw is refl
no_ask_gated gone m to (Act.Sends effect) is = by_gone gone
  where
    by_gone : (gone : Bool) → is_ask (gated (not gone) m to).act ≡ false
    by_gone true = refl
    by_gone false = rw is refl
no_ask_gated gone m to (Act.Asks question) is = refl
no_ask_gated gone m to (Act.Over finish) is = rw is refl

no_ask_by : (m : Machine) (load : Load) → is_ask (due_by true load m).act ≡ false
no_ask_by m busy = refl
no_ask_by m queued = no_ask_next m m.hand
no_ask_by m lacking_more = no_ask_queued m m.hand
no_ask_by m waiting = refl
no_ask_by m clear = no_ask_gated (is_gone m.state.phase) m (wanted m) (wanted m).act refl

no_ask : (m : Machine) → is_ask (due true m).act ≡ false
unfolding due
no_ask m = no_ask_by m (load_of m)

-- a question is asked only where the next id isn't pending
pub asks_free : (id_pending : Bool) (m : Machine) (question : Question) → (due id_pending m).act ≡ Act.Asks question
    → id_pending ≡ false
asks_free false m question is = refl
asks_free true m question is = let no : true ≡ false = sym (ap is_ask is) ∙ no_ask m in cc

-- An effect is sent only where nothing is pending ---------------------------------------------------------------------

abbrev is_effect : TargetCommand → Bool
is_effect (a_question question) = false
is_effect (an_effect effect) = true

abbrev sends_effect : Option Message → Bool
sends_effect None = false
sends_effect (Some (Message.sends command)) = is_effect command
sends_effect (Some _) = false

alone : (m : Machine) (now pending : List TargetCommand) (both sent : Bool) (said : Option Message)
    → sends_effect said ≡ true → Turns pending both sent said now → pending ≡ []
alone m now pending both sent None is (Turns.stays beside same) = cc
alone m now pending both sent (Some message) is (Turns.stays beside same) = grind (arith, is, beside)
alone m now pending both sent said is (Turns.greets unsent same) = cc
alone m now pending both sent said is (Turns.asks question shakes room only same) = cc
alone m now pending both sent said is (Turns.changes effect shakes none same) = none
alone m now pending both sent said is (Turns.answers command replied before after was same) = cc

-- an effect goes only where no command is pending
pub sends_alone : {messages : List Message} {m : Machine} → Run messages m → (id_pending : Bool) (effect : Effect)
    → (due id_pending m).act ≡ Act.Sends effect → pending_of m ≡ []
sends_alone {messages} {m} r id_pending effect is =
    let same = due_any id_pending m (ap is_wait is) in
    let now : (due false m).act ≡ Act.Sends effect = sym (ap (λ (to : Due). to.act) same) ∙ is in
    alone m (pending_of (due false m).next) (pending_of m) (has_handshake m.state) m.state.greeting_sent
    (Some (Message.sends (an_effect effect))) refl
    (turned m (due false m).next (Some (Message.sends (an_effect effect))) (all_open r).holds
    (moved (Allows.acts (ap said now))))

-- The tables ----------------------------------------------------------------------------------------------------------

writes_light : (most : ℕ) (result : Result Finding) → weights most (written_parts result) < 10
writes_light most result = grind arith

-- what judges hits logs nothing
hits_light : (most : ℕ) (strikes : List Strike) (found : Need Finding) (state : State) (hand : Hand)
    → found_for (breakpoint_hits strikes) state hand ≡ found
    → weights most (finished (breakpoint_hits strikes) (result_of found) state) < 25
unfolding need
hits_light most strikes found state hand is =
    subst (λ (found : Need Finding). weights most (finished (breakpoint_hits strikes) (result_of found) state) < 25)
    is (omega arith)

finished_light : (most : ℕ) (lookup : Lookup) (found : Need Finding) (state : State) (hand : Hand)
    → found_for lookup state hand ≡ found
    → weights most (finished lookup (result_of found) state) < lookup_weight lookup
finished_light most (breakpoint_hits strikes) found state hand is = hits_light most strikes found state hand is
finished_light most all_threads found state hand is = omega arith
finished_light most (thread_frames thread start levels) found state hand is = omega arith
finished_light most (container_children thing filter start count) found state hand is = omega arith
finished_light most (expression_value frame expression) found state hand is = omega arith
finished_light most (variable_write thing name text) found state hand is = writes_light most (result_of found)
finished_light most (exception_text thread object) found state hand is = omega arith
finished_light most (exception_info thrown) found state hand is = omega arith
finished_light most class_facts found state hand is = omega arith

leaves_light : (most : ℕ) (exits : Bool) (state : State) → weights most (leaves state.phase exits) < 10
leaves_light most exits state = grind arith

news_light : (most : ℕ) (phase : Phase) (news : List News) → weights most (told_in phase news) ≤ length news
news_light most Fresh news = omega arith
news_light most Gone news = omega arith
news_light most Attached [] = omega arith
news_light most Attached (one ∷ news) = let more = news_light most Attached news in omega (arith, more)

hit_light : (most : ℕ) (stopped : Bool) (thrown : List Thrown) (stops : List Strike) (halt : Halt)
    → weights most (hit_parts stopped thrown stops halt) < 20
hit_light most false thrown stops halt =
    of_told (λ (part : Part).
    weights most (Part.Notes (Throws thrown) ∷ Part.Notes (Steps None) ∷ Part.Updates ∷ part ∷ []) < 20)
    (λ stopping. omega arith) (λ thread object. omega arith) stops halt
hit_light most true thrown stops halt =
    of_told (λ (part : Part). weights most (Part.Notes (Throws thrown) ∷ Part.Notes (Steps None) ∷ Part.Updates ∷ part
    ∷ Part.Sends (Resume of_composite) ∷ []) < 20)
    (λ stopping. omega arith) (λ thread object. omega arith) stops halt

-- a text that is told makes what is left to tell shorter
decided_light : (most : ℕ) (state : State) (logged : List (List ℕ)) (stops : List Strike) (item : Item)
    → weights most (decided state logged stops item) < 20 + 2 * length logged
decided_light most state logged stops item = by_phase (is_attached state.phase) logged
  where
    by_halt : (stopped holds : Bool) (thrown : List Thrown) (halt : Option Halt)
        → weights most (decided_by stopped holds thrown stops halt) < 20
    by_halt stopped true thrown None = omega arith
    by_halt stopped false thrown None = omega arith
    by_halt stopped holds thrown (Some halt) = hit_light most stopped thrown stops halt

    by_phase : (attached : Bool) (logged : List (List ℕ))
        → weights most (cond attached (logged_first state logged stops (events_in item)) []) < 20 + 2 * length logged
    by_phase false logged = omega arith
    by_phase true [] = by_halt state.stopped (holds_entry state (events_in item))
        (thrown_in state.wishes (events_in item)) (stop_among stops (hits_in state.wishes (events_in item)))
    by_phase true (text ∷ texts) = omega arith

stepped_light : (most : ℕ) (code : Option ℕ) → weights most (stepped_by code) < 10
stepped_light most None = omega arith
stepped_light most (Some code) = omega arith

written_light : (most : ℕ) (seen : Seen) (code : Option ℕ) → weights most (written_by seen code) < 5
written_light most seen None = omega arith
written_light most seen (Some code) = omega arith

chosen_light : (most : ℕ) (choice : Choice) (state : State) (hand : Hand)
    → length (all_entries state.wishes.wanted) + length (changes_in hand.item) ≤ most
    → weights most (chosen choice state hand) < choice_weight most choice
chosen_light most (TellsNews below) state hand few =
    let told = news_light most state.phase (news_of below state hand.item) in
    let listed = all_news_few below state hand.item in omega (arith, few, told, listed)
chosen_light most Judges state hand few =
    of_judged (λ (parts : List Part). weights most parts < 30) (omega arith) (λ strikes. omega arith) state hand.item
chosen_light most (Decides logged stops) state hand few = decided_light most state logged stops hand.item
chosen_light most Stepped state hand few = stepped_light most (refused_with hand.effect)
chosen_light most (Written seen) state hand few = written_light most seen (refused_with hand.effect)
chosen_light most (Leaves exits) state hand few = leaves_light most exits state

configured_light : (most : ℕ) (entry : Bool) → weights most (configured_parts entry) < 60 + most
configured_light most true = omega arith
configured_light most false = omega arith

continue_light : (most : ℕ) (thread : Option ThreadId) → weights most (continue_parts thread) < 60 + most
continue_light most None = omega arith
continue_light most (Some thread) = omega arith

pause_light : (most : ℕ) (stopped : Bool) (thread : Option ThreadId)
    → weights most (pause_parts stopped thread) < 60 + most
pause_light most stopped None = omega arith
pause_light most true (Some thread) = omega arith
pause_light most false (Some thread) = omega arith

stack_light : (most : ℕ) (thread : Option ThreadId) (arguments : StackTraceArguments)
    → weights most (stack_parts thread arguments) < 60 + most
stack_light most None arguments = omega arith
stack_light most (Some thread) arguments = omega arith

scopes_light : (most : ℕ) (numbers : InHand) (found : prelude.Result FrameThing RefFault)
    → weights most (scopes_parts numbers found) < 60 + most
scopes_light most numbers (Ok one) = omega arith
scopes_light most numbers (Err fault) = omega arith

variables_light : (most : ℕ) (arguments : VariablesArguments) (found : prelude.Result Thing RefFault)
    → weights most (variables_parts arguments found) < 60 + most
variables_light most arguments (Ok thing) = omega arith
variables_light most arguments (Err fault) = omega arith

write_light : (most : ℕ) (arguments : SetVariableArguments) (found : prelude.Result Thing RefFault)
    → weights most (write_by arguments found) < 60 + most
write_light most arguments (Ok thing) = omega arith
write_light most arguments (Err fault) = omega arith

evaluate_light : (most : ℕ) (read : prelude.Result Expr ℕ) (found : prelude.Result FrameThing RefFault)
    → weights most (evaluate_by read found) < 60 + most
evaluate_light most (Ok expression) (Ok one) = omega arith
evaluate_light most (Err place) (Ok one) = omega arith
evaluate_light most read (Err fault) = omega arith

step_light : (most : ℕ) (depth : Depth) (thread : Option ThreadId) → weights most (step_parts depth thread) < 60 + most
step_light most depth None = omega arith
step_light most depth (Some thread) = omega arith

exception_light : (most : ℕ) (thrown : Option Thrown) → weights most (exception_parts thrown) < 60 + most
exception_light most None = omega arith
exception_light most (Some thrown) = omega arith

row_light : (most : ℕ) (command : Command) (state : State) → weights most (row_of command state) < 60 + most
row_light most (Initialize arguments) state = omega arith
row_light most (Attach arguments) state = omega arith
row_light most ConfigurationDone state = configured_light most state.entry
row_light most (SetBreakpoints arguments) state = omega arith
row_light most (SetFunctionBreakpoints arguments) state = omega arith
row_light most (SetExceptionBreakpoints arguments) state = omega arith
row_light most Threads state = omega arith
row_light most (Continue arguments) state = continue_light most (thread_with state.threads arguments.thread_id)
row_light most (Next arguments) state = step_light most Over (stepped_thread state arguments.thread_id)
row_light most (StepIn arguments) state = step_light most Into (stepped_thread state arguments.thread_id)
row_light most (StepOut arguments) state = step_light most Out (stepped_thread state arguments.thread_id)
row_light most (ExceptionInfo arguments) state = exception_light most
    (option_and_then (thrown_first state.thrown) (thread_with state.threads arguments.thread_id))
row_light most (Pause arguments) state =
    pause_light most state.stopped (thread_with state.threads arguments.thread_id)
row_light most (StackTrace arguments) state =
    stack_light most (thread_with state.threads arguments.thread_id) arguments
row_light most (Scopes arguments) state =
    scopes_light most state.numbers (frame arguments.frame_id state.numbers)
row_light most (Variables arguments) state =
    variables_light most arguments (container arguments.variables_reference state.numbers)
row_light most (SetVariable arguments) state =
    write_light most arguments (container arguments.variables_reference state.numbers)
row_light most (Evaluate arguments) state =
    evaluate_light most (parsed arguments.expression) (frame arguments.frame_id state.numbers)
row_light most (Disconnect arguments) state = omega arith
row_light most Unsupported state = omega arith
row_light most (BadArguments name) state = omega arith

parts_light : (most : ℕ) (failure : Option Failure) (row : List Part) → weights most row < 60 + most
    → weights most (parts_by failure row) < 60 + most
parts_light most None row light = light
parts_light most (Some failure) row light = omega arith

composite_light : (most : ℕ) (phase : Phase) (dies : Bool) (policy : Policy) (at below : ℕ)
    → weights most (composite_parts phase dies policy at below) < 60 + most
composite_light most phase dies policy at below = grind arith

end_light : (most : ℕ) (terminated : Bool) → weights most (end_parts terminated) < 60 + most
end_light most true = omega arith
end_light most false = omega arith

begun_light : (most : ℕ) (state : State) (item : Item) → weights most (parts_of state item) < 60 + most
begun_light most state (a_request request) =
    parts_light most (failure_of (wanting request.command) state) (row_of request.command state)
    (row_light most request.command state)
begun_light most state (a_composite at composite) =
    composite_light most state.phase (has_death composite.events) composite.policy at state.next_entry
begun_light most state (a_raw at body) = omega arith
begun_light most state target_end = end_light most state.terminated

numbered_greets : (outcome : Outcome) (state : State) → (numbered_by outcome state).greeting_sent ≡ state.greeting_sent
numbered_greets outcome state = grind arith

told_greets : (event : Event) (state : State) → (after_event event state).greeting_sent ≡ state.greeting_sent
told_greets event state = grind arith

noted_greets : (note : Note) (state : State) → (noted note state).greeting_sent ≡ state.greeting_sent
noted_greets note state = grind arith

weights_joined : (most : ℕ) (some others : List Part)
    → weights most (some ++ others) ≡ weights most some + weights most others
weights_joined most [] others = omega arith
weights_joined most (part ∷ some) others =
    let more = weights_joined most some others in omega (arith, more)

-- one item fewer waits
picked_less : (gone : Bool) (items : List Item) (picked : Picked) → pick gone items ≡ Some picked
    → length picked.rest < length items
picked_less gone [] picked is = cc
picked_less gone (item ∷ items) picked is =
    by_test (cond gone false (is_raw item)) (pick gone items) is (λ other same. picked_less gone items other same)
  where
    by_below : (below : Option Picked) → passed_by item below ≡ Some picked
        → ((other : Picked) → below ≡ Some other → length other.rest < length items)
        → length picked.rest < length (item ∷ items)
    by_below None is less = cc
    by_below (Some other) is less =
        let fewer = less other refl in
        let rest : item ∷ other.rest ≡ picked.rest = cc in
        let long : length (item ∷ other.rest) ≡ length picked.rest = ap length rest in omega arith

    by_test : (skips : Bool) (below : Option Picked)
        → cond skips (passed_by item below) (Some (record { item = item; rest = items })) ≡ Some picked
        → ((other : Picked) → below ≡ Some other → length other.rest < length items)
        → length picked.rest < length (item ∷ items)
    by_test true below is less = by_below below is less
    by_test false below is less =
        let rest : items ≡ picked.rest = cc in
        let long : length items ≡ length picked.rest = ap length rest in omega arith

-- all but what it counts for is left
picked_work : (most : ℕ) (gone : Bool) (items : List Item) (picked : Picked) → pick gone items ≡ Some picked
    → waiting_work most picked.rest + (100 + most) ≡ waiting_work most items
picked_work most gone [] picked is = cc
picked_work most gone (item ∷ items) picked is =
    by_test (cond gone false (is_raw item)) (pick gone items) is
    (λ other same. picked_work most gone items other same)
  where
    by_below : (below : Option Picked) → passed_by item below ≡ Some picked
        → ((other : Picked) → below ≡ Some other
        → waiting_work most other.rest + (100 + most) ≡ waiting_work most items)
        → waiting_work most picked.rest + (100 + most) ≡ waiting_work most (item ∷ items)
    by_below None is all = cc
    by_below (Some other) is all =
        let more = all other refl in
        let rest : item ∷ other.rest ≡ picked.rest = cc in
        let same = ap (waiting_work most) rest in omega (arith, more, same)

    by_test : (skips : Bool) (below : Option Picked)
        → cond skips (passed_by item below) (Some (record { item = item; rest = items })) ≡ Some picked
        → ((other : Picked) → below ≡ Some other
        → waiting_work most other.rest + (100 + most) ≡ waiting_work most items)
        → waiting_work most picked.rest + (100 + most) ≡ waiting_work most (item ∷ items)
    by_test true below is all = by_below below is all
    by_test false below is all =
        let rest : items ≡ picked.rest = cc in
        let same = ap (waiting_work most) rest in omega (arith, same)

-- Less news -----------------------------------------------------------------------------------------------------------

weight_fewer : (few many : ℕ) (part : Part) → few ≤ many → weight few part ≤ weight many part
weight_fewer few many (Part.Unfolds (TellsNews below)) less = omega (arith, less)
weight_fewer few many (Part.Unfolds Judges) less = omega arith
weight_fewer few many (Part.Unfolds (Decides logged stops)) less = omega arith
weight_fewer few many (Part.Unfolds Stepped) less = omega arith
weight_fewer few many (Part.Unfolds (Written seen)) less = omega arith
weight_fewer few many (Part.Unfolds (Leaves exits)) less = omega arith
weight_fewer few many (Part.Looks lookup) less = omega arith
weight_fewer few many (Part.Responds outcome) less = omega arith
weight_fewer few many (Part.Tells event) less = omega arith
weight_fewer few many (Part.Sends deed) less = omega arith
weight_fewer few many (Part.Awaits guard) less = omega arith
weight_fewer few many Part.Updates less = omega arith
weight_fewer few many (Part.Notes note) less = omega arith
weight_fewer few many (Part.Ends finish) less = omega arith

weights_fewer : (few many : ℕ) (parts : List Part) → few ≤ many → weights few parts ≤ weights many parts
weights_fewer few many [] less = omega arith
weights_fewer few many (part ∷ parts) less =
    let one = weight_fewer few many part less in
    let others = weights_fewer few many parts less in omega (arith, one, others)

hand_fewer : (few many : ℕ) (hand : Option Hand) → few ≤ many → hand_work few hand ≤ hand_work many hand
hand_fewer few many None less = omega arith
hand_fewer few many (Some hand) less = let all = weights_fewer few many hand.parts less in omega (arith, all)

waiting_fewer : (few many : ℕ) (items : List Item) → few ≤ many → waiting_work few items ≤ waiting_work many items
waiting_fewer few many [] less = omega arith
waiting_fewer few many (item ∷ items) less =
    let others = waiting_fewer few many items less in omega (arith, less, others)

work_fewer : (few many : ℕ) (m : Machine) → few ≤ many → work_of few m ≤ work_of many m
work_fewer few many m less =
    let items = waiting_fewer few many m.waiting less in
    let hand = hand_fewer few many m.hand less in omega (arith, items, hand)

-- The moves -----------------------------------------------------------------------------------------------------------

begun_less : (most : ℕ) (m : Machine) (picked : Picked) → m.hand ≡ None
    → pick (is_gone m.state.phase) m.waiting ≡ Some picked
    → work_of most (begun m picked.item picked.rest) < work_of most m
begun_less most m picked none is =
    let less = picked_work most (is_gone m.state.phase) m.waiting picked is in
    let light = begun_light most m.state picked.item in
    let was : hand_work most m.hand ≡ 0 = ap (hand_work most) none in omega (arith, less, light, was)

part_less : (most : ℕ) (m : Machine) (hand : Hand) (part : Part) (rest parts : List Part) (state : State) → IsAt m hand part rest
    → state.greeting_sent ≡ m.state.greeting_sent → weights most parts < weight most part + weights most rest
    → work_of most (left (knowing m state) hand parts) < work_of most m
part_less most m hand part rest parts state at greets less =
    let was : hand_work most m.hand ≡ hand_work most (Some hand) = ap (hand_work most) at.in_hand in
    let heavy : weights most hand.parts ≡ weight most part + weights most rest = ap (weights most) at.parts in
    let same : one_unless state.greeting_sent ≡ one_unless m.state.greeting_sent = ap one_unless greets in
    omega arith

-- an effect is sent for the part in front
sent_less : (most : ℕ) (m : Machine) (hand : Hand) (part : Part) (rest : List Part) (now : Hand) (state : State)
    → IsAt m hand part rest → state.greeting_sent ≡ m.state.greeting_sent
    → hand_work most (Some now) < hand_work most (Some hand)
    → work_of most (record m { hand = Some now; state = state }) < work_of most m
sent_less most m hand part rest now state at greets less =
    let was : hand_work most m.hand ≡ hand_work most (Some hand) = ap (hand_work most) at.in_hand in
    let same : one_unless state.greeting_sent ≡ one_unless m.state.greeting_sent = ap one_unless greets in
    omega arith

queued_less : (most : ℕ) (m : Machine) (hand : Hand) → load_of m ≡ lacking_more → m.hand ≡ Some hand
    → work_of most (record m { hand = Some (record hand { queue = newly_lacked m.state hand }) }) < work_of most m
queued_less most m hand free is =
    let was : hand_work most m.hand ≡ hand_work most (Some hand) = ap (hand_work most) is in
    let before : one_if (is_empty hand.queue) ≡ 1 = ap one_if
    (by_bools (can_read m) (is_flying hand.effect) (is_empty hand.queue) (is_empty (newly_lacked m.state hand))
    (has_waiting hand.asked) (load_in m hand lacking_more free (near_queue m free) is)) in
    let now : one_if (is_empty (newly_lacked m.state hand)) ≡ 0 = ap one_if (lacking_hand m hand free is) in
    omega arith
  where
    by_bools : (reads flies none_queued none_lacking waits : Bool)
        → cond reads busy (cond flies busy (cond (not none_queued) queued (cond (not none_lacking) lacking_more
        (cond waits waiting clear)))) ≡ lacking_more → none_queued ≡ true
    by_bools reads flies none_queued none_lacking waits is = grind arith

at_most : (b : Bool) → one_if b ≤ 1
at_most true = omega arith
at_most false = omega arith

asked_less : (most : ℕ) (m : Machine) (hand : Hand) (want : Want) (wants : List Want) → is_full false m ≡ false
    → m.hand ≡ Some hand → hand.queue ≡ want ∷ wants
    → work_of most (record m { hand = option_map (asked_hand want) m.hand }) < work_of most m
asked_less most m hand want wants room is are =
    let was : hand_work most m.hand ≡ hand_work most (Some hand) = ap (hand_work most) is in
    let now : hand_work most (option_map (asked_hand want) m.hand) ≡ hand_work most (Some (asked_hand want hand)) =
    ap (λ (held : Option Hand). hand_work most (option_map (asked_hand want) held)) is in
    let before : one_if (is_empty hand.queue) ≡ 0 = ap (λ (queue : List Want). one_if (is_empty queue)) are in
    let one : List TargetCommand = a_question (question_of want) ∷ [] in
    let more : length (flat_map unanswered (hand.asked ++ record { want = want; reply = None } ∷ []))
    ≡ length (flat_map unanswered hand.asked) + 1 =
    ap length (flat_map-append unanswered hand.asked (record { want = want; reply = None } ∷ []))
    ∙ length-append (flat_map unanswered hand.asked) one in
    let few = few_asked m hand is (few_pending (length (pending_of m)) room) in
    let rest = at_most (is_empty (behind_first hand.queue)) in
    omega arith
  where
    few_pending : (n : ℕ) → nat_le 16 n ≡ false → n < 16
    few_pending n is = grind (arith, is)

    few_asked : (m : Machine) (hand : Hand) → m.hand ≡ Some hand → length (pending_of m) < 16
        → length (flat_map unanswered hand.asked) < 16
    few_asked m hand is few =
        let all : pending_of m ≡ m.late ++ (flat_map unanswered hand.asked ++ unanswered_effect hand.effect) =
        ap (λ (held : Option Hand). m.late ++ pending_in held) is in
        let long = ap length all in
        let outer = length-append m.late (flat_map unanswered hand.asked ++ unanswered_effect hand.effect) in
        let inner = length-append (flat_map unanswered hand.asked) (unanswered_effect hand.effect) in omega arith

some_weight : (most : ℕ) (part : Part) (rest : ℕ) → rest < weight most part + rest
some_weight most part rest = grind arith

-- each move of the machine's own lessens what it can still do, where so much may be told
less_by : (most : ℕ) (m next : Machine) (said : Option Message) → news_left m ≤ most
    → is_own said ≡ true → Moves m said next → work_of most next < work_of most m
less_by most m next said few own (Moves.begins picked free none is) = begun_less most m picked none is
less_by most m next said few own (Moves.drops {hand} free is none) =
    let was : hand_work most m.hand ≡ hand_work most (Some hand) = ap (hand_work most) is in omega (arith, was)
less_by most m next said few own (Moves.responds {hand} {rest} {outcome = outcome} free at is) =
    part_less most m hand (Part.Responds outcome) rest rest (numbered_by outcome m.state) at
    (numbered_greets outcome m.state) (omega arith)
less_by most m next said few own (Moves.finds {hand} {rest} {lookup} found free at needs done) =
    let parts = finished lookup (result_of found) m.state in
    let light = finished_light most lookup found m.state hand needs in
    let both = weights_joined most parts rest in
    part_less most m hand (Part.Looks lookup) rest (parts ++ rest) m.state at refl (omega (arith, light, both))
less_by most m next said few own (Moves.passes_over {hand} {part} {rest} free at why) =
    part_less most m hand part rest rest m.state at refl (some_weight most part (weights most rest))
less_by most m next said few own (Moves.tells {hand} {rest} {event} free at) =
    part_less most m hand (Part.Tells event) rest rest (after_event event m.state) at (told_greets event m.state)
    (omega arith)
less_by most m next said few own (Moves.sends {hand} {rest} {deed} free at near) =
    let heavy : weights most hand.parts ≡ 1 + weights most rest = ap (weights most) at.parts in
    sent_less most m hand (Part.Sends deed) rest
    (record hand { parts = rest; effect = Some (record { effect = Does deed; reply = None }) })
    (after_deed deed m.state) at refl (omega (arith, heavy))
less_by most m next said few own (Moves.updates {hand} {effect} {rest} free at is near) =
    let heavy : weights most hand.parts ≡ 1 + weights most rest = ap (weights most) at.parts in
    let lands : one_unless (is_flying hand.effect) ≡ 1 = ap one_unless (is_free m hand free near at.in_hand).lands in
    sent_less most m hand Part.Updates rest
    (record hand { parts = Part.Updates ∷ rest; effect = Some (record { effect = effect; reply = None }) }) m.state
    at refl (omega (arith, heavy, lands))
less_by most m next said few own (Moves.greets {hand} {guard} free at is near) =
    let before : one_unless m.state.greeting_sent ≡ 1 = ap one_unless (unsent m guard is) in omega (arith, before)
less_by most m next said few own (Moves.notes {hand} {note} {rest} free at) =
    part_less most m hand (Part.Notes note) rest rest (noted note m.state) at (noted_greets note m.state)
    (omega arith)
less_by most m next said few own (Moves.unfolds {hand} {choice} {rest} free at) =
    let parts = chosen choice m.state hand in
    let was : news_in_hand m.hand ≡ lines_in hand.parts + length (changes_in hand.item) =
    ap news_in_hand at.in_hand in
    let light = chosen_light most choice m.state hand (omega (arith, few, was)) in
    let both = weights_joined most parts rest in
    part_less most m hand (Part.Unfolds choice) rest (parts ++ rest) m.state at refl (omega (arith, light, both))
less_by most m next said few own (Moves.queues {hand} free is) = queued_less most m hand free is
less_by most m next said few own (Moves.asks {hand} {want} {wants} free room is are) =
    asked_less most m hand want wants room is are
less_by most m next said few own (Moves.loses {message} late near why) =
    let no : true ≡ false = sym own ∙ not_lost m message late why in cc
less_by most m next said few own _ = cc

-- and makes the news no more
less_on : (m next : Machine) (said : Option Message) → is_own said ≡ true → Moves m said next → work next < work m
less_on m next said own move =
    let less = less_by (news_left m) m next said (omega arith) own move in
    let few = work_fewer (news_left next) (news_left m) next (news_on m next said own move) in
    omega (arith, less, few)

goes : (m : Machine) → (due false m).act ≡ Act.Goes → Moves m None (due false m).next
goes m is = rw is at (walks_due m)

moves_by : (m : Machine) (act : Act) → (due false m).act ≡ act → is_work act ≡ true
    → Moves m (said act) (due false m).next
moves_by m Act.Waits is work = cc
moves_by m Act.Goes is work = goes m is
moves_by m (Act.Tells told) is work = moved (Allows.acts (ap said is))
moves_by m Act.Greets is work = moved (Allows.acts (ap said is))
moves_by m (Act.Sends effect) is work = moved (Allows.acts (ap said is))
moves_by m (Act.Asks question) is work = moved (Allows.acts (ap said is))
moves_by m (Act.Over finish) is work = cc

pub works_on : (act : Act) → is_work act ≡ true → is_wait act ≡ false
works_on act is = grind (arith, is)

pub own_said : (act : Act) → is_own (said act) ≡ true
own_said act = grind arith

-- what is due is a move, unless it is a wait or the end
pub due_moves : (id_pending : Bool) (m : Machine) → is_work (due id_pending m).act ≡ true
    → Moves m (said (due id_pending m).act) (due id_pending m).next
due_moves id_pending m is =
    let same = due_any id_pending m (works_on (due id_pending m).act is) in
    let acts : (due id_pending m).act ≡ (due false m).act = ap (λ (to : Due). to.act) same in
    subst (λ (to : Due). Moves m (said to.act) to.next) (sym same)
    (moves_by m (due false m).act refl (ap is_work (sym acts) ∙ is))

-- The measure ---------------------------------------------------------------------------------------------------------

-- each act lessens what the machine can still do, but a wait and the end
pub due_less : (id_pending : Bool) (m : Machine) → is_work (due id_pending m).act ≡ true
    → work (due id_pending m).next < work m
due_less id_pending m is =
    less_on m (due id_pending m).next (said (due id_pending m).act) (own_said (due id_pending m).act)
    (due_moves id_pending m is)

-- A wait and the end change nothing -----------------------------------------------------------------------------------

abbrev Stays : Machine → Due → Type 0
Stays m to = is_work to.act ≡ false → to.next ≡ m

stays_responded : (item : Item) (outcome : Outcome) (m : Machine) (hand : Hand) (rest : List Part)
    → Stays m (responded item outcome m hand rest)
stays_responded (a_request request) outcome m hand rest = λ is. cc
stays_responded (a_composite at composite) outcome m hand rest = λ is. cc
stays_responded (a_raw at body) outcome m hand rest = λ is. cc
stays_responded target_end outcome m hand rest = λ is. cc

stays_looked : (lookup : Lookup) (found : Need Finding) (m : Machine) (hand : Hand) (rest : List Part)
    → Stays m (looked lookup found m hand rest)
stays_looked lookup (has finding) m hand rest = λ is. cc
stays_looked lookup (fails fault) m hand rest = λ is. cc
stays_looked lookup (lacks want others) m hand rest = λ is. refl

stays_guarded : (found : Way) (m : Machine) (hand : Hand) (rest : List Part) → Stays m (guarded found m hand rest)
stays_guarded passes m hand rest = λ is. cc
stays_guarded greets_way m hand rest = λ is. cc
stays_guarded holds_way m hand rest = λ is. refl
stays_guarded (asks_way want) m hand rest = λ is. refl

stays_updated : (found : Option Effect) (m : Machine) (hand : Hand) (rest : List Part)
    → Stays m (updated found m hand rest)
stays_updated None m hand rest = λ is. cc
stays_updated (Some effect) m hand rest = λ is. cc

stays_hand : (m : Machine) (hand : Hand) (parts : List Part) → Stays m (hand_due m hand parts)
stays_hand m hand [] = λ is. cc
stays_hand m hand (Part.Responds outcome ∷ rest) = stays_responded hand.item outcome m hand rest
stays_hand m hand (Part.Tells event ∷ rest) = λ is. cc
stays_hand m hand (Part.Sends deed ∷ rest) = λ is. cc
stays_hand m hand (Part.Looks lookup ∷ rest) = stays_looked lookup (found_for lookup m.state hand) m hand rest
stays_hand m hand (Part.Awaits guard ∷ rest) = stays_guarded (way guard m.state) m hand rest
stays_hand m hand (Part.Updates ∷ rest) = stays_updated (effect_due m.state.wishes) m hand rest
stays_hand m hand (Part.Notes note ∷ rest) = λ is. cc
stays_hand m hand (Part.Unfolds choice ∷ rest) = λ is. cc
stays_hand m hand (Part.Ends finish ∷ rest) = λ is. refl

stays_next : (m : Machine) (picked : Option Picked) → Stays m (next_item m picked)
stays_next m None = λ is. refl
stays_next m (Some picked) = λ is. cc

stays_in : (m : Machine) (hand : Option Hand) → Stays m (wanted_in m hand)
stays_in m None = stays_next m (pick (is_gone m.state.phase) m.waiting)
stays_in m (Some hand) = stays_hand m hand hand.parts

stays_wanted : (m : Machine) → Stays m (wanted m)
unfolding wanted
stays_wanted m = stays_in m m.hand

stays_gated : (gate : Bool) (m : Machine) (to : Due) → Stays m to → Stays m (gated gate m to)
stays_gated true m to stays = stays
stays_gated false m to stays = λ is. refl

stays_first : (full : Bool) (m : Machine) (wants : List Want) → Stays m (asked_first full m wants)
stays_first full m [] = λ is. refl
stays_first true m (want ∷ wants) = λ is. refl
stays_first false m (want ∷ wants) = λ is. cc

stays_asked : (full : Bool) (m : Machine) (hand : Option Hand) → Stays m (asked_next full m hand)
stays_asked full m None = λ is. refl
stays_asked full m (Some hand) = stays_first full m hand.queue

stays_lacking : (m : Machine) (hand : Option Hand) → Stays m (queued_next m hand)
stays_lacking m None = λ is. refl
stays_lacking m (Some hand) = λ is. cc

stays_by : (full : Bool) (m : Machine) (load : Load) → Stays m (due_by full load m)
stays_by full m busy = λ is. refl
stays_by full m queued = stays_asked full m m.hand
stays_by full m lacking_more = stays_lacking m m.hand
stays_by full m waiting = λ is. refl
stays_by full m clear =
    stays_gated (lets (is_gone m.state.phase) (wanted m).act) m (wanted m) (stays_wanted m)

-- a wait and the end leave the machine as it is
pub due_stays : (id_pending : Bool) (m : Machine) → is_work (due id_pending m).act ≡ false
    → (due id_pending m).next ≡ m
unfolding due
due_stays id_pending m = stays_by (is_full id_pending m) m (load_of m)

-- The items that wait -------------------------------------------------------------------------------------------------

waiting_on : (m next : Machine) (said : Option Message) → is_own said ≡ true → Moves m said next
    → length next.waiting ≤ length m.waiting
waiting_on m next said own (Moves.begins picked free none is) =
    let less = picked_less (is_gone m.state.phase) m.waiting picked is in omega arith
waiting_on m next said own (Moves.hears read is) = cc
waiting_on m next said own (Moves.loses {message} late near why) =
    let no : true ≡ false = sym own ∙ not_lost m message late why in cc
waiting_on m next said own (Moves.comes read sized taken) = cc
waiting_on m next said own (Moves.keeps is) = cc
waiting_on m next said own (Moves.reads before after read is none taken) = cc
waiting_on m next said own _ = omega arith

-- no act makes more items wait
pub due_waiting : (id_pending : Bool) (m : Machine) → length (due id_pending m).next.waiting ≤ length m.waiting
due_waiting id_pending m = by_work (is_work (due id_pending m).act) refl
  where
    by_work : (works : Bool) → is_work (due id_pending m).act ≡ works
        → length (due id_pending m).next.waiting ≤ length m.waiting
    by_work true is =
        waiting_on m (due id_pending m).next (said (due id_pending m).act) (own_said (due id_pending m).act)
        (due_moves id_pending m is)
    by_work false is =
        let same : length (due id_pending m).next.waiting ≡ length m.waiting =
        ap (λ (m : Machine). length m.waiting) (due_stays id_pending m is) in omega arith
