-- How many breakpoints are listed, or still to be, and of how many threads is to be told: no act of the
-- machine makes them more, and no more news is told at once.
use Rattle.std.proofs.Common.{◌≡◌, ℕ, ◌+◌, ◌≤◌, Bool, true, false, cond, List, [], ◌∷◌, ◌++◌, length, Option, Some}
use Rattle.std.proofs.Common.{None, refl, sym, ap, ◌∙◌, arith, map, length-append, option_map, subst}
use Rattle.std.proofs.lemmas.List.{length-map}
use Rattle.std.specs.BTreeSet.{insert_key}
use Rattle.std.specs.List.{flat_map, fold}
use Rattle.std.specs.Ordering.{match_ordering, nat_cmp, on}
use Rattle.std.specs.declared.cmp.Ordering.{Ordering}
use Rattle.std.specs.declared.cmp.Ordering.TheVariants.{Less, Equal, Greater}
use Rattle.std.specs.Prelude.{bytes_eq, filter, if◌then◌else◌}
use Rattle.class_tables.specs.Lookups.{Lookups, found_in}
use Rattle.class_tables.specs.Tables.{put}
use Rattle.dap_messages.specs.declared.requests.FunctionBreakpoint.{FunctionBreakpoint}
use Rattle.dap_messages.specs.declared.requests.SourceBreakpoint.{SourceBreakpoint}
use Rattle.dap_messages.specs.declared.requests.StackTraceArguments.{StackTraceArguments}
use Rattle.dap_messages.specs.declared.requests.VariablesArguments.{VariablesArguments}
use Rattle.std.specs.Prelude as prelude
use Rattle.std.specs.Prelude.{Ok, Err, option_and_then}
use Rattle.stop_refs.specs.Numbers.{InHand, container, frame}
use Rattle.stop_refs.specs.declared.fault.RefFault.{RefFault}
use Rattle.stop_refs.specs.declared.thing.FrameThing.{FrameThing}
use Rattle.stop_refs.specs.declared.thing.Thing.{Thing}
use Rattle.jdwp_values.specs.declared.id.ClassId.{ClassId}
use Rattle.jdwp_events.specs.declared.kind.Policy.{Policy}
use Rattle.machine_model.specs.Breakpoints.{entry_of, functions_from, is_news, newly_verified, numbered_from}
use Rattle.machine_model.specs.Composites.{changes_in, composite_parts, has_death}
use Rattle.machine_model.specs.Due.{Picked, after_deed, asked_hand, passed_by, pick}
use Rattle.machine_model.specs.Lookups.{finished}
use Rattle.machine_model.specs.Outcomes.{result_of}
use Rattle.machine_model.specs.Plans.{Result}
use Rattle.machine_model.specs.Requests.{Wishes}
use Rattle.machine_model.specs.declared.parts.News.{News}
use Rattle.machine_model.specs.declared.parts.News.TheVariants.{Verified as entry_verified}
use Rattle.field_exprs.specs.Parsing.{parsed}
use Rattle.field_exprs.specs.declared.expr.Expr.{Expr}
use Rattle.machine_model.specs.Rows.{evaluate_by, write_by, written_by}
use Rattle.machine_model.specs.declared.parts.Seen.{Seen}
use Rattle.dap_messages.specs.declared.requests.SetVariableArguments.{SetVariableArguments}
use Rattle.machine_model.specs.Rows.{chosen, configured_parts, continue_parts, end_parts, failure_of, news_of, noted}
use Rattle.machine_model.specs.Rows.{parts_by, parts_of, pause_parts, row_of, scopes_parts, stack_parts, thread_with, told_in}
use Rattle.machine_model.specs.Rows.{variables_parts, wanting}
use Rattle.machine_model.specs.Runs.{Message}
use Rattle.machine_model.specs.State.{Hand, Machine, State, is_gone, is_raw, knowing, left}
use Rattle.machine_model.specs.Telling.{after_event, numbered_by}
use Rattle.machine_model.specs.Rows.{exception_parts, refused_with, step_parts, stepped_by, stepped_thread, thrown_first}
use Rattle.machine_model.specs.Stops.{hit_parts}
use Rattle.machine_model.specs.declared.parts.Halt.{Halt}
use Rattle.machine_model.specs.declared.parts.Suspension.TheVariants.{Composite as of_composite}
use Rattle.machine_model.specs.declared.parts.Thrown.{Thrown}
use Rattle.machine_steps.proofs.Stepping.{IsAt, Moves}
use Rattle.machine_steps.proofs.Tables.{of_decided, of_judged, of_told}
use Rattle.wish_sets.specs.declared.wish.Depth.{Depth}
use Rattle.wish_sets.specs.declared.wish.Depth.TheVariants.{Into, Out, Over}
use Rattle.jdwp_values.specs.declared.id.ThreadId.{ThreadId}
use Rattle.machine_work.specs.Names.{Evaluate, SetVariable, Written}
use Rattle.machine_work.specs.Names.{Attached, Choice, Classes, Command, ConfigurationDone, Configured, Continue}
use Rattle.machine_work.specs.Names.{Decides, EntryHeld, Event, Failure, Finding, Fresh, Gone, Item, Leaves, Lines}
use Rattle.machine_work.specs.Names.{Lookup, Note, Options, Outcome, Part, Pause, Phase, Roots, SetBreakpoints}
use Rattle.machine_work.specs.Names.{ExceptionInfo, Functions, Next, Resume, Scopes, SetFunctionBreakpoints, StackTrace}
use Rattle.machine_work.specs.Names.{StepIn, StepOut, Stepped, Steps, StopsAt, TellsNews, Throws, Variables, a_composite}
use Rattle.machine_work.specs.Names.{Judges, Strike}
use Rattle.machine_work.specs.Names.{a_raw, a_request, target_end}
use Rattle.machine_work.specs.Working.{lines_in, lines_in_part, lines_listed, lines_noted, news_in_hand, news_in_item}
use Rattle.machine_work.specs.Working.{news_left, news_waiting}
use Rattle.machine_work.proofs.OwnMoves.{is_own, not_lost}
use Rattle.wish_sets.specs.Entries.{all_entries, function_seen, is_verified, line_seen, verified}
use Rattle.wish_sets.specs.Wanted.{Wanted, with_class, with_functions, with_known, with_lines}
use Rattle.wish_sets.specs.declared.entry.LineEntry.{LineEntry}
use Rattle.wish_sets.specs.declared.entry.VerifiedEntry.{VerifiedEntry}

-- Lists ---------------------------------------------------------------------------------------------------------------

insert_few : {K : Type 0} (cmp : K → K → Ordering) (keys : List K) (key : K)
    → length (insert_key cmp keys key) ≤ length keys + 1
insert_few cmp [] key = omega arith
insert_few cmp (first ∷ keys) key = by_order (cmp key first) (insert_few cmp keys key)
  where
    by_order : (order : Ordering) → length (insert_key cmp keys key) ≤ length keys + 1
        → length (match_ordering order (key ∷ first ∷ keys) (first ∷ keys) (first ∷ insert_key cmp keys key))
        ≤ length (first ∷ keys) + 1
    by_order Less few = omega arith
    by_order Equal few = omega arith
    by_order Greater few = omega (arith, few)

fold_few : {K : Type 0} (cmp : K → K → Ordering) (keys more : List K)
    → length (fold (insert_key cmp) keys more) ≤ length keys + length more
fold_few cmp keys [] = omega arith
fold_few cmp keys (key ∷ more) =
    let one = insert_few cmp keys key in
    let all = fold_few cmp (insert_key cmp keys key) more in omega (arith, one, all)

filter_few : {A : Type 0} (test : A → Bool) (items : List A) → length (filter test items) ≤ length items
filter_few test [] = omega arith
filter_few test (item ∷ items) = by_test (test item) (filter_few test items)
  where
    by_test : (passes : Bool) → length (filter test items) ≤ length items
        → length (cond passes (item ∷ filter test items) (filter test items)) ≤ length (item ∷ items)
    by_test true few = omega (arith, few)
    by_test false few = omega (arith, few)

-- no more are told to be verified than are listed
pub news_few : (below : ℕ) (ids : List ℕ) (wishes : Wishes)
    → length (newly_verified below ids wishes) ≤ length (all_entries wishes.wanted)
news_few below ids wishes =
    let news = filter_few (is_news below ids) (verified wishes) in
    let each = fold_few (on (λ (entry : VerifiedEntry). entry.id) nat_cmp) []
    (filter (is_verified wishes) (all_entries wishes.wanted)) in
    let some = filter_few (is_verified wishes) (all_entries wishes.wanted) in omega (arith, news, each, some)

-- what is told at once
pub all_news_few : (below : ℕ) (state : State) (item : Item)
    → length (news_of below state item) ≤ length (all_entries state.wishes.wanted) + length (changes_in item)
all_news_few below state item =
    let verified = newly_verified below state.bound state.wishes in
    let both = length-append (map entry_verified verified) (changes_in item) in
    let same = length-map verified entry_verified in
    let few = news_few below state.bound state.wishes in omega (arith, both, same, few)

-- What is listed ------------------------------------------------------------------------------------------------------

abbrev under : List (List ℕ × List LineEntry) → List VerifiedEntry
under lists = flat_map (λ (list : List ℕ × List LineEntry). map line_seen list.1) lists

-- one list before others
first_under : (entries : List LineEntry) (others : List VerifiedEntry)
    → length (map line_seen entries ++ others) ≡ length entries + length others
first_under entries others =
    let both = length-append (map line_seen entries) others in
    let long = length-map entries line_seen in omega (arith, both, long)

put_few : (key : List ℕ) (entries : List LineEntry) (lists : List (List ℕ × List LineEntry))
    → length (under (put bytes_eq key entries lists)) ≤ length entries + length (under lists)
put_few key entries [] = let both = first_under entries [] in omega (arith, both)
put_few key entries (list ∷ lists) = by_test (bytes_eq key list.0) (put_few key entries lists)
  where
    by_test : (same : Bool) → length (under (put bytes_eq key entries lists)) ≤ length entries + length (under lists)
        → length (under (if same then (list.0, entries) ∷ lists else list ∷ put bytes_eq key entries lists))
        ≤ length entries + length (under (list ∷ lists))
    by_test true few =
        let now = first_under entries (under lists) in
        let was = first_under list.1 (under lists) in omega (arith, now, was)
    by_test false few =
        let now = first_under list.1 (under (put bytes_eq key entries lists)) in
        let was = first_under list.1 (under lists) in omega (arith, few, now, was)

known_entries : (known : Lookups) (classes : List ClassId) (wanted : Wanted)
    → all_entries (with_known known classes wanted) ≡ all_entries wanted
known_entries known [] wanted = refl
known_entries known (class ∷ classes) wanted = known_entries known classes (with_class known class wanted)

-- of a source and of functions
all_length : (wanted : Wanted)
    → length (all_entries wanted) ≡ length (under wanted.lists) + length wanted.functions
all_length wanted =
    let both = length-append (under wanted.lists) (map function_seen wanted.functions) in
    let long = length-map wanted.functions function_seen in omega (arith, both, long)

-- what is written down was to be
pub noted_few : (note : Note) (state : State)
    → length (all_entries (noted note state).wishes.wanted)
    ≤ lines_noted note + length (all_entries state.wishes.wanted)
noted_few (Options options) state = omega arith
noted_few (Roots roots) state = omega arith
noted_few (Lines None path entries) state = omega arith
noted_few (Lines (Some key) path entries) state =
    let now = all_length (with_lines key entries state.wishes.wanted) in
    let was = all_length state.wishes.wanted in
    let few = put_few key entries state.wishes.wanted.lists in omega (arith, now, was, few)
noted_few (Functions entries) state =
    let now = all_length (with_functions entries state.wishes.wanted) in
    let was = all_length state.wishes.wanted in omega (arith, now, was)
noted_few (StopsAt caught uncaught) state = omega arith
noted_few (Steps step) state = omega arith
noted_few (Throws thrown) state = omega arith
noted_few (Classes classes) state =
    let same = ap (λ (entries : List VerifiedEntry). length entries)
    (known_entries (found_in state.classes) classes state.wishes.wanted) in
    omega (arith, same)
noted_few EntryHeld state = omega arith
noted_few Configured state = omega arith

-- Parts ---------------------------------------------------------------------------------------------------------------

pub lines_joined : (some others : List Part) → lines_in (some ++ others) ≡ lines_in some + lines_in others
lines_joined [] others = omega arith
lines_joined (part ∷ some) others = let more = lines_joined some others in omega (arith, more)

numbered_length : (id : ℕ) (breakpoints : List SourceBreakpoint)
    → length (numbered_from id breakpoints) ≡ length breakpoints
numbered_length id [] = refl
numbered_length id (breakpoint ∷ breakpoints) =
    let more = numbered_length (id + 1) breakpoints in omega (arith, more)

functions_length : (id : ℕ) (functions : List FunctionBreakpoint)
    → length (functions_from id functions) ≡ length functions
functions_length id [] = refl
functions_length id (function ∷ functions) =
    let more = functions_length (id + 1) functions in omega (arith, more)

pub finished_lines : (lookup : Lookup) (result : Result Finding) (state : State)
    → lines_in (finished lookup result state) ≡ 0
finished_lines lookup result state = grind arith

hit_lines : (stopped : Bool) (thrown : List Thrown) (stops : List Strike) (halt : Halt)
    → lines_in (hit_parts stopped thrown stops halt) ≡ 0
hit_lines false thrown stops halt =
    of_told (λ (part : Part).
    lines_in (Part.Notes (Throws thrown) ∷ Part.Notes (Steps None) ∷ Part.Updates ∷ part ∷ []) ≡ 0)
    (λ stopping. refl) (λ thread object. refl) stops halt
hit_lines true thrown stops halt =
    of_told (λ (part : Part). lines_in (Part.Notes (Throws thrown) ∷ Part.Notes (Steps None) ∷ Part.Updates ∷ part
    ∷ Part.Sends (Resume of_composite) ∷ []) ≡ 0) (λ stopping. refl) (λ thread object. refl) stops halt

stepped_lines : (code : Option ℕ) → lines_in (stepped_by code) ≡ 0
stepped_lines None = refl
stepped_lines (Some code) = refl

written_lines : (seen : Seen) (code : Option ℕ) → lines_in (written_by seen code) ≡ 0
written_lines seen None = refl
written_lines seen (Some code) = refl

pub chosen_lines : (choice : Choice) (state : State) (hand : Hand) → lines_in (chosen choice state hand) ≡ 0
chosen_lines (TellsNews below) state hand = by_phase state.phase (news_of below state hand.item)
  where
    by_phase : (phase : Phase) (news : List News) → lines_in (told_in phase news) ≡ 0
    by_phase Fresh news = refl
    by_phase Gone news = refl
    by_phase Attached [] = refl
    by_phase Attached (one ∷ news) = let more = by_phase Attached news in omega (arith, more)
chosen_lines Judges state hand =
    of_judged (λ (parts : List Part). lines_in parts ≡ 0) refl (λ strikes. refl) state hand.item
chosen_lines (Decides logged stops) state hand =
    of_decided (λ (parts : List Part). lines_in parts ≡ 0) refl refl refl hit_lines (λ text texts stops. refl)
    state logged stops hand.item
chosen_lines Stepped state hand = stepped_lines (refused_with hand.effect)
chosen_lines (Written seen) state hand = written_lines seen (refused_with hand.effect)
chosen_lines (Leaves exits) state hand = grind arith

configured_lines : (entry : Bool) → lines_in (configured_parts entry) ≡ 0
configured_lines true = refl
configured_lines false = refl

continue_lines : (thread : Option ThreadId) → lines_in (continue_parts thread) ≡ 0
continue_lines None = refl
continue_lines (Some thread) = refl

pause_lines : (stopped : Bool) (thread : Option ThreadId) → lines_in (pause_parts stopped thread) ≡ 0
pause_lines stopped None = refl
pause_lines true (Some thread) = refl
pause_lines false (Some thread) = refl

stack_lines : (thread : Option ThreadId) (arguments : StackTraceArguments)
    → lines_in (stack_parts thread arguments) ≡ 0
stack_lines None arguments = refl
stack_lines (Some thread) arguments = refl

scopes_lines : (numbers : InHand) (found : prelude.Result FrameThing RefFault)
    → lines_in (scopes_parts numbers found) ≡ 0
scopes_lines numbers (Ok one) = refl
scopes_lines numbers (Err fault) = refl

variables_lines : (arguments : VariablesArguments) (found : prelude.Result Thing RefFault)
    → lines_in (variables_parts arguments found) ≡ 0
variables_lines arguments (Ok thing) = refl
variables_lines arguments (Err fault) = refl

write_lines : (arguments : SetVariableArguments) (found : prelude.Result Thing RefFault)
    → lines_in (write_by arguments found) ≡ 0
write_lines arguments (Ok thing) = refl
write_lines arguments (Err fault) = refl

evaluate_lines : (read : prelude.Result Expr ℕ) (found : prelude.Result FrameThing RefFault)
    → lines_in (evaluate_by read found) ≡ 0
evaluate_lines (Ok expression) (Ok one) = refl
evaluate_lines (Err place) (Ok one) = refl
evaluate_lines read (Err fault) = refl

step_lines : (depth : Depth) (thread : Option ThreadId) → lines_in (step_parts depth thread) ≡ 0
step_lines depth None = refl
step_lines depth (Some thread) = refl

exception_lines : (thrown : Option Thrown) → lines_in (exception_parts thrown) ≡ 0
exception_lines None = refl
exception_lines (Some thrown) = refl

row_lines : (command : Command) (state : State) → lines_in (row_of command state) ≡ lines_listed command
row_lines (SetBreakpoints arguments) state =
    let listed = numbered_from state.next_entry arguments.breakpoints in
    let long = length-map listed (entry_of state.options.lines_from_one) in
    let all = numbered_length state.next_entry arguments.breakpoints in omega (arith, long, all)
row_lines (SetFunctionBreakpoints arguments) state =
    let all = functions_length state.next_entry arguments.breakpoints in omega (arith, all)
row_lines ConfigurationDone state = configured_lines state.entry
row_lines (Next arguments) state = step_lines Over (stepped_thread state arguments.thread_id)
row_lines (StepIn arguments) state = step_lines Into (stepped_thread state arguments.thread_id)
row_lines (StepOut arguments) state = step_lines Out (stepped_thread state arguments.thread_id)
row_lines (ExceptionInfo arguments) state =
    exception_lines (option_and_then (thrown_first state.thrown) (thread_with state.threads arguments.thread_id))
row_lines (Continue arguments) state = continue_lines (thread_with state.threads arguments.thread_id)
row_lines (Pause arguments) state = pause_lines state.stopped (thread_with state.threads arguments.thread_id)
row_lines (StackTrace arguments) state =
    stack_lines (thread_with state.threads arguments.thread_id) arguments
row_lines (Scopes arguments) state = scopes_lines state.numbers (frame arguments.frame_id state.numbers)
row_lines (Variables arguments) state =
    variables_lines arguments (container arguments.variables_reference state.numbers)
row_lines (SetVariable arguments) state =
    write_lines arguments (container arguments.variables_reference state.numbers)
row_lines (Evaluate arguments) state =
    evaluate_lines (parsed arguments.expression) (frame arguments.frame_id state.numbers)
row_lines command state = grind arith

parts_lines : (failure : Option Failure) (row : List Part) → lines_in (parts_by failure row) ≤ lines_in row
parts_lines None row = omega arith
parts_lines (Some failure) row = omega arith

composite_lines : (phase : Phase) (dies : Bool) (policy : Policy) (at below : ℕ)
    → lines_in (composite_parts phase dies policy at below) ≡ 0
composite_lines phase dies policy at below = grind arith

end_lines : (terminated : Bool) → lines_in (end_parts terminated) ≡ 0
end_lines true = refl
end_lines false = refl

-- an item that is begun lists no more than it did while it waited
pub begun_news : (state : State) (item : Item)
    → lines_in (parts_of state item) + length (changes_in item) ≤ news_in_item item
begun_news state (a_request request) =
    let row = row_lines request.command state in
    let few = parts_lines (failure_of (wanting request.command) state) (row_of request.command state) in
    omega (arith, row, few)
begun_news state (a_composite at composite) =
    let none = composite_lines state.phase (has_death composite.events) composite.policy at state.next_entry in
    omega (arith, none)
begun_news state (a_raw at body) = omega arith
begun_news state target_end = let none = end_lines state.terminated in omega (arith, none)

-- Items ---------------------------------------------------------------------------------------------------------------

pub picked_news : (gone : Bool) (items : List Item) (picked : Picked) → pick gone items ≡ Some picked
    → news_in_item picked.item + news_waiting picked.rest ≡ news_waiting items
picked_news gone [] picked is = cc
picked_news gone (item ∷ items) picked is =
    by_test (cond gone false (is_raw item)) (pick gone items) is (λ other same. picked_news gone items other same)
  where
    by_below : (below : Option Picked) → passed_by item below ≡ Some picked
        → ((other : Picked) → below ≡ Some other
        → news_in_item other.item + news_waiting other.rest ≡ news_waiting items)
        → news_in_item picked.item + news_waiting picked.rest ≡ news_waiting (item ∷ items)
    by_below None is all = cc
    by_below (Some other) is all =
        let more = all other refl in
        let one : record { item = other.item; rest = item ∷ other.rest } ≡ picked = cc in
        subst (λ (p : Picked). news_in_item p.item + news_waiting p.rest ≡ news_waiting (item ∷ items)) one
        (omega (arith, more))

    by_test : (skips : Bool) (below : Option Picked)
        → cond skips (passed_by item below) (Some (record { item = item; rest = items })) ≡ Some picked
        → ((other : Picked) → below ≡ Some other
        → news_in_item other.item + news_waiting other.rest ≡ news_waiting items)
        → news_in_item picked.item + news_waiting picked.rest ≡ news_waiting (item ∷ items)
    by_test true below is all = by_below below is all
    by_test false below is all =
        let one : record { item = item; rest = items } ≡ picked = cc in
        subst (λ (p : Picked). news_in_item p.item + news_waiting p.rest ≡ news_waiting (item ∷ items)) one refl

-- The moves -----------------------------------------------------------------------------------------------------------

numbered_wishes : (outcome : Outcome) (state : State) → (numbered_by outcome state).wishes ≡ state.wishes
numbered_wishes outcome state = grind arith

told_wishes : (event : Event) (state : State) → (after_event event state).wishes ≡ state.wishes
told_wishes event state = grind arith

-- a part makes room for others
part_news : (m : Machine) (hand : Hand) (part : Part) (rest parts : List Part) (state : State)
    → IsAt m hand part rest
    → length (all_entries state.wishes.wanted) + lines_in parts
    ≤ length (all_entries m.state.wishes.wanted) + (lines_in_part part + lines_in rest)
    → news_left (left (knowing m state) hand parts) ≤ news_left m
part_news m hand part rest parts state at few =
    let was : news_in_hand m.hand ≡ lines_in hand.parts + length (changes_in hand.item) =
    ap news_in_hand at.in_hand in
    let all : lines_in hand.parts ≡ lines_in_part part + lines_in rest = ap lines_in at.parts in
    omega (arith, few, was, all)

-- no act makes them more
pub news_on : (m next : Machine) (said : Option Message) → is_own said ≡ true → Moves m said next
    → news_left next ≤ news_left m
news_on m next said own (Moves.begins picked free none is) =
    let one = picked_news (is_gone m.state.phase) m.waiting picked is in
    let few = begun_news m.state picked.item in
    let was : news_in_hand m.hand ≡ 0 = ap news_in_hand none in omega (arith, one, few, was)
news_on m next said own (Moves.drops {hand} free is none) = omega arith
news_on m next said own (Moves.responds {hand} {rest} {outcome = outcome} free at is) =
    let same = ap (λ (wishes : Wishes). length (all_entries wishes.wanted)) (numbered_wishes outcome m.state) in
    part_news m hand (Part.Responds outcome) rest rest (numbered_by outcome m.state) at (omega (arith, same))
news_on m next said own (Moves.finds {hand} {rest} {lookup} found free at needs done) =
    let parts = finished lookup (result_of found) m.state in
    let none = finished_lines lookup (result_of found) m.state in
    let both = lines_joined parts rest in
    part_news m hand (Part.Looks lookup) rest (parts ++ rest) m.state at (omega (arith, none, both))
news_on m next said own (Moves.passes_over {hand} {part} {rest} free at why) =
    part_news m hand part rest rest m.state at (omega arith)
news_on m next said own (Moves.tells {hand} {rest} {event} free at) =
    let same = ap (λ (wishes : Wishes). length (all_entries wishes.wanted)) (told_wishes event m.state) in
    part_news m hand (Part.Tells event) rest rest (after_event event m.state) at (omega (arith, same))
news_on m next said own (Moves.sends {hand} {rest} {deed} free at near) =
    part_news m hand (Part.Sends deed) rest rest (after_deed deed m.state) at (omega arith)
news_on m next said own (Moves.updates {hand} {effect} {rest} free at is near) =
    part_news m hand Part.Updates rest (Part.Updates ∷ rest) m.state at (omega arith)
news_on m next said own (Moves.greets {hand} {guard} free at is near) = omega arith
news_on m next said own (Moves.notes {hand} {note} {rest} free at) =
    let few = noted_few note m.state in
    part_news m hand (Part.Notes note) rest rest (noted note m.state) at (omega (arith, few))
news_on m next said own (Moves.unfolds {hand} {choice} {rest} free at) =
    let parts = chosen choice m.state hand in
    let none = chosen_lines choice m.state hand in
    let both = lines_joined parts rest in
    part_news m hand (Part.Unfolds choice) rest (parts ++ rest) m.state at (omega (arith, none, both))
news_on m next said own (Moves.queues {hand} free is) =
    let was : news_in_hand m.hand ≡ lines_in hand.parts + length (changes_in hand.item) =
    ap news_in_hand is in omega (arith, was)
news_on m next said own (Moves.asks {hand} {want} {wants} free room is are) =
    let was : news_in_hand m.hand ≡ lines_in hand.parts + length (changes_in hand.item) =
    ap news_in_hand is in
    let now : news_in_hand (option_map (asked_hand want) m.hand)
    ≡ lines_in hand.parts + length (changes_in hand.item) =
    ap (λ (held : Option Hand). news_in_hand (option_map (asked_hand want) held)) is in omega (arith, was, now)
news_on m next said own (Moves.loses {message} late near why) =
    let no : true ≡ false = sym own ∙ not_lost m message late why in cc
news_on m next said own _ = cc
