-- What is wished is what the client set last.
use Rattle.std.proofs.Common.{◌≡◌, ℕ, Bool, true, false, cond, not, ◌||◌, ◌+◌, List, [], ◌∷◌, ◌++◌, Option, Some, None}
use Rattle.std.proofs.Common.{refl, sym, ap, ap₂, subst, ◌∙◌, append-nil, append_assoc, option_map, arith, map, length}
use Rattle.std.proofs.Common.{length-append, suc}
use Rattle.std.proofs.lemmas.Bool.{not-true}
use Rattle.std.proofs.lemmas.List.Sums.{fold-append}
use Rattle.std.specs.List.{fold, zip}
use Rattle.class_tables.specs.Lookups.{Lookups, found_in}
use Rattle.dap_messages.specs.declared.requests.FunctionBreakpoint.{FunctionBreakpoint}
use Rattle.dap_messages.specs.declared.requests.SourceBreakpoint.{SourceBreakpoint}
use Rattle.dap_messages.specs.declared.told.Outcome.{Outcome as OutcomeTold}
use Rattle.dap_messages.specs.declared.told.Response.{Response}
use Rattle.jdwp_events.specs.declared.kind.Policy.{Policy}
use Rattle.jdwp_values.specs.declared.id.ClassId.{ClassId}
use Rattle.machine_model.specs.Breakpoints.{entry_of, function_listed, functions_from, key_of, numbered_from}
use Rattle.machine_model.specs.Composites.{composite_parts, has_death}
use Rattle.machine_model.specs.Due.{asked_hand}
use Rattle.machine_model.specs.Lookups.{body_of, finished, lookup_responds, plain_outcome, outcome_by, value_outcome}
use Rattle.machine_model.specs.Lookups.{written_parts}
use Rattle.machine_model.specs.Outcomes.{result_of}
use Rattle.machine_model.specs.Plans.{Result, gave, refused}
use Rattle.machine_model.specs.References.{has_room, things_of}
use Rattle.machine_model.specs.Replying.{hand_replied, replied_machine, replied_to}
use Rattle.machine_model.specs.Requests.{Wishes, wishes_after}
use Rattle.machine_model.specs.Rest.{AreAnswered, request_by, request_in, requests_of, response_by, responses_of}
use Rattle.machine_model.specs.Rest.{unanswered_hand, unanswered_item, without_response}
use Rattle.machine_model.specs.Rows.{choice_responds, chosen, end_parts, failure_of, has_response, is_response, leaves}
use Rattle.machine_model.specs.Rows.{news_of, noted, parts_by, parts_of, refused_with, row_of, stepped_by, wanting}
use Rattle.machine_model.specs.Rows.{written_by}
use Rattle.machine_model.specs.Runs.{Message, Run}
use Rattle.machine_model.specs.State.{Hand, Machine, State, is_gone, is_some, knowing, left}
use Rattle.machine_model.specs.Telling.{after_event, numbered_by, outcome_told, response_to}
use Rattle.machine_model.proofs.Bools.{always, first_holds, second_holds}
use Rattle.machine_steps.specs.Names.{Attach, Attached, Choice, Classes, Command, Decides, Effect, Event, Failed}
use Rattle.machine_steps.specs.Names.{Judges, breakpoint_hits}
use Rattle.machine_steps.specs.Names.{Failure, Finding, Functions, Initialize, Item, Leaves, Lines, ListedBreakpoint}
use Rattle.machine_steps.specs.Names.{Lookup, Note, Options, Outcome, Part, Phase, Replied, Request, SetBreakpoints}
use Rattle.machine_steps.specs.Names.{SetExceptionBreakpoints, SetFunctionBreakpoints, Stepped, StopsAt, Success}
use Rattle.machine_steps.specs.Names.{TargetCommand, TellsNews, Want, Written, a_composite, a_question, a_raw}
use Rattle.machine_steps.specs.Names.{a_request}
use Rattle.machine_steps.specs.Names.{a_response, an_effect, breakpoint_list, class_facts, container_children}
use Rattle.machine_steps.specs.Names.{exception_text, expression_value, no_value, target_end, thread_frames}
use Rattle.machine_steps.specs.Names.{variable_write, write_found}
use Rattle.machine_model.specs.declared.parts.Note.TheVariants.{Roots}
use Rattle.machine_laws.specs.Settings.{IsAsSet, Settings, answered_set, function_set, kept_under, line_set}
use Rattle.machine_laws.specs.Settings.{nothing_set, set_by, set_if, settings_of, with_ids}
use Rattle.machine_steps.proofs.RequestSteps.{near_before}
use Rattle.machine_steps.proofs.ServedLaws.{IsLeft, Owes, left_on, one_more, owing, responded_left}
use Rattle.machine_steps.proofs.Stepping.{IsAt, Loses, Moves, Skips, by_runs, with_said}
use Rattle.machine_steps.proofs.Tables.{chosen_is, decided_alike, finished_is, has_joined, once, responds_once, row_is}
use Rattle.machine_steps.proofs.Tables.{told_alike, judged_alike}
use Rattle.machine_steps.proofs.Testing.{IsTest, passed, tested, whole}
use Rattle.stop_refs.specs.Numbers.{InHand}
use Rattle.wish_sets.specs.Wanted.{Wanted, with_class, with_known}
use Rattle.wish_sets.specs.declared.entry.FunctionEntry.{FunctionEntry}
use Rattle.wish_sets.specs.declared.entry.LineEntry.{LineEntry}
use Rattle.dap_messages.specs.Telling.{references_spent}

-- Requests and their responses ----------------------------------------------------------------------------------------

zip_none : {A : Type 0} (B : Type 0) (xs : List A) → zip {X = B} xs [] ≡ []
zip_none B [] = refl
zip_none B (x ∷ xs) = refl

-- those that have no response change nothing
zip_longer : {A B : Type 0} (xs more : List A) (ys : List B) → length xs ≡ length ys → zip (xs ++ more) ys ≡ zip xs ys
zip_longer {A} {B} [] more [] same = zip_none B more
zip_longer [] more (y ∷ ys) same = absurd (omega arith)
zip_longer (x ∷ xs) more [] same = refl
zip_longer {A} {B} (x ∷ xs) more (y ∷ ys) same =
    ap (λ (others : List (A × B)). (x, y) ∷ others) (zip_longer xs more ys (omega arith))

zip_more : {A B : Type 0} (xs : List A) (x : A) (more : List A) (ys : List B) (y : B) → length xs ≡ length ys
    → zip (xs ++ x ∷ more) (ys ++ y ∷ []) ≡ zip xs ys ++ (x, y) ∷ []
zip_more {A} {B} [] x more [] y same = ap (λ (others : List (A × B)). (x, y) ∷ others) (zip_none B more)
zip_more [] x more (other ∷ ys) y same = absurd (omega arith)
zip_more (first ∷ xs) x more [] y same = absurd (omega arith)
zip_more {A} {B} (first ∷ xs) x more (other ∷ ys) y same =
    ap (λ (others : List (A × B)). (first, other) ∷ others) (zip_more xs x more ys y (omega arith))

answered_count : {requests : List Request} {responses : List Response} → AreAnswered requests responses
    → length requests ≡ length responses
answered_count AreAnswered.none = refl
answered_count (AreAnswered.one_more {requests} {responses} {request} {response} answered is) =
    length-append requests (request ∷ []) ∙ ap (λ (n : ℕ). n + 1) (answered_count answered)
    ∙ sym (length-append responses (response ∷ []))

abbrev set_in : List Request → List Response → Settings
set_in requests responses = fold answered_set nothing_set (zip requests responses)

-- only the requests that have a response count
set_so_far : {messages : List Message} {m : Machine} (o : Owes messages m)
    → settings_of messages ≡ set_in o.answered (responses_of messages)
set_so_far {messages} {m} o =
    ap (λ (requests : List Request). set_in requests (responses_of messages)) o.requests
    ∙ ap (λ (pairs : List (Request × Response)). fold answered_set nothing_set pairs)
    (zip_longer o.answered (without_response m) (responses_of messages) (answered_count o.responses))

-- no response is told
abbrev is_other : Option Message → Bool
is_other (Some (Message.tells (a_response response))) = false
is_other _ = true

still_set : {messages : List Message} {m : Machine} {now : List Request} {said : Option Message} → Owes messages m
    → is_other said ≡ true → IsLeft (without_response m) now said
    → settings_of (with_said messages said) ≡ settings_of messages
still_set o other (IsLeft.silent same) = refl
still_set {messages} o other (IsLeft.aside message no_request no_response same) =
    ap₂ (λ (requests : List Request) (responses : List Response). set_in requests responses)
    (one_more request_by messages message
    ∙ ap (λ (more : List Request). requests_of messages ++ more) no_request ∙ append-nil (requests_of messages))
    (one_more response_by messages message
    ∙ ap (λ (more : List Response). responses_of messages ++ more) no_response ∙ append-nil (responses_of messages))
still_set {messages} {m} o other (IsLeft.hears request is) =
    ap₂ (λ (requests : List Request) (responses : List Response). set_in requests responses)
    (one_more request_by messages (Message.hears request)
    ∙ ap (λ (all : List Request). all ++ request ∷ []) o.requests
    ∙ append_assoc o.answered (without_response m) (request ∷ []))
    (one_more response_by messages (Message.hears request) ∙ append-nil (responses_of messages))
    ∙ ap (λ (pairs : List (Request × Response)). fold answered_set nothing_set pairs)
    (zip_longer o.answered (without_response m ++ request ∷ []) (responses_of messages) (answered_count o.responses))
    ∙ sym (set_so_far o)
still_set o other (IsLeft.responds request outcome was) = cc

-- a response counts with its request
responded_set : {messages : List Message} {m : Machine} (request : Request) (outcome : OutcomeTold)
    (others : List Request) → Owes messages m → without_response m ≡ request ∷ others
    → settings_of (messages ++ Message.tells (response_to request outcome) ∷ [])
    ≡ set_if outcome request.command (settings_of messages)
responded_set {messages} {m} request outcome others o was =
    let response : Response = record { request_seq = request.seq; command = request.name; outcome = outcome } in
    ap₂ (λ (requests : List Request) (responses : List Response). set_in requests responses)
    (one_more request_by messages (Message.tells (response_to request outcome)) ∙ append-nil (requests_of messages)
    ∙ o.requests ∙ ap (λ (left : List Request). o.answered ++ left) was)
    (one_more response_by messages (Message.tells (response_to request outcome)))
    ∙ ap (λ (pairs : List (Request × Response)). fold answered_set nothing_set pairs)
    (zip_more o.answered request others (responses_of messages) response (answered_count o.responses))
    ∙ fold-append answered_set nothing_set (zip o.answered (responses_of messages)) ((request, response) ∷ [])
    ∙ ap (λ (s : Settings). set_if outcome request.command s) (sym (set_so_far o))

-- What is known of them -----------------------------------------------------------------------------------------------

abbrev pub seen_of : State → Wanted → Settings
seen_of state wanted = record {
  lines_from_one = state.options.lines_from_one;
  roots = state.roots;
  next_id = state.next_entry;
  paths = state.paths;
  lists = wanted.lists;
  functions = wanted.functions;
  caught = wanted.caught;
  uncaught = wanted.uncaught;
}

-- the settings as the machine knows them
abbrev pub seen : State → Settings
seen state = seen_of state state.wishes.wanted

known_seen : (state : State) (known : Lookups) (classes : List ClassId) (wanted : Wanted)
    → seen_of state (with_known known classes wanted) ≡ seen_of state wanted
known_seen state known [] wanted = refl
known_seen state known (class ∷ classes) wanted = known_seen state known classes (with_class known class wanted)

-- what a note makes of them
abbrev pub note_set : Note → Settings → Settings
note_set (Options options) s = record s { lines_from_one = options.lines_from_one }
note_set (Roots roots) s = record s { roots = roots }
note_set (Lines key path entries) s = record s {
  next_id = s.next_id + length entries;
  paths = kept_under key path s.paths;
  lists = kept_under key entries s.lists;
}
note_set (Functions entries) s = record s { next_id = s.next_id + length entries; functions = entries }
note_set (StopsAt caught uncaught) s = record s { caught = caught; uncaught = uncaught }
note_set _ s = s

noted_seen : (note : Note) (state : State) → seen (noted note state) ≡ note_set note (seen state)
noted_seen (Lines None path entries) state = refl
noted_seen (Lines (Some key) path entries) state = refl
noted_seen (Classes classes) state = known_seen state (found_in state.classes) classes state.wishes.wanted
noted_seen _ state = refl

event_seen : (event : Event) (state : State) → seen (after_event event state) ≡ seen state
event_seen event state = grind arith

numbered_seen : (outcome : Outcome) (state : State) → seen (numbered_by outcome state) ≡ seen state
numbered_seen outcome state = grind arith

replied_wanted : (effect : Effect) (replied : Replied) (w : Wishes)
    → (wishes_after effect replied w).wanted ≡ w.wanted
replied_wanted effect replied w = grind arith

replied_seen : (command : TargetCommand) (replied : Replied) (state : State)
    → seen (replied_to command replied state) ≡ seen state
replied_seen (a_question question) replied state = grind arith
replied_seen (an_effect effect) replied state =
    ap (λ (wanted : Wanted). seen_of state wanted) (replied_wanted effect replied state.wishes)

-- What is left of an item ---------------------------------------------------------------------------------------------

abbrev pub part_set : Part → Settings → Settings
part_set (Part.Notes note) s = note_set note s
part_set _ s = s

-- what the parts that are left write down
abbrev pub notes_set : List Part → Settings → Settings
notes_set [] s = s
notes_set (part ∷ parts) s = notes_set parts (part_set part s)

-- the first response that stands there as it will be told
abbrev pub answer : List Part → Option Outcome
answer [] = None
answer (Part.Responds outcome ∷ parts) = Some outcome
answer (_ ∷ parts) = answer parts

-- what the request sets with it
abbrev pub set_as : Option Outcome → Command → Settings → Settings
set_as (Some (Success body)) command s = set_by command s
set_as _ command s = s

-- the breakpoints that it lists, and whether their source has a key
abbrev pub Listed : Type 0
Listed = Bool × List ListedBreakpoint

abbrev pub listed_in : Option Outcome → Option Listed
listed_in (Some (Success (breakpoint_list rooted listed))) = Some (rooted, listed)
listed_in _ = None

abbrev pub line_listed : ℕ → SourceBreakpoint → ListedBreakpoint
line_listed id one = record { id = id; line = Some one.line; plain = one.plain }

abbrev pub name_listed : ℕ → FunctionBreakpoint → ListedBreakpoint
name_listed id one = record { id = id; line = None; plain = one.plain }

-- those that a request lists
abbrev pub listed_by : Command → Settings → Option Listed
listed_by (SetBreakpoints arguments) s =
    Some (is_some (key_of s.roots arguments.path), with_ids line_listed s.next_id arguments.breakpoints)
listed_by (SetFunctionBreakpoints arguments) s = Some (true, with_ids name_listed s.next_id arguments.breakpoints)
listed_by _ s = None

abbrev pub listed_as : Option Outcome → Command → Settings → Option Listed
listed_as (Some (Success body)) command s = listed_by command s
listed_as _ command s = None

-- the response is brought by a look-up or a choice
abbrev pub is_open : Part → Bool
is_open (Part.Looks lookup) = lookup_responds lookup
is_open (Part.Unfolds choice) = choice_responds choice
is_open _ = false

abbrev pub opens : List Part → Bool
opens [] = false
opens (part ∷ parts) = is_open part || opens parts

-- a request that sets something
abbrev pub sets : Command → Bool
sets (Initialize arguments) = true
sets (Attach arguments) = true
sets (SetBreakpoints arguments) = true
sets (SetFunctionBreakpoints arguments) = true
sets (SetExceptionBreakpoints arguments) = true
sets _ = false

set_same : (command : Command) (s : Settings) → sets command ≡ false → set_by command s ≡ s
set_same command s is = grind (arith, is)

list_same : (command : Command) (s : Settings) → sets command ≡ false → listed_by command s ≡ None
list_same command s is = grind (arith, is)

as_same : (outcome : Option Outcome) (command : Command) (s : Settings) → sets command ≡ false
    → (set_as outcome command s ≡ s) × (listed_as outcome command s ≡ None)
as_same (Some (Success body)) command s is = (set_same command s is, list_same command s is)
as_same _ command s is = (refl, refl)

-- Before its response: what is left of a request writes down what it sets, and its response lists what it lists. Where
-- it sets something its response stands as it will be told.
pub record Follows (command : Command) (set : Settings) (parts : List Part) (now : Settings) : Type 0 where
  pub sets_all : notes_set parts now ≡ set_as (answer parts) command set
  pub lists : listed_in (answer parts) ≡ listed_as (answer parts) command set
  pub direct : cond (sets command) (not (opens parts)) true ≡ true

-- behind it nothing is left to write down; other items have none, and write down nothing
abbrev pub FollowsItem : Item → Settings → List Part → Settings → Type 0
FollowsItem (a_request request) set parts now =
    (has_response parts ≡ true → Follows request.command set parts now)
    × (has_response parts ≡ false → notes_set parts now ≡ set)
FollowsItem _ set parts now = (notes_set parts now ≡ set) × (has_response parts ≡ false)

abbrev pub FollowsHand : Settings → Option Hand → Settings → Type 0
FollowsHand set None now = now ≡ set
FollowsHand set (Some hand) now = FollowsItem hand.item set hand.parts now

-- parts that write down, answer and open what others do
record IsAlike (parts : List Part) (s : Settings) (others : List Part) (was : Settings) : Type 0 where
  responds : has_response parts ≡ has_response others
  writes : notes_set parts s ≡ notes_set others was
  answers : answer parts ≡ answer others
  stays : opens others ≡ false → opens parts ≡ false

direct_still : (set was now : Bool) → cond set (not was) true ≡ true → (was ≡ false → now ≡ false)
    → cond set (not now) true ≡ true
direct_still false was now is stays = refl
direct_still true true now is stays = cc
direct_still true false now is stays = rw (stays refl) refl

alike : (item : Item) (set : Settings) {parts others : List Part} {s was : Settings} → IsAlike parts s others was
    → FollowsItem item set others was → FollowsItem item set parts s
alike (a_request request) set {parts} {others} a h = (
  λ has. let f = h.0 (sym a.responds ∙ has) in record {
    sets_all = a.writes ∙ f.sets_all
        ∙ ap (λ (outcome : Option Outcome). set_as outcome request.command set) (sym a.answers);
    lists = ap listed_in a.answers ∙ f.lists
        ∙ ap (λ (outcome : Option Outcome). listed_as outcome request.command set) (sym a.answers);
    direct = direct_still (sets request.command) (opens others) (opens parts) f.direct a.stays;
  },
  λ none. a.writes ∙ h.1 (sym a.responds ∙ none),
)
alike _ set a h = (a.writes ∙ h.0, a.responds ∙ h.1)

-- a part is done that brings no response
done : (part : Part) (rest : List Part) (s was : Settings) → is_response part ≡ false → s ≡ part_set part was
    → IsAlike rest s (part ∷ rest) was
done part rest s was silent same = record {
  responds = rw silent refl;
  writes = ap (λ (s : Settings). notes_set rest s) same;
  answers = behind part silent;
  stays = λ is. or_false (is_open part) (opens rest) is;
}
  where
    behind : (part : Part) → is_response part ≡ false → answer rest ≡ answer (part ∷ rest)
    behind (Part.Responds outcome) silent = cc
    behind _ silent = refl

    or_false : (first others : Bool) → (first || others) ≡ false → others ≡ false
    or_false first others is = grind (arith, is)

-- a part becomes these, which bring the response: the request is one that sets nothing
opened : (item : Item) (set : Settings) (part : Part) (parts rest : List Part) (s : Settings) → is_open part ≡ true
    → is_response part ≡ true → part_set part s ≡ s → answer (part ∷ rest) ≡ answer rest → has_response parts ≡ true
    → notes_set (parts ++ rest) s ≡ notes_set rest s
    → (listed_in (answer rest) ≡ None → listed_in (answer (parts ++ rest)) ≡ None)
    → FollowsItem item set (part ∷ rest) s → FollowsItem item set (parts ++ rest) s
opened (a_request request) set part parts rest s is brings same behind responds writes lists h =
    let f = h.0 (rw brings refl) in
    let plain : sets request.command ≡ false = unset (sets request.command) (is_open part) (opens rest) is f.direct in
    let was = as_same (answer (part ∷ rest)) request.command set plain in
    let now = as_same (answer (parts ++ rest)) request.command set plain in (
      λ has. record {
        sets_all = writes ∙ sym (ap (λ (s : Settings). notes_set rest s) same) ∙ f.sets_all ∙ was.0 ∙ sym now.0;
        lists = lists (sym (ap listed_in behind) ∙ f.lists ∙ was.1) ∙ sym now.1;
        direct = rw plain refl;
      },
      λ none. let here : (has_response parts || has_response rest) ≡ true = rw responds refl in
          let no : true ≡ false = sym here ∙ sym (has_joined parts rest) ∙ none in cc,
    )
  where
    unset : (set first others : Bool) → first ≡ true → cond set (not (first || others)) true ≡ true → set ≡ false
    unset set first others is h = grind (arith, is, h)
opened _ set part parts rest s is brings same behind responds writes lists h =
    let here : (is_response part || has_response rest) ≡ true = rw brings refl in
    let no : true ≡ false = sym here ∙ h.1 in cc

-- The tables ----------------------------------------------------------------------------------------------------------

lines_set : (from_one : Bool) (next : ℕ) (those : List SourceBreakpoint)
    → map (entry_of from_one) (numbered_from next those) ≡ with_ids (line_set from_one) next those
lines_set from_one next [] = refl
lines_set true next (one ∷ those) =
    ap (λ (others : List LineEntry). line_set true next one ∷ others) (lines_set true (next + 1) those)
lines_set false next (one ∷ those) =
    ap (λ (others : List LineEntry). line_set false next one ∷ others) (lines_set false (next + 1) those)

lines_listed : (next : ℕ) (those : List SourceBreakpoint)
    → numbered_from next those ≡ with_ids line_listed next those
lines_listed next [] = refl
lines_listed next (one ∷ those) =
    ap (λ (others : List ListedBreakpoint). line_listed next one ∷ others) (lines_listed (next + 1) those)

functions_set : (next : ℕ) (those : List FunctionBreakpoint)
    → functions_from next those ≡ with_ids function_set next those
functions_set next [] = refl
functions_set next (one ∷ those) =
    ap (λ (others : List FunctionEntry). function_set next one ∷ others) (functions_set (next + 1) those)

names_listed : (next : ℕ) (those : List FunctionBreakpoint)
    → map function_listed (functions_from next those) ≡ with_ids name_listed next those
names_listed next [] = refl
names_listed next (one ∷ those) =
    ap (λ (others : List ListedBreakpoint). name_listed next one ∷ others) (names_listed (next + 1) those)

ids_count : {A B : Type 0} (make : ℕ → A → B) (next : ℕ) (those : List A)
    → length (with_ids make next those) ≡ length those
ids_count make next [] = refl
ids_count make next (one ∷ those) = ap (λ (n : ℕ). suc n) (ids_count make (next + 1) those)

row_follows : (failure : Option Failure) (command : Command) (state : State)
    → Follows command (seen state) (parts_by failure (row_of command state)) (seen state)
row_follows (Some failure) command state =
    record { sets_all = refl; lists = refl; direct = always (sets command) }
row_follows None (SetBreakpoints arguments) state =
    let next = state.next_entry in
    let from_one = state.options.lines_from_one in
    let those = arguments.breakpoints in record {
      sets_all = ap (λ (entries : List LineEntry). note_set (Lines (key_of state.roots arguments.path)
          arguments.path entries) (seen state)) (lines_set from_one next those)
          ∙ ap (λ (count : ℕ). record (set_by (SetBreakpoints arguments) (seen state)) { next_id = next + count })
          (ids_count (line_set from_one) next those);
      lists = ap (λ (listed : List ListedBreakpoint). Some (is_some (key_of state.roots arguments.path), listed))
          (lines_listed next those);
      direct = refl;
    }
row_follows None (SetFunctionBreakpoints arguments) state =
    let next = state.next_entry in
    let those = arguments.breakpoints in record {
      sets_all = ap (λ (entries : List FunctionEntry). note_set (Functions entries) (seen state))
          (functions_set next those)
          ∙ ap (λ (count : ℕ). record (set_by (SetFunctionBreakpoints arguments) (seen state)) {
            next_id = next + count;
          }) (ids_count function_set next those);
      lists = ap (λ (listed : List ListedBreakpoint). Some (true, listed)) (names_listed next those);
      direct = refl;
    }
row_follows None command state = record { sets_all = grind arith; lists = grind arith; direct = grind arith }

begun_follows : (state : State) (item : Item) → FollowsItem item (seen state) (parts_of state item) (seen state)
begun_follows state (a_request request) =
    let failure = failure_of (wanting request.command) state in (
      λ has. row_follows failure request.command state,
      λ none. let no : true ≡ false = sym (row_is failure request.command state).responds ∙ none in cc,
    )
begun_follows state (a_composite at composite) =
    by_phase state.phase (has_death composite.events) composite.policy
  where
    by_phase : (phase : Phase) (dies : Bool) (policy : Policy)
        → (notes_set (composite_parts phase dies policy at state.next_entry) (seen state) ≡ seen state)
        × (has_response (composite_parts phase dies policy at state.next_entry) ≡ false)
    by_phase phase dies policy = (grind arith, grind arith)
begun_follows state (a_raw at body) = (refl, refl)
begun_follows state target_end = by_told state.terminated
  where
    by_told : (told : Bool)
        → (notes_set (end_parts told) (seen state) ≡ seen state) × (has_response (end_parts told) ≡ false)
    by_told told = (grind arith, grind arith)

-- a choice that brings no response becomes what writes down, answers and opens nothing
chosen_alike : (choice : Choice) (state : State) (hand : Hand) (rest : List Part) (s : Settings)
    → choice_responds choice ≡ false → IsAlike (chosen choice state hand ++ rest) s rest s
chosen_alike (TellsNews below) state hand rest s silent =
    let news = news_of below state hand.item in record {
      responds = told_alike has_response (λ one parts. refl) state.phase news rest;
      writes = told_alike (λ (parts : List Part). notes_set parts s) (λ one parts. refl) state.phase news rest;
      answers = told_alike answer (λ one parts. refl) state.phase news rest;
      stays = λ is. told_alike opens (λ one parts. refl) state.phase news rest ∙ is;
    }
chosen_alike Judges state hand rest s silent = record {
  responds = judged_alike has_response (λ strikes parts. refl) state hand.item rest;
  writes = judged_alike (λ (parts : List Part). notes_set parts s) (λ strikes parts. refl) state hand.item rest;
  answers = judged_alike answer (λ strikes parts. refl) state hand.item rest;
  stays = λ is. judged_alike opens (λ strikes parts. refl) state hand.item rest ∙ is;
}
chosen_alike (Decides logged stops) state hand rest s silent = record {
  responds = decided_alike has_response (λ thrown parts. refl) (λ stopping parts. refl) (λ thread object parts. refl)
      (λ parts. refl) (λ parts. refl) (λ text texts strikes parts. refl) state logged stops hand.item rest;
  writes = decided_alike (λ (parts : List Part). notes_set parts s) (λ thrown parts. refl) (λ stopping parts. refl)
      (λ thread object parts. refl) (λ parts. refl) (λ parts. refl) (λ text texts strikes parts. refl) state logged stops
      hand.item rest;
  answers = decided_alike answer (λ thrown parts. refl) (λ stopping parts. refl) (λ thread object parts. refl)
      (λ parts. refl) (λ parts. refl) (λ text texts strikes parts. refl) state logged stops hand.item rest;
  stays = λ is. decided_alike opens (λ thrown parts. refl) (λ stopping parts. refl) (λ thread object parts. refl)
      (λ parts. refl) (λ parts. refl) (λ text texts strikes parts. refl) state logged stops hand.item rest ∙ is;
}
chosen_alike (Leaves exits) state hand rest s silent = by_phase state.phase
  where
    by_phase : (phase : Phase) → IsAlike (leaves phase exits ++ rest) s rest s
    by_phase Attached = record { responds = refl; writes = refl; answers = refl; stays = λ is. is }
    by_phase _ = record { responds = refl; writes = refl; answers = refl; stays = λ is. is }
chosen_alike _ state hand rest s silent = cc

found_alike : (lookup : Lookup) (result : Result Finding) (state : State) (rest : List Part) (s : Settings)
    → lookup_responds lookup ≡ false → IsAlike (finished lookup result state ++ rest) s rest s
found_alike (exception_text thread object) result state rest s silent =
    record { responds = refl; writes = refl; answers = refl; stays = λ is. is }
found_alike (breakpoint_hits strikes) result state rest s silent =
    record { responds = refl; writes = refl; answers = refl; stays = λ is. is }
found_alike class_facts result state rest s silent =
    record { responds = refl; writes = refl; answers = refl; stays = λ is. is }
found_alike _ result state rest s silent = cc

-- one that brings the response sets nothing, and lists no breakpoints
chosen_set : (choice : Choice) (state : State) (hand : Hand) (rest : List Part) (s : Settings)
    → choice_responds choice ≡ true → notes_set (chosen choice state hand ++ rest) s ≡ notes_set rest s
chosen_set Stepped state hand rest s is = by_code (refused_with hand.effect)
  where
    by_code : (code : Option ℕ) → notes_set (stepped_by code ++ rest) s ≡ notes_set rest s
    by_code None = refl
    by_code (Some code) = refl
chosen_set (Written written) state hand rest s is = by_code (refused_with hand.effect)
  where
    by_code : (code : Option ℕ) → notes_set (written_by written code ++ rest) s ≡ notes_set rest s
    by_code None = refl
    by_code (Some code) = refl
chosen_set _ state hand rest s is = cc

chosen_lists : (choice : Choice) (state : State) (hand : Hand) (rest : List Part) → choice_responds choice ≡ true
    → listed_in (answer (chosen choice state hand ++ rest)) ≡ None
chosen_lists Stepped state hand rest is = by_code (refused_with hand.effect)
  where
    by_code : (code : Option ℕ) → listed_in (answer (stepped_by code ++ rest)) ≡ None
    by_code None = refl
    by_code (Some code) = refl
chosen_lists (Written written) state hand rest is = by_code (refused_with hand.effect)
  where
    by_code : (code : Option ℕ) → listed_in (answer (written_by written code ++ rest)) ≡ None
    by_code None = refl
    by_code (Some code) = refl
chosen_lists _ state hand rest is = cc

found_set : (lookup : Lookup) (result : Result Finding) (state : State) (rest : List Part) (s : Settings)
    → lookup_responds lookup ≡ true → notes_set (finished lookup result state ++ rest) s ≡ notes_set rest s
found_set (variable_write thing name text) result state rest s is = by_result result
  where
    by_result : (result : Result Finding) → notes_set (written_parts result ++ rest) s ≡ notes_set rest s
    by_result result = grind arith
found_set lookup result state rest s is = grind (arith, is)

plain_lists : (result : Result Finding) → listed_in (Some (plain_outcome result)) ≡ None
plain_lists result = grind arith

shown_lists : (numbers : InHand) (result : Result Finding) → listed_in (Some (outcome_by numbers result)) ≡ None
shown_lists numbers (refused code) = refl
shown_lists numbers (gave finding) = by_room (has_room (things_of (body_of finding)) numbers) finding
  where
    by_room : (room : Bool) (finding : Finding)
        → listed_in (Some (cond room (Success (body_of finding)) (Failed references_spent))) ≡ None
    by_room room finding = grind arith

value_lists : (numbers : InHand) (result : Result Finding) → listed_in (Some (value_outcome numbers result)) ≡ None
value_lists numbers (refused code) = refl
value_lists numbers (gave (no_value failure)) = refl
value_lists numbers result = shown_lists numbers result

found_lists : (lookup : Lookup) (result : Result Finding) (state : State) (rest : List Part)
    → lookup_responds lookup ≡ true → listed_in (answer rest) ≡ None
    → listed_in (answer (finished lookup result state ++ rest)) ≡ None
found_lists (thread_frames thread start levels) result state rest is none = shown_lists state.numbers result
found_lists (container_children thing filter start count) result state rest is none = shown_lists state.numbers result
found_lists (expression_value frame expression) result state rest is none = value_lists state.numbers result
found_lists (variable_write thing name text) result state rest is none = by_result result
  where
    by_result : (result : Result Finding) → listed_in (answer (written_parts result ++ rest)) ≡ None
    by_result (refused code) = refl
    by_result (gave (write_found write written)) = none
    by_result (gave (no_value failure)) = refl
    by_result (gave _) = refl
found_lists (exception_text thread object) result state rest is none = cc
found_lists (breakpoint_hits strikes) result state rest is none = cc
found_lists class_facts result state rest is none = cc
found_lists lookup result state rest is none = plain_lists result

chosen_follows : (item : Item) (set : Settings) (choice : Choice) (state : State) (hand : Hand) (rest : List Part)
    (s : Settings) (responds : Bool) → choice_responds choice ≡ responds
    → FollowsItem item set (Part.Unfolds choice ∷ rest) s → FollowsItem item set (chosen choice state hand ++ rest) s
chosen_follows item set choice state hand rest s true is h =
    opened item set (Part.Unfolds choice) (chosen choice state hand) rest s is is refl refl
    ((chosen_is choice state hand).is ∙ is) (chosen_set choice state hand rest s is)
    (λ none. chosen_lists choice state hand rest is) h
chosen_follows item set choice state hand rest s false is h =
    alike item set (chosen_alike choice state hand rest s is)
    (alike item set (done (Part.Unfolds choice) rest s s is refl) h)

found_follows : (item : Item) (set : Settings) (lookup : Lookup) (result : Result Finding) (state : State)
    (rest : List Part) (s : Settings) (responds : Bool) → lookup_responds lookup ≡ responds
    → FollowsItem item set (Part.Looks lookup ∷ rest) s → FollowsItem item set (finished lookup result state ++ rest) s
found_follows item set lookup result state rest s true is h =
    opened item set (Part.Looks lookup) (finished lookup result state) rest s is is refl refl
    ((finished_is lookup result state).is ∙ is) (found_set lookup result state rest s is)
    (λ none. found_lists lookup result state rest is none) h
found_follows item set lookup result state rest s false is h =
    alike item set (found_alike lookup result state rest s is)
    (alike item set (done (Part.Looks lookup) rest s s is refl) h)

-- The walk ------------------------------------------------------------------------------------------------------------

pub follows_at : {m : Machine} {hand : Hand} {part : Part} {rest : List Part} (set : Settings) → IsAt m hand part rest
    → FollowsHand set m.hand (seen m.state) → FollowsItem hand.item set (part ∷ rest) (seen m.state)
follows_at {m} {hand} set at h =
    subst (λ (parts : List Part). FollowsItem hand.item set parts (seen m.state)) at.parts
    (subst (λ (held : Option Hand). FollowsHand set held (seen m.state)) at.in_hand h)

none_left : (item : Item) (set now : Settings) → FollowsItem item set [] now → now ≡ set
none_left (a_request request) set now h = h.1 refl
none_left _ set now h = h.0

passed_item : (item : Item) (set : Settings) (outcome : Outcome) (rest : List Part) (now : Settings)
    → request_in item ≡ [] → FollowsItem item set (Part.Responds outcome ∷ rest) now → FollowsItem item set rest now
passed_item (a_request request) set outcome rest now none h = cc
passed_item _ set outcome rest now none h = let no : true ≡ false = h.1 in cc

asked_follows : (set : Settings) (want : Want) (hand : Option Hand) (now : Settings) → FollowsHand set hand now
    → FollowsHand set (option_map (asked_hand want) hand) now
asked_follows set want None now h = h
asked_follows set want (Some hand) now h = h

replied_follows : (set : Settings) (command : TargetCommand) (replied : Replied) (hand : Option Hand) (now : Settings)
    → FollowsHand set hand now → FollowsHand set (option_map (hand_replied command replied) hand) now
replied_follows set command replied None now h = h
replied_follows set (a_question question) replied (Some hand) now h = h
replied_follows set (an_effect effect) replied (Some hand) now h = h

reply_follows : (set : Settings) (m : Machine) (command : TargetCommand) (replied : Replied)
    → FollowsHand set m.hand (seen m.state)
    → FollowsHand set (replied_machine m command replied).hand (seen (replied_machine m command replied).state)
reply_follows set m command replied h =
    subst (λ (now : Settings). FollowsHand set (option_map (hand_replied command replied) m.hand) now)
    (sym (replied_seen command replied m.state)) (replied_follows set command replied m.hand (seen m.state) h)

skipped_follows : (set : Settings) {m : Machine} {hand : Hand} {part : Part} (rest : List Part) → Skips m hand part
    → FollowsItem hand.item set (part ∷ rest) (seen m.state) → FollowsItem hand.item set rest (seen m.state)
skipped_follows set {m} {hand} rest (Skips.by_guard {guard} is) h =
    alike hand.item set (done (Part.Awaits guard) rest (seen m.state) (seen m.state) refl refl) h
skipped_follows set {m} {hand} rest (Skips.by_wishes is) h =
    alike hand.item set (done Part.Updates rest (seen m.state) (seen m.state) refl refl) h
skipped_follows set {m} {hand} rest (Skips.no_request {outcome} is) h =
    passed_item hand.item set outcome rest (seen m.state) is h

-- a move that tells no response
on_move : (set : Settings) (m next : Machine) (said : Option Message) → is_gone next.state.phase ≡ false
    → is_other said ≡ true → Moves m said next → FollowsHand set m.hand (seen m.state)
    → FollowsHand set next.hand (seen next.state)
on_move set m next said near other (Moves.begins picked free none is) h =
    let now : seen m.state ≡ set = subst (λ (held : Option Hand). FollowsHand set held (seen m.state)) none h in
    subst (λ (set : Settings). FollowsItem picked.item set (parts_of m.state picked.item) (seen m.state)) now
    (begun_follows m.state picked.item)
on_move set m next said near other (Moves.drops {hand} free is are) h =
    none_left hand.item set (seen m.state)
    (subst (λ (parts : List Part). FollowsItem hand.item set parts (seen m.state)) are
    (subst (λ (held : Option Hand). FollowsHand set held (seen m.state)) is h))
on_move set m next said near other (Moves.responds free at is) h = cc
on_move set m next said near other (Moves.finds {hand} {rest} {lookup} found free at needs ready) h =
    found_follows hand.item set lookup (result_of found) m.state rest (seen m.state) (lookup_responds lookup) refl
    (follows_at set at h)
on_move set m next said near other (Moves.passes_over {rest = rest} free at why) h =
    skipped_follows set rest why (follows_at set at h)
on_move set m next said near other (Moves.tells {hand} {rest} {event} free at) h =
    alike hand.item set (done (Part.Tells event) rest (seen (after_event event m.state)) (seen m.state) refl
    (event_seen event m.state)) (follows_at set at h)
on_move set m next said near other (Moves.sends {hand} {rest} {deed} free at close) h =
    alike hand.item set (done (Part.Sends deed) rest (seen m.state) (seen m.state) refl refl) (follows_at set at h)
on_move set m next said near other (Moves.updates free at is close) h = follows_at set at h
on_move set m next said near other (Moves.notes {hand} {note} {rest} free at) h =
    alike hand.item set (done (Part.Notes note) rest (seen (noted note m.state)) (seen m.state) refl
    (noted_seen note m.state)) (follows_at set at h)
on_move set m next said near other (Moves.unfolds {hand} {choice} {rest} free at) h =
    chosen_follows hand.item set choice m.state hand rest (seen m.state) (choice_responds choice) refl
    (follows_at set at h)
on_move set m next said near other (Moves.queues {hand} free is) h =
    subst (λ (held : Option Hand). FollowsHand set held (seen m.state)) is h
on_move set m next said near other (Moves.asks {want = want} free room is are) h =
    asked_follows set want m.hand (seen m.state) h
on_move set m next said near other (Moves.answers {question} {replied} is waits reply stays) h =
    reply_follows set m (a_question question) replied h
on_move set m next said near other (Moves.replies {effect} {replied} is flies reply stays) h =
    reply_follows set m (an_effect effect) replied h
on_move set m next said near other (Moves.loses late close why) h = cc
on_move set m next said near other _ h = h

-- the response of the request in hand
told_set : (outcome : Outcome) (command : Command) (state : State) (set : Settings)
    → set_if (outcome_told outcome state) command set ≡ set_as (Some outcome) command set
told_set (Success body) command state set = refl
told_set (Failed failure) command state set = refl

on_response : {messages : List Message} {m : Machine} {hand : Hand} {rest : List Part} {request : Request}
    {outcome : Outcome} → Run messages m → IsAt m hand (Part.Responds outcome) rest → hand.item ≡ a_request request
    → FollowsHand (settings_of messages) m.hand (seen m.state)
    → FollowsItem hand.item
    (settings_of (messages ++ Message.tells (response_to request (outcome_told outcome m.state)) ∷ [])) rest
    (seen (numbered_by outcome m.state))
on_response {messages} {m} {hand} {rest} {request} {outcome} r at is h =
    let none : has_response rest ≡ false = not-true (has_response rest) (whole responds_once (tested once r) at) in
    let f = subst (λ (item : Item). FollowsItem item (settings_of messages) (Part.Responds outcome ∷ rest)
    (seen m.state)) is (follows_at (settings_of messages) at h) in
    subst (λ (item : Item). FollowsItem item
    (settings_of (messages ++ Message.tells (response_to request (outcome_told outcome m.state)) ∷ [])) rest
    (seen (numbered_by outcome m.state))) (sym is) (
      λ has. let no : true ≡ false = sym has ∙ none in cc,
      λ silent. ap (λ (s : Settings). notes_set rest s) (numbered_seen outcome m.state) ∙ (f.0 refl).sets_all
          ∙ sym (told_set outcome request.command m.state (settings_of messages))
          ∙ sym (responded_set request (outcome_told outcome m.state)
          (without_response (left (knowing m (numbered_by outcome m.state)) hand rest)) (owing r)
          (responded_left at is none)),
    )

abbrev pub IsFollowed : List Message → Machine → Type 0
IsFollowed messages m = is_gone m.state.phase ≡ false → FollowsHand (settings_of messages) m.hand (seen m.state)

lost_other : {m : Machine} {message : Message} {late : List TargetCommand} → Loses m message late
    → is_other (Some message) ≡ true
lost_other why = grind (arith, why)

followed_on : (messages : List Message) (m next : Machine) (said : Option Message) → Run messages m
    → IsFollowed messages m → Moves m said next → IsFollowed (with_said messages said) next
followed_on messages m next said r f moved near = by_said others moved
  where
    was : FollowsHand (settings_of messages) m.hand (seen m.state)
    was = f (near_before m next said moved near)

    others : is_other said ≡ true → FollowsHand (settings_of (with_said messages said)) next.hand (seen next.state)
    others other =
        subst (λ (set : Settings). FollowsHand set next.hand (seen next.state))
        (sym (still_set (owing r) other (left_on m next said (tested once r) moved)))
        (on_move (settings_of messages) m next said near other moved was)

    by_said : {next : Machine} {said : Option Message}
        → (is_other said ≡ true → FollowsHand (settings_of (with_said messages said)) next.hand (seen next.state))
        → Moves m said next → FollowsHand (settings_of (with_said messages said)) next.hand (seen next.state)
    by_said others (Moves.responds free at is) = on_response r at is was
    by_said others (Moves.loses late close why) = others (lost_other why)
    by_said others _ = others refl

pub followed : {messages : List Message} {m : Machine} → Run messages m → IsFollowed messages m
followed r = by_runs {Holds = IsFollowed} (record {
  starts = λ near. refl;
  moves = λ messages m next said before f moved after. followed_on messages m next said before f moved;
  queues = λ messages m hand queue before may f. f;
}) r

-- The law -------------------------------------------------------------------------------------------------------------

none_written : (item : Item) (set : Settings) (parts : List Part) (now : Settings)
    → unanswered_item (has_response parts) item ≡ [] → FollowsItem item set parts now
    → (notes_set parts now ≡ set) × (has_response parts ≡ false)
none_written (a_request request) set parts now none h =
    let silent = unsaid (has_response parts) none in (h.1 silent, silent)
  where
    unsaid : (has : Bool) → unanswered_item has (a_request request) ≡ [] → has ≡ false
    unsaid true none = cc
    unsaid false none = refl
none_written _ set parts now none h = h

-- what is left behind a response is at most how lines are counted
abbrev pub is_list : Part → Bool
is_list (Part.Notes (Roots roots)) = true
is_list (Part.Notes (Lines key path entries)) = true
is_list (Part.Notes (Functions entries)) = true
is_list (Part.Notes (StopsAt caught uncaught)) = true
is_list _ = false

abbrev pub lists_first : List Part → Bool
lists_first [] = true
lists_first (part ∷ parts) = cond (cond (is_list part) (has_response parts) true) (lists_first parts) false

abbrev pub lists_before : Bool → List Part → Bool
lists_before gone parts = lists_first parts

row_first : (failure : Option Failure) (command : Command) (state : State)
    → lists_first (parts_by failure (row_of command state)) ≡ true
row_first failure command state = grind arith

begun_first : (state : State) (item : Item) → lists_first (parts_of state item) ≡ true
begun_first state (a_request request) = row_first (failure_of (wanting request.command) state) request.command state
begun_first state (a_raw at body) = refl
begun_first state _ = grind arith

chosen_first : (choice : Choice) (state : State) (hand : Hand) (rest : List Part) → lists_first rest ≡ true
    → lists_first (chosen choice state hand ++ rest) ≡ true
chosen_first (TellsNews below) state hand rest is =
    told_alike lists_first (λ one parts. refl) state.phase (news_of below state hand.item) rest ∙ is
chosen_first Judges state hand rest is =
    judged_alike lists_first (λ strikes parts. refl) state hand.item rest ∙ is
chosen_first (Decides logged stops) state hand rest is =
    decided_alike lists_first (λ thrown parts. refl) (λ stopping parts. refl) (λ thread object parts. refl)
    (λ parts. refl) (λ parts. refl) (λ text texts strikes parts. refl) state logged stops hand.item rest ∙ is
chosen_first _ state hand rest is = grind (arith, is)

pub first_test : IsTest lists_before
first_test = record {
  none = λ gone. refl;
  tail = λ gone part rest is. second_holds (cond (is_list part) (has_response rest) true) (lists_first rest) is;
  begins = begun_first;
  unfolds = λ choice state hand rest is. chosen_first choice state hand rest is;
  finds = λ lookup result state rest is. grind (arith, is);
  gives_up = λ responds item. grind arith;
}

abbrev pub no_lists : List Part → Bool
no_lists [] = true
no_lists (part ∷ parts) = cond (is_list part) false (no_lists parts)

pub none_listed : (parts : List Part) → lists_first parts ≡ true → has_response parts ≡ false → no_lists parts ≡ true
none_listed [] first silent = refl
none_listed (part ∷ parts) first silent =
    by_bools (is_list part) (is_response part) (has_response parts) (lists_first parts) first silent
    (none_listed parts)
  where
    by_bools : (lists here there first : Bool) → cond (cond lists there true) first false ≡ true
        → (here || there) ≡ false → (first ≡ true → there ≡ false → no_lists parts ≡ true)
        → cond lists false (no_lists parts) ≡ true
    by_bools true here true first is silent again = let no : true ≡ false = or_last here silent in cc
      where
        or_last : (here : Bool) → (here || true) ≡ false → true ≡ false
        or_last here is = grind (arith, is)
    by_bools true here false first is silent again = cc
    by_bools false true there first is silent again = cc
    by_bools false false there first is silent again = again is silent

-- whatever of them isn't how lines are counted stays
others_same : {A : Type 0} (f : Settings → A)
    → ((s : Settings) (from_one : Bool) → f (record s { lines_from_one = from_one }) ≡ f s) → (parts : List Part)
    (s : Settings) → no_lists parts ≡ true → f (notes_set parts s) ≡ f s
others_same f still [] s none = refl
others_same f still (part ∷ parts) s none =
    others_same f still parts (part_set part s)
    (second_holds (not (is_list part)) (no_lists parts) (turned (is_list part) none))
    ∙ by_part part (first_holds (not (is_list part)) (no_lists parts) (turned (is_list part) none))
  where
    turned : (here : Bool) → cond here false (no_lists parts) ≡ true → cond (not here) (no_lists parts) false ≡ true
    turned here is = grind (arith, is)

    by_part : (part : Part) → not (is_list part) ≡ true → f (part_set part s) ≡ f s
    by_part (Part.Notes (Options options)) plain = still s options.lines_from_one
    by_part (Part.Notes (Roots roots)) plain = cc
    by_part (Part.Notes (Lines key path entries)) plain = cc
    by_part (Part.Notes (Functions entries)) plain = cc
    by_part (Part.Notes (StopsAt caught uncaught)) plain = cc
    by_part _ plain = refl

pub as_set : (set : Settings) (state : State) (parts : List Part) → notes_set parts (seen state) ≡ set
    → no_lists parts ≡ true → IsAsSet set state
as_set set state parts is none = record {
  roots = same (λ (s : Settings). s.roots) (λ s from_one. refl);
  next_id = same (λ (s : Settings). s.next_id) (λ s from_one. refl);
  paths = same (λ (s : Settings). s.paths) (λ s from_one. refl);
  lists = same (λ (s : Settings). s.lists) (λ s from_one. refl);
  functions = same (λ (s : Settings). s.functions) (λ s from_one. refl);
  caught = same (λ (s : Settings). s.caught) (λ s from_one. refl);
  uncaught = same (λ (s : Settings). s.uncaught) (λ s from_one. refl);
}
  where
    same : {A : Type 0} (f : Settings → A)
        → ((s : Settings) (from_one : Bool) → f (record s { lines_from_one = from_one }) ≡ f s)
        → f (seen state) ≡ f set
    same f still = sym (others_same f still parts (seen state) none) ∙ ap f is

as_set_in : (set : Settings) (state : State) (gone : Bool) (hand : Option Hand) → unanswered_hand hand ≡ []
    → passed lists_before gone hand ≡ true → FollowsHand set hand (seen state) → IsAsSet set state
as_set_in set state gone None none first h = as_set set state [] h refl
as_set_in set state gone (Some hand) none first h =
    let left = none_written hand.item set hand.parts (seen state) none h in
    as_set set state hand.parts left.0 (none_listed hand.parts first left.1)

pub are_set : (messages : List Message) (m : Machine) → Run messages m → is_gone m.state.phase ≡ false
    → unanswered_hand m.hand ≡ [] → IsAsSet (settings_of messages) m.state
are_set messages m r near none =
    as_set_in (settings_of messages) m.state (is_gone m.state.phase) m.hand none (tested first_test r)
    (followed r near)
