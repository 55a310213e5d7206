-- A response lists the breakpoints that its request asks for, each as it stands.
use Rattle.std.proofs.Common.{◌≡◌, ℕ, Bool, true, false, cond, ◌||◌, ◌==◌, ◌+◌, List, [], ◌∷◌, ◌++◌, Option, Some, None}
use Rattle.std.proofs.Common.{refl, sym, ap, ap₂, subst, ◌∙◌, arith, map, length, suc, nat_lt, option_map}
use Rattle.std.proofs.lemmas.Bool.{not-true}
use Rattle.std.specs.Prelude.{IfSome, if◌then◌else◌, nat_le}
use Rattle.std.specs.List.{AllByRecursion as All, flat_map, fold, list_any, zip}
use Rattle.dap_messages.specs.declared.requests.FunctionBreakpoint.{FunctionBreakpoint}
use Rattle.dap_messages.specs.declared.requests.SourceBreakpoint.{SourceBreakpoint}
use Rattle.dap_messages.specs.declared.told.Outcome.{Outcome as OutcomeTold}
use Rattle.dap_messages.specs.declared.told.Outcome.TheVariants as outcomes
use Rattle.dap_messages.specs.declared.told.Response.{Response}
use Rattle.dap_messages.specs.declared.told.Shape.{Shape}
use Rattle.machine_model.specs.Breakpoints.{breakpoint_told, is_verified as is_told_verified, key_of, status_of}
use Rattle.machine_model.specs.Due.{due}
use Rattle.machine_model.specs.Rest.{requests_of, responses_of}
use Rattle.machine_model.specs.Requests.{Wishes}
use Rattle.machine_model.specs.Rows.{has_response}
use Rattle.machine_model.specs.Runs.{Allows, Message, Run, said}
use Rattle.machine_model.specs.State.{Hand, Machine, State, is_gone, is_some}
use Rattle.machine_model.specs.Telling.{body_told, numbered, outcome_told}
use Rattle.machine_laws.specs.BreakpointLists.{IsRight, ListsAsked, breakpoints_in, function_asked, line_asked}
use Rattle.machine_laws.specs.BreakpointLists.{spot_told, spots_asked}
use Rattle.machine_steps.specs.Names.{Act, Body, Command, Failed, Item, ListedBreakpoint, Outcome, Part, Request}
use Rattle.machine_steps.specs.Names.{SetBreakpoints, SetFunctionBreakpoints, Success, TargetCommand, a_request}
use Rattle.machine_steps.specs.Names.{a_response, breakpoint_list}
use Rattle.machine_laws.specs.Settings.{Settings, answered_set, function_set, kept_under, line_set, nothing_set, set_by}
use Rattle.machine_laws.specs.Settings.{set_if, settings_of, with_ids}
use Rattle.machine_laws.proofs.GoneLists.{FarItem, IsFar, far, far_at}
use Rattle.machine_laws.proofs.LeavingLaws.{first_in}
use Rattle.machine_laws.proofs.SettingLaws.{Follows, FollowsItem, Listed, as_set, first_test, followed, follows_at}
use Rattle.machine_laws.proofs.SettingLaws.{line_listed, listed_by, listed_in, lists_before, name_listed, none_listed}
use Rattle.machine_laws.proofs.SettingLaws.{seen}
use Rattle.machine_steps.proofs.Stepping.{IsAt, Loses, Moves, moved}
use Rattle.machine_steps.proofs.Tables.{once, responds_once}
use Rattle.machine_steps.proofs.Testing.{tested, whole}
use Rattle.machine_laws.proofs.ToldParts.{functions_put, put_listed}
use Rattle.machine_laws.proofs.VerifiedLaws.{function_mark, is_it, is_listed, is_placed, line_mark, line_marks, marks}
use Rattle.machine_laws.proofs.VerifiedLaws.{placed_listed, stands_verified}
use Rattle.wish_sets.specs.Entries.{state_of}
use Rattle.wish_sets.specs.Wanted.{Wanted, nothing_wanted}
use Rattle.wish_sets.specs.Wishes.{is_installed}
use Rattle.wish_sets.specs.declared.entry.EntryState.{EntryState}
use Rattle.wish_sets.specs.declared.entry.EntryState.TheVariants.{Verified, Refused, Waiting}
use Rattle.wish_sets.specs.declared.entry.FunctionEntry.{FunctionEntry}
use Rattle.wish_sets.specs.declared.entry.LineEntry.{LineEntry}

-- Ids that are given in turn ------------------------------------------------------------------------------------------

-- each by its id and whether it is plain
abbrev marks_from : {A : Type 0} → (A → Bool) → ℕ → List A → List (ℕ × Bool)
marks_from plain next those = with_ids (λ id one. (id, plain one)) next those

below_end : {A : Type 0} (plain : A → Bool) (id next : ℕ) (those : List A)
    → list_any (is_it id) (marks_from plain next those) ≡ true → nat_lt id (next + length those) ≡ true
below_end plain id next [] is = cc
below_end plain id next (one ∷ those) is =
    by_tests (next == id) refl (plain one) (length those) is (below_end plain id (next + 1) those)
  where
    by_tests : (same : Bool) → (next == id) ≡ same → (here : Bool) (count : ℕ)
        → (cond same here false || list_any (is_it id) (marks_from plain (next + 1) those)) ≡ true
        → (list_any (is_it id) (marks_from plain (next + 1) those) ≡ true → nat_lt id (next + 1 + count) ≡ true)
        → nat_lt id (next + suc count) ≡ true
    by_tests true same here count is again = grind (arith, same)
    by_tests false same here count is again = let less = again is in grind (arith, less)

none_before : {A : Type 0} (plain : A → Bool) (id next : ℕ) (those : List A) → nat_lt id next ≡ true
    → list_any (is_it id) (marks_from plain next those) ≡ false
none_before plain id next [] less = refl
none_before plain id next (one ∷ those) less =
    by_test (next == id) refl (plain one) (none_before plain id (next + 1) those (grind (arith, less)))
  where
    by_test : (same : Bool) → (next == id) ≡ same → (here : Bool)
        → list_any (is_it id) (marks_from plain (next + 1) those) ≡ false
        → (cond same here false || list_any (is_it id) (marks_from plain (next + 1) those)) ≡ false
    by_test true same here none = grind (arith, same, less)
    by_test false same here none = none

-- one that is marked is plain, since no other has its id
each_plain : {A : Type 0} (has : ℕ → Bool) (rooted : Bool) (make : ℕ → A → ListedBreakpoint) (plain : A → Bool)
    → ((id : ℕ) (one : A) → (make id one).id ≡ id) → ((id : ℕ) (one : A) → (make id one).plain ≡ plain one)
    → (next : ℕ) (those : List A)
    → ((id : ℕ) → has id ≡ true → nat_le next id ≡ true
    → (rooted ≡ true) × (list_any (is_it id) (marks_from plain next those) ≡ true))
    → All (λ (one : ListedBreakpoint). has one.id ≡ true → (rooted ≡ true) × (one.plain ≡ true))
    (with_ids make next those)
each_plain has rooted make plain ids plains next [] among = tt
each_plain has rooted make plain ids plains next (one ∷ those) among = (
  λ is. let found = among next (sym (ap has (ids next one)) ∙ is) (grind arith) in (
    found.0,
    plains next one ∙ here (plain one) (none_before plain next (next + 1) those (grind arith)) found.1,
  ),
  each_plain has rooted make plain ids plains (next + 1) those
      (λ id is less. let found = among id is (less_than id less) in (found.0, there id less (plain one) found.1)),
)
  where
    less_than : (id : ℕ) → nat_le (next + 1) id ≡ true → nat_le next id ≡ true
    less_than id less = grind (arith, less)

    here : (b : Bool) → list_any (is_it next) (marks_from plain (next + 1) those) ≡ false
        → (is_it next (next, b) || list_any (is_it next) (marks_from plain (next + 1) those)) ≡ true → b ≡ true
    here b none is = grind (arith, none, is)

    there : (id : ℕ) → nat_le (next + 1) id ≡ true → (b : Bool)
        → (is_it id (next, b) || list_any (is_it id) (marks_from plain (next + 1) those)) ≡ true
        → list_any (is_it id) (marks_from plain (next + 1) those) ≡ true
    there id less b is = by_test (next == id) refl is
      where
        by_test : (same : Bool) → (next == id) ≡ same
            → (cond same b false || list_any (is_it id) (marks_from plain (next + 1) those)) ≡ true
            → list_any (is_it id) (marks_from plain (next + 1) those) ≡ true
        by_test true same is = grind (arith, same, less)
        by_test false same is = is

-- What the client set has ids below the next one ----------------------------------------------------------------------

abbrev wanted_of : Settings → Wanted
wanted_of s = record nothing_wanted { lists = s.lists; functions = s.functions }

abbrev is_plain_line : SourceBreakpoint → Bool
is_plain_line one = one.plain

abbrev is_plain_name : FunctionBreakpoint → Bool
is_plain_name one = one.plain

lines_marked : (from_one : Bool) (next : ℕ) (those : List SourceBreakpoint)
    → map line_mark (with_ids (line_set from_one) next those) ≡ marks_from is_plain_line next those
lines_marked from_one next [] = refl
lines_marked from_one next (one ∷ those) =
    ap (λ (others : List (ℕ × Bool)). (next, one.plain) ∷ others) (lines_marked from_one (next + 1) those)

names_marked : (next : ℕ) (those : List FunctionBreakpoint)
    → map function_mark (with_ids function_set next those) ≡ marks_from is_plain_name next those
names_marked next [] = refl
names_marked next (one ∷ those) =
    ap (λ (others : List (ℕ × Bool)). (next, one.plain) ∷ others) (names_marked (next + 1) those)

abbrev IsBelow : Settings → Type 0
IsBelow s = (id : ℕ) → is_listed id (wanted_of s) ≡ true → nat_lt id s.next_id ≡ true

either : (first second b : Bool) → (first || second) ≡ true → (first ≡ true → b ≡ true) → (second ≡ true → b ≡ true)
    → b ≡ true
either true second b is one other = one refl
either false second b is one other = other is

later : (id next count : ℕ) → nat_lt id next ≡ true → nat_lt id (next + count) ≡ true
later id next count is = grind (arith, is)

below_by : (command : Command) (s : Settings) → IsBelow s → IsBelow (set_by command s)
below_by (SetBreakpoints arguments) s below = λ id is. by_key id (key_of s.roots arguments.path) is
  where
    entries : List LineEntry
    entries = with_ids (line_set s.lines_from_one) s.next_id arguments.breakpoints

    by_key : (id : ℕ) (key : Option (List ℕ))
        → is_listed id (record nothing_wanted {
          lists = kept_under key entries s.lists;
          functions = s.functions;
        }) ≡ true
        → nat_lt id (s.next_id + length arguments.breakpoints) ≡ true
    by_key id None is = later id s.next_id (length arguments.breakpoints) (below id is)
    by_key id (Some key) is =
        either (list_any (is_it id) (map line_mark entries)) (is_listed id (wanted_of s))
        (nat_lt id (s.next_id + length arguments.breakpoints)) (put_listed id key entries (wanted_of s) is)
        (λ new. below_end is_plain_line id s.next_id arguments.breakpoints
        (sym (ap (list_any (is_it id)) (lines_marked s.lines_from_one s.next_id arguments.breakpoints)) ∙ new))
        (λ old. later id s.next_id (length arguments.breakpoints) (below id old))
below_by (SetFunctionBreakpoints arguments) s below = λ id is.
    let entries = with_ids function_set s.next_id arguments.breakpoints in
    either (list_any (is_it id) (map function_mark entries)) (is_listed id (wanted_of s))
    (nat_lt id (s.next_id + length arguments.breakpoints)) (functions_put id entries (wanted_of s) is)
    (λ new. below_end is_plain_name id s.next_id arguments.breakpoints
    (sym (ap (list_any (is_it id)) (names_marked s.next_id arguments.breakpoints)) ∙ new))
    (λ old. later id s.next_id (length arguments.breakpoints) (below id old))
below_by _ s below = below

below_fold : (pairs : List (Request × Response)) (s : Settings) → IsBelow s → IsBelow (fold answered_set s pairs)
below_fold [] s below = below
below_fold (pair ∷ pairs) s below = below_fold pairs (answered_set s pair) (by_outcome pair.1.outcome)
  where
    by_outcome : (outcome : OutcomeTold) → IsBelow (set_if outcome pair.0.command s)
    by_outcome (outcomes.Success shape) = below_by pair.0.command s below
    by_outcome (outcomes.Failure failure) = below

all_below : (messages : List Message) → IsBelow (settings_of messages)
all_below messages = below_fold (zip (requests_of messages) (responses_of messages)) nothing_set (λ id is. cc)

-- How breakpoints are told --------------------------------------------------------------------------------------------

-- what is listed and has a location is plain, and its source has a key
abbrev IsSound : Wishes → Bool → ListedBreakpoint → Type 0
IsSound w rooted one = is_listed one.id w.wanted ≡ true → (rooted ≡ true) × (one.plain ≡ true)

told_right : (rooted : Bool) (w : Wishes) (one : ListedBreakpoint) → IsSound w rooted one
    → IsRight w (breakpoint_told rooted w one)
told_right rooted w one sound = by_placed (is_placed one.id w) refl
  where
    unverified : (listed placed refused : Bool) → placed ≡ false
        → (if listed then Some (if placed then Verified else (if refused then Refused else Waiting)) else None)
        ≡ Some Verified → ⊥
    unverified false placed refused none is = cc
    unverified true true refused none is = cc
    unverified true false true none is = cc
    unverified true false false none is = cc

    by_state : (rooted plain : Bool) (stands : Option EntryState) → (stands ≡ Some Verified → ⊥)
        → is_told_verified (status_of rooted plain stands) ≡ false
    by_state false false stands none = refl
    by_state true false stands none = refl
    by_state false true stands none = refl
    by_state true true None none = refl
    by_state true true (Some Verified) none = absurd (none refl)
    by_state true true (Some Refused) none = refl
    by_state true true (Some Waiting) none = refl

    by_placed : (placed : Bool) → is_placed one.id w ≡ placed
        → is_told_verified (status_of rooted one.plain (state_of w one.id)) ≡ placed
    by_placed true is =
        let listed = placed_listed one.id w.wanted (is_installed w.installed) is in
        let right = sound listed in
        let plain : one.plain ≡ true = right.1 in
        let root : rooted ≡ true = right.0 in
        let stands : state_of w one.id ≡ Some Verified = stands_verified one.id w listed is in
        rw (root, plain, stands) refl
    by_placed false is =
        by_state rooted one.plain (state_of w one.id)
        (λ stands. unverified _ (is_placed one.id w) _ is stands)

all_right : (rooted : Bool) (w : Wishes) (listed : List ListedBreakpoint) → All (IsSound w rooted) listed
    → All (IsRight w) (map (breakpoint_told rooted w) listed)
all_right rooted w [] sound = tt
all_right rooted w (one ∷ listed) sound =
    (told_right rooted w one sound.0, all_right rooted w listed sound.1)

-- What a request lists ------------------------------------------------------------------------------------------------

-- an id that isn't below the next one is new
new_only : (s : Settings) → IsBelow s → (id : ℕ) (new : Bool) → nat_le s.next_id id ≡ true
    → (new || is_listed id (wanted_of s)) ≡ true → new ≡ true
new_only s below id new from is =
    either new (is_listed id (wanted_of s)) new is (λ here. here)
    (λ old. apart id s.next_id new (below id old) from)
  where
    apart : (id next : ℕ) (b : Bool) → nat_lt id next ≡ true → nat_le next id ≡ true → b ≡ true
    apart id next b less more = absurd (grind (arith, less, more))

abbrev AreSound : Wishes → Listed → Type 0
AreSound w list = All (IsSound w list.0) list.1

lines_sound : (s : Settings) (key : Option (List ℕ)) (those : List SourceBreakpoint) (w : Wishes) → IsBelow s
    → marks w.wanted ≡ marks (record nothing_wanted {
      lists = kept_under key (with_ids (line_set s.lines_from_one) s.next_id those) s.lists;
      functions = s.functions;
    }) → AreSound w (is_some key, with_ids line_listed s.next_id those)
lines_sound s key those w below same =
    each_plain (λ id. is_listed id w.wanted) (is_some key) line_listed is_plain_line (λ id one. refl)
    (λ id one. refl) s.next_id those
    (λ id is from. by_key key id from (sym (ap (list_any (is_it id)) same) ∙ is))
  where
    entries : List LineEntry
    entries = with_ids (line_set s.lines_from_one) s.next_id those

    by_key : (key : Option (List ℕ)) (id : ℕ) → nat_le s.next_id id ≡ true
        → is_listed id (record nothing_wanted {
          lists = kept_under key entries s.lists;
          functions = s.functions;
        }) ≡ true
        → (is_some key ≡ true) × (list_any (is_it id) (marks_from is_plain_line s.next_id those) ≡ true)
    by_key None id from is = let no = new_only s below id false from is in cc
    by_key (Some key) id from is = (
      refl,
      sym (ap (list_any (is_it id)) (lines_marked s.lines_from_one s.next_id those))
          ∙ new_only s below id (list_any (is_it id) (map line_mark entries)) from
          (put_listed id key entries (wanted_of s) is),
    )

names_sound : (s : Settings) (those : List FunctionBreakpoint) (w : Wishes) → IsBelow s
    → marks w.wanted ≡ marks (record nothing_wanted {
      lists = s.lists;
      functions = with_ids function_set s.next_id those;
    }) → AreSound w (true, with_ids name_listed s.next_id those)
names_sound s those w below same =
    each_plain (λ id. is_listed id w.wanted) true name_listed is_plain_name (λ id one. refl) (λ id one. refl) s.next_id
    those
    (λ id is from. (
      refl,
      sym (ap (list_any (is_it id)) (names_marked s.next_id those))
          ∙ new_only s below id (list_any (is_it id) (map function_mark entries)) from
          (functions_put id entries (wanted_of s) (sym (ap (list_any (is_it id)) same) ∙ is)),
    ))
  where
    entries : List FunctionEntry
    entries = with_ids function_set s.next_id those

some_same : {A : Type 0} (a b : A) → Some a ≡ Some b → a ≡ b
some_same a b is = cc

-- what a request sets, and lists with it
list_sound : (command : Command) (s : Settings) (list : Listed) (w : Wishes) → IsBelow s
    → listed_by command s ≡ Some list → marks w.wanted ≡ marks (wanted_of (set_by command s)) → AreSound w list
list_sound (SetBreakpoints arguments) s list w below is same =
    subst (λ (list : Listed). AreSound w list) (some_same _ list is)
    (lines_sound s (key_of s.roots arguments.path) arguments.breakpoints w below same)
list_sound (SetFunctionBreakpoints arguments) s list w below is same =
    subst (λ (list : Listed). AreSound w list) (some_same _ list is)
    (names_sound s arguments.breakpoints w below same)
list_sound _ s list w below is same = cc

line_spots : (rooted : Bool) (w : Wishes) (next : ℕ) (those : List SourceBreakpoint)
    → map spot_told (map (breakpoint_told rooted w) (with_ids line_listed next those)) ≡ with_ids line_asked next those
line_spots rooted w next [] = refl
line_spots rooted w next (one ∷ those) =
    ap (λ (others : List (ℕ × Option ℕ)). (next, Some one.line) ∷ others) (line_spots rooted w (next + 1) those)

name_spots : (rooted : Bool) (w : Wishes) (next : ℕ) (those : List FunctionBreakpoint)
    → map spot_told (map (breakpoint_told rooted w) (with_ids name_listed next those))
    ≡ with_ids function_asked next those
name_spots rooted w next [] = refl
name_spots rooted w next (one ∷ those) =
    ap (λ (others : List (ℕ × Option ℕ)). (next, None) ∷ others) (name_spots rooted w (next + 1) those)

abbrev told_spots : Wishes → Listed → Option (List (ℕ × Option ℕ))
told_spots w list = Some (map spot_told (map (breakpoint_told list.0 w) list.1))

list_asked : (command : Command) (s : Settings) (list : Listed) (w : Wishes) → listed_by command s ≡ Some list
    → told_spots w list ≡ spots_asked command s
list_asked (SetBreakpoints arguments) s list w is =
    ap (λ (list : Listed). told_spots w list) (sym (some_same _ list is))
    ∙ ap (λ (spots : List (ℕ × Option ℕ)). Some spots)
    (line_spots (is_some (key_of s.roots arguments.path)) w s.next_id arguments.breakpoints)
list_asked (SetFunctionBreakpoints arguments) s list w is =
    ap (λ (list : Listed). told_spots w list) (sym (some_same _ list is))
    ∙ ap (λ (spots : List (ℕ × Option ℕ)). Some spots) (name_spots true w s.next_id arguments.breakpoints)
list_asked _ s list w is = cc

none_asked : (command : Command) (s : Settings) → None ≡ listed_by command s → None ≡ spots_asked command s
none_asked (SetBreakpoints arguments) s is = cc
none_asked (SetFunctionBreakpoints arguments) s is = cc
none_asked _ s is = refl

-- The law -------------------------------------------------------------------------------------------------------------

abbrev Tells : Command → Settings → Wishes → Shape → Type 0
Tells command s w shape = (option_map (map spot_told) (breakpoints_in shape) ≡ spots_asked command s)
    × IfSome (breakpoints_in shape) (All (IsRight w))

tells_body : (command : Command) (s : Settings) (state : State) (body : Body) → IsBelow s
    → listed_in (Some (Success body)) ≡ listed_by command s
    → marks state.wishes.wanted ≡ marks (wanted_of (set_by command s))
    → Tells command s state.wishes (body_told body (numbered body state))
tells_body command s state (breakpoint_list rooted listed) below lists same = (
  list_asked command s (rooted, listed) state.wishes (sym lists),
  all_right rooted state.wishes listed (list_sound command s (rooted, listed) state.wishes below (sym lists) same),
)
tells_body command s state _ below lists same = (none_asked command s lists, tt)

tells_far : (command : Command) (s : Settings) (state : State) (body : Body) → listed_in (Some (Success body)) ≡ None
    → listed_by command s ≡ None → Tells command s state.wishes (body_told body (numbered body state))
tells_far command s state (breakpoint_list rooted listed) none lists = cc
tells_far command s state _ none lists = (none_asked command s (sym lists), tt)

lists_far : {messages : List Message} {m : Machine} {hand : Hand} {rest : List Part} {request : Request} (body : Body)
    → Run messages m → IsAt m hand (Part.Responds (Success body)) rest → hand.item ≡ a_request request
    → is_gone m.state.phase ≡ true
    → Tells request.command (settings_of messages) m.state.wishes (body_told body (numbered body m.state))
lists_far {messages} {m} {rest = rest} {request} body r at is gone =
    let item = subst (λ (item : Item). FarItem item (Part.Responds (Success body) ∷ rest)) is
    (far_at at (far r gone)) in
    let f : IsFar (Some (Success body)) request.command = item refl in
    tells_far request.command (settings_of messages) m.state body f.0 (f.1 (settings_of messages))

lists_near : {messages : List Message} {m : Machine} {hand : Hand} {rest : List Part} {request : Request} (body : Body)
    → Run messages m → IsAt m hand (Part.Responds (Success body)) rest → hand.item ≡ a_request request
    → is_gone m.state.phase ≡ false
    → Tells request.command (settings_of messages) m.state.wishes (body_told body (numbered body m.state))
lists_near {messages} {m} {hand} {rest} {request} body r at is near =
    let set = settings_of messages in
    let item = subst (λ (item : Item). FollowsItem item set (Part.Responds (Success body) ∷ rest) (seen m.state)) is
    (follows_at set at (followed r near)) in
    let f : Follows request.command set (Part.Responds (Success body) ∷ rest) (seen m.state) = item.0 refl in
    let silent : has_response rest ≡ false = not-true (has_response rest) (whole responds_once (tested once r) at) in
    let none = none_listed rest (whole lists_before (tested first_test r) at) silent in
    let now = as_set (set_by request.command set) m.state rest f.sets_all none in
    tells_body request.command set m.state body (all_below messages) f.lists
    (ap₂ (λ (lists : List (List ℕ × List LineEntry)) (functions : List FunctionEntry).
    flat_map line_marks lists ++ map function_mark functions) now.lists now.functions)

lists_at : {messages : List Message} {m : Machine} {hand : Hand} {rest : List Part} {request : Request} (body : Body)
    → Run messages m → IsAt m hand (Part.Responds (Success body)) rest → hand.item ≡ a_request request
    → Tells request.command (settings_of messages) m.state.wishes (body_told body (numbered body m.state))
lists_at {messages} {m} {request = request} body r at is = by_phase (is_gone m.state.phase) refl
  where
    by_phase : (gone : Bool) → is_gone m.state.phase ≡ gone
        → Tells request.command (settings_of messages) m.state.wishes (body_told body (numbered body m.state))
    by_phase true gone = lists_far body r at is gone
    by_phase false near = lists_near body r at is near

lists_of : {messages : List Message} {m next : Machine} (said : Option Message) (response : Response) (shape : Shape)
    → Run messages m → Moves m said next → said ≡ Some (Message.tells (a_response response))
    → response.outcome ≡ outcomes.Success shape → ListsAsked messages m.state.wishes response shape
lists_of {messages} {m} said response shape r (Moves.responds {hand} {rest} {request} {outcome} free at item) is
    success =
    let same : record {
      request_seq = request.seq;
      command = request.name;
      outcome = outcome_told outcome m.state;
    } ≡ response = cc in
    by_outcome outcome at (ap (λ (response : Response). response.outcome) same ∙ success) same
  where
    by_outcome : (outcome : Outcome) → IsAt m hand (Part.Responds outcome) rest
        → outcome_told outcome m.state ≡ outcomes.Success shape
        → record {
          request_seq = request.seq;
          command = request.name;
          outcome = outcome_told outcome m.state;
        } ≡ response
        → ListsAsked messages m.state.wishes response shape
    by_outcome (Failed failure) at success same = cc
    by_outcome (Success body) at success same =
        let told = lists_at body r at item in
        let shape_is : body_told body (numbered body m.state) ≡ shape = cc in
        let now = subst (λ (shape : Shape). Tells request.command (settings_of messages) m.state.wishes shape) shape_is
        told in
        record {
          request = request;
          first = first_in r at item refl;
          answers = record {
            seq = sym (ap (λ (response : Response). response.request_seq) same);
            command = sym (ap (λ (response : Response). response.command) same);
          };
          asked = now.0;
          verified = now.1;
        }
lists_of {messages = messages} said response shape r (Moves.loses late close why) is success = by_loss why is
  where
    by_loss : {m : Machine} {message : Message} {late : List TargetCommand} → Loses m message late
        → Some message ≡ Some (Message.tells (a_response response))
        → ListsAsked messages m.state.wishes response shape
    by_loss Loses.by_end is = cc
    by_loss _ is = cc
lists_of said response shape r _ is success = cc

pub lists_asked : (messages : List Message) (m : Machine) (response : Response) (shape : Shape) → Run messages m
    → (due false m).act ≡ Act.Tells (a_response response) → response.outcome ≡ outcomes.Success shape
    → ListsAsked messages m.state.wishes response shape
lists_asked messages m response shape r is success =
    lists_of (Some (Message.tells (a_response response))) response shape r (moved (Allows.acts (ap said is))) refl
    success
