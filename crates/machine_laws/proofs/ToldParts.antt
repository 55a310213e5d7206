-- The parts that are left of an item tell the client of each breakpoint that they verify.
use Rattle.std.proofs.Common.{◌≡◌, ℕ, Bool, true, false, cond, List, [], ◌∷◌, Option, Some, None, refl, ap, ◌∙◌, sym}
use Rattle.std.proofs.Common.{◌||◌, ◌==◌, ◌+◌, length, map, arith, nat_lt, suc, bytes_eq}
use Rattle.std.proofs.lemmas.List.Folds.{list_any-append}
use Rattle.std.specs.List.{flat_map, list_any}
use Rattle.dap_messages.specs.declared.requests.SourceBreakpoint.{SourceBreakpoint}
use Rattle.jdwp_values.specs.declared.id.ClassId.{ClassId}
use Rattle.dap_messages.specs.declared.requests.FunctionBreakpoint.{FunctionBreakpoint}
use Rattle.machine_model.specs.Breakpoints.{entry_of, function_listed, functions_from, has_id, key_of, numbered_from}
use Rattle.machine_model.specs.Knowing.{is_fresh}
use Rattle.machine_model.specs.Requests.{Wishes}
use Rattle.machine_model.specs.Rows.{breakpoint_parts, end_parts, failure_of, noted, parts_by, parts_of, row_of}
use Rattle.machine_model.specs.Rows.{wanting, if_attached}
use Rattle.machine_model.specs.State.{State}
use Rattle.machine_steps.specs.Names.{Classes, Command, Failure, Item, Lines, ListedBreakpoint, Note, Part, Phase}
use Rattle.machine_steps.specs.Names.{SetBreakpoints, Success, TellsNews, a_composite, a_raw, a_request}
use Rattle.machine_steps.specs.Names.{breakpoint_list, class_facts, entry_verified, some_news, target_end, Functions}
use Rattle.machine_steps.specs.Names.{SetFunctionBreakpoints, Steps, StopsAt}
use Rattle.class_tables.specs.Lookups.{Lookups, found_in}
use Rattle.class_tables.specs.Tables.{put}
use Rattle.wish_sets.specs.Wanted.{Wanted, with_class, with_exceptions, with_functions, with_known, with_lines}
use Rattle.wish_sets.specs.Wanted.{with_step}
use Rattle.wish_sets.specs.Entries.{has_location}
use Rattle.wish_sets.specs.Places.{places}
use Rattle.wish_sets.specs.Wishes.{is_installed, is_missing, rewished}
use Rattle.wish_sets.specs.declared.entry.FunctionEntry.{FunctionEntry}
use Rattle.wish_sets.specs.declared.entry.LineEntry.{LineEntry}
use Rattle.machine_laws.proofs.BareLaws.{bare_rewished, is_bare}
use Rattle.machine_laws.proofs.VerifiedLaws.{function_mark, is_it, is_listed, is_placed, is_shown, line_mark}
use Rattle.machine_laws.proofs.VerifiedLaws.{line_marks, marks}
use Rattle.std.proofs.lemmas.Bool.{or_right}
use Rattle.machine_model.proofs.Bools.{both_hold}
use Rattle.machine_laws.proofs.BindingHands.{notes_list}

-- Parts ---------------------------------------------------------------------------------------------------------------

-- it changes where breakpoints are bound, or becomes what does
abbrev pub rebinds : Part → Bool
rebinds (Part.Looks class_facts) = true
rebinds (Part.Notes (Lines key path entries)) = true
rebinds (Part.Notes (Functions entries)) = true
rebinds (Part.Notes (Classes classes)) = true
rebinds _ = false

-- Something may be verified by it: where a location is bare, by the event requests that are set.
abbrev pub verifies : Bool → Part → Bool
verifies bare Part.Updates = bare
verifies bare part = rebinds part

-- whether a location may be bare behind it
abbrev pub bare_behind : Bool → Part → Bool
bare_behind bare Part.Updates = false
bare_behind bare part = bare || rebinds part

abbrev pub has_lists : List Part → Bool
has_lists [] = false
has_lists (part ∷ parts) = cond (notes_list part) true (has_lists parts)

abbrev pub is_asked : Item → Bool
is_asked (a_request request) = true
is_asked (a_composite at composite) = false
is_asked (a_raw at body) = false
is_asked target_end = false

known_marks : (known : Lookups) (classes : List ClassId) (wanted : Wanted)
    → marks (with_known known classes wanted) ≡ marks wanted
known_marks known [] wanted = refl
known_marks known (class ∷ classes) wanted = known_marks known classes (with_class known class wanted)

module _ (id : ℕ) where
  -- What is left tells of it ------------------------------------------------------------------------------------------

  -- a part that tells the client of the breakpoint where it is verified; a response only to a request
  abbrev pub tells_it : Bool → Part → Bool
  tells_it asked (Part.Tells (some_news (entry_verified entry))) = entry.id == id
  tells_it asked (Part.Unfolds (TellsNews below)) = nat_lt id below
  tells_it asked (Part.Responds (Success (breakpoint_list rooted listed))) =
      cond asked (cond rooted (list_any (is_shown id) listed) false) false
  tells_it asked _ = false

  abbrev pub will_tell : Bool → List Part → Bool
  will_tell asked [] = false
  will_tell asked (part ∷ parts) = tells_it asked part || will_tell asked parts

  -- behind each part that may verify it the breakpoint is told
  abbrev pub covers : Bool → Bool → List Part → Bool
  covers asked bare [] = true
  covers asked bare (part ∷ parts) =
      cond (cond (verifies bare part) (will_tell asked parts) true) (covers asked (bare_behind bare part) parts) false

  -- so it is where no location is bare
  pub calmer : (asked bare : Bool) (parts : List Part) → covers asked true parts ≡ true → covers asked bare parts ≡ true
  calmer asked bare [] is = refl
  calmer asked true (part ∷ parts) is = is
  calmer asked false (Part.Updates ∷ parts) is = (both_hold (will_tell asked parts) (covers asked false parts) is).1
  calmer asked false (part ∷ parts) is = by_test (rebinds part) is (calmer asked false parts)
    where
      by_test : (binds : Bool) → cond (cond binds (will_tell asked parts) true) (covers asked true parts) false ≡ true
          → (covers asked true parts ≡ true → covers asked false parts ≡ true)
          → cond (cond binds (will_tell asked parts) true) (covers asked binds parts) false ≡ true
      by_test true is again = is
      by_test false is again = again is

  -- What is written down numbers these breakpoints, so many: they get the next ids, and are told behind it.
  abbrev pub Numbers : Bool → Phase → ℕ → List (ℕ × Bool) → ℕ → List Part → Type 0
  Numbers asked phase next those count rest =
      (has_lists rest ≡ false) × (is_fresh phase ≡ false) × (list_any (is_it id) those ≡ true
      → (nat_lt id (next + count) ≡ true) × (will_tell asked rest ≡ true) × (covers asked true rest ≡ true))

  -- a list that is to be written down stands in front
  abbrev pub AreNoted : Bool → Phase → ℕ → List Part → Type 0
  AreNoted asked phase next [] = Unit {0}
  AreNoted asked phase next (Part.Notes (Lines (Some key) path entries) ∷ rest) =
      Numbers asked phase next (map line_mark entries) (length entries) rest
  AreNoted asked phase next (Part.Notes (Functions entries) ∷ rest) =
      Numbers asked phase next (map function_mark entries) (length entries) rest
  AreNoted asked phase next (_ ∷ rest) = has_lists rest ≡ false

  pub none_noted : (asked : Bool) (phase : Phase) (next : ℕ) (parts : List Part) → has_lists parts ≡ false
      → AreNoted asked phase next parts
  none_noted asked phase next [] is = tt
  none_noted asked phase next (Part.Notes (Lines key path entries) ∷ rest) is = cc
  none_noted asked phase next (Part.Notes (Functions entries) ∷ rest) is = cc
  none_noted asked phase next (_ ∷ rest) is = is

  -- Of the breakpoint: where it is verified, the client was told, or what is left tells it; and what is left tells it
  -- behind all that may verify it.
  pub record Covers (asked : Bool) (w : Wishes) (phase : Phase) (next : ℕ) (ids : List ℕ) (parts : List Part)
      : Type 0 where
    pub early : is_fresh phase ≡ true → is_listed id w.wanted ≡ false
    pub below : is_listed id w.wanted ≡ true → nat_lt id next ≡ true
    pub noted : AreNoted asked phase next parts
    pub covered : is_listed id w.wanted ≡ true → covers asked (is_bare id w) parts ≡ true
    pub told : is_listed id w.wanted ≡ true → is_placed id w ≡ true → (has_id ids id || will_tell asked parts) ≡ true

  pub covers_rest : (asked bare : Bool) (part : Part) (rest : List Part) → covers asked bare (part ∷ rest) ≡ true
      → covers asked (bare_behind bare part) rest ≡ true
  covers_rest asked bare part rest is =
      (both_hold (cond (verifies bare part) (will_tell asked rest) true) (covers asked (bare_behind bare part) rest) is).1

  -- a part is done that told the breakpoint, or doesn't tell it
  pub passes : {asked : Bool} {w : Wishes} {phase : Phase} {next : ℕ} {ids : List ℕ} (now : Phase) (known : List ℕ)
      (part : Part) (rest : List Part) → Covers asked w phase next ids (part ∷ rest) → has_lists rest ≡ false
      → bare_behind (is_bare id w) part ≡ is_bare id w → (is_fresh now ≡ true → is_fresh phase ≡ true)
      → (is_listed id w.wanted ≡ true → is_placed id w ≡ true → (has_id ids id || tells_it asked part) ≡ true
      → has_id known id ≡ true)
      → Covers asked w now next known rest
  passes {asked} {w} {phase} {next} {ids} now known part rest c none bare fresh tells = record {
    early = λ is. c.early (fresh is);
    below = c.below;
    noted = none_noted asked now next rest none;
    covered = λ is. sym (ap (λ b. covers asked b rest) bare)
        ∙ covers_rest asked (is_bare id w) part rest (c.covered is);
    told = λ is placed. by_bools (has_id ids id) (tells_it asked part) (will_tell asked rest) (has_id known id)
        (c.told is placed) (tells is placed);
  }
    where
      by_bools : (was tells rest now : Bool) → (was || (tells || rest)) ≡ true → ((was || tells) ≡ true → now ≡ true)
          → (now || rest) ≡ true
      by_bools was tells rest now is h = grind (arith, is, h)

  -- a part is done that tells nothing
  pub skips : {asked : Bool} {w : Wishes} {phase : Phase} {next : ℕ} {ids : List ℕ} (now : Phase) (part : Part)
      (rest : List Part) → Covers asked w phase next ids (part ∷ rest) → has_lists rest ≡ false
      → bare_behind (is_bare id w) part ≡ is_bare id w → (is_fresh now ≡ true → is_fresh phase ≡ true)
      → tells_it asked part ≡ false → Covers asked w now next ids rest
  skips {asked} {ids = ids} now part rest c none bare fresh silent =
      passes now ids part rest c none bare fresh
      (λ is placed known. by_bools (has_id ids id) (tells_it asked part) known silent)
    where
      by_bools : (was tells : Bool) → (was || tells) ≡ true → tells ≡ false → was ≡ true
      by_bools was tells is none = grind (arith, is, none)

  -- a location is as bare behind a part that changes nothing
  pub as_bare : (bare : Bool) → (bare || false) ≡ bare
  as_bare bare = grind arith

  -- Rows --------------------------------------------------------------------------------------------------------------

  row_covers : (failure : Option Failure) (command : Command) (state : State) → nat_lt id state.next_entry ≡ true
      → is_fresh state.phase ≡ false → failure_of (wanting command) state ≡ failure
      → covers true false (parts_by failure (row_of command state)) ≡ true
  row_covers failure command state is near same = grind (arith, is, near, same)

  begun_covers : (state : State) (item : Item) → nat_lt id state.next_entry ≡ true → is_fresh state.phase ≡ false
      → covers (is_asked item) false (parts_of state item) ≡ true
  begun_covers state (a_request request) is near =
      row_covers (failure_of (wanting request.command) state) request.command state is near refl
  begun_covers state target_end is near = grind arith
  begun_covers state (a_composite at composite) is near = grind (arith, is)
  begun_covers state (a_raw at body) is near = refl

  -- the breakpoints of a list are told in its response
  lines_shown : (from_one : Bool) (listed : List ListedBreakpoint)
      → list_any (is_it id) (map line_mark (map (entry_of from_one) listed)) ≡ list_any (is_shown id) listed
  lines_shown from_one [] = refl
  lines_shown from_one (one ∷ listed) = ap (λ b. is_shown id one || b) (lines_shown from_one listed)

  functions_shown : (entries : List FunctionEntry)
      → list_any (is_it id) (map function_mark entries) ≡ list_any (is_shown id) (map function_listed entries)
  functions_shown [] = refl
  functions_shown (one ∷ entries) = ap (λ b. is_it id (function_mark one) || b) (functions_shown entries)

  -- breakpoints that have the next ids
  abbrev marks_from : ℕ → List Bool → List (ℕ × Bool)
  marks_from next [] = []
  marks_from next (plain ∷ others) = (next, plain) ∷ marks_from (next + 1) others

  below_next : (next : ℕ) (plains : List Bool) → list_any (is_it id) (marks_from next plains) ≡ true
      → nat_lt id (next + length plains) ≡ true
  below_next next [] is = cc
  below_next next (plain ∷ others) is =
      by_tests (next == id) refl plain (length others) is (below_next (next + 1) others)
    where
      by_tests : (same : Bool) → (next == id) ≡ same → (plain : Bool) (count : ℕ)
          → (cond same plain false || list_any (is_it id) (marks_from (next + 1) others)) ≡ true
          → (list_any (is_it id) (marks_from (next + 1) others) ≡ true → nat_lt id (next + 1 + count) ≡ true)
          → nat_lt id (next + suc count) ≡ true
      by_tests true same plain count is again = grind (arith, same)
      by_tests false same plain count is again = let less = again is in grind (arith, less)

  -- those of a source, and functions
  abbrev plains_in : List SourceBreakpoint → List Bool
  plains_in those = map (λ (one : SourceBreakpoint). one.plain) those

  lines_marked : (from_one : Bool) (next : ℕ) (those : List SourceBreakpoint)
      → map line_mark (map (entry_of from_one) (numbered_from next those)) ≡ marks_from next (plains_in those)
  lines_marked from_one next [] = refl
  lines_marked from_one next (one ∷ those) =
      ap (λ others. (next, one.plain) ∷ others) (lines_marked from_one (next + 1) those)

  lines_counted : (from_one : Bool) (next : ℕ) (those : List SourceBreakpoint)
      → length (plains_in those) ≡ length (map (entry_of from_one) (numbered_from next those))
  lines_counted from_one next [] = refl
  lines_counted from_one next (one ∷ those) = ap suc (lines_counted from_one (next + 1) those)

  abbrev plains_of : List FunctionBreakpoint → List Bool
  plains_of those = map (λ (one : FunctionBreakpoint). one.plain) those

  functions_marked : (next : ℕ) (those : List FunctionBreakpoint)
      → map function_mark (functions_from next those) ≡ marks_from next (plains_of those)
  functions_marked next [] = refl
  functions_marked next (one ∷ those) = ap (λ others. (next, one.plain) ∷ others) (functions_marked (next + 1) those)

  functions_counted : (next : ℕ) (those : List FunctionBreakpoint)
      → length (plains_of those) ≡ length (functions_from next those)
  functions_counted next [] = refl
  functions_counted next (one ∷ those) = ap suc (functions_counted (next + 1) those)

  -- behind the note of a list stands all that tells it
  numbers : (phase : Phase) (next count : ℕ) (those : List (ℕ × Bool)) (plains : List Bool)
      (listed : List ListedBreakpoint) → is_fresh phase ≡ false → those ≡ marks_from next plains
      → length plains ≡ count → list_any (is_it id) those ≡ list_any (is_shown id) listed
      → Numbers true phase next those count (Part.Updates ∷ Part.Looks class_facts ∷ Part.Updates
      ∷ Part.Unfolds (TellsNews next) ∷ Part.Responds (Success (breakpoint_list true listed)) ∷ [])
  numbers phase next count those plains listed near marked counted shown = (
    refl,
    near,
    λ is.
        let last = tells (list_any (is_shown id) listed) (nat_lt id next) (sym shown ∙ is) in (
          sym (ap (λ count. nat_lt id (next + count)) counted)
              ∙ below_next next plains (sym (ap (list_any (is_it id)) marked) ∙ is),
          last,
          rw last refl,
        ),
  )
    where
      tells : (shown less : Bool) → shown ≡ true → (less || (shown || false)) ≡ true
      tells shown less is = grind (arith, is)

  near_phase : (phase : Phase) → if_attached phase ≡ None → is_fresh phase ≡ false
  near_phase phase is = grind (arith, is)

  row_noted : (failure : Option Failure) (command : Command) (state : State)
      → failure_of (wanting command) state ≡ failure
      → AreNoted true state.phase state.next_entry (parts_by failure (row_of command state))
  row_noted None (SetBreakpoints arguments) state same =
      by_key (key_of state.roots arguments.path) (near_phase state.phase same)
    where
      listed : List ListedBreakpoint
      listed = numbered_from state.next_entry arguments.breakpoints

      by_key : (key : Option (List ℕ)) → is_fresh state.phase ≡ false
          → AreNoted true state.phase state.next_entry (breakpoint_parts state.options.lines_from_one key
          arguments.path listed state.next_entry)
      by_key None near = refl
      by_key (Some key) near =
          let from_one = state.options.lines_from_one in
          numbers state.phase state.next_entry (length (map (entry_of from_one) listed))
          (map line_mark (map (entry_of from_one) listed)) (plains_in arguments.breakpoints) listed near
          (lines_marked from_one state.next_entry arguments.breakpoints)
          (lines_counted from_one state.next_entry arguments.breakpoints) (lines_shown from_one listed)
  row_noted None (SetFunctionBreakpoints arguments) state same =
      let entries = functions_from state.next_entry arguments.breakpoints in
      numbers state.phase state.next_entry (length entries) (map function_mark entries)
      (plains_of arguments.breakpoints) (map function_listed entries) (near_phase state.phase same)
      (functions_marked state.next_entry arguments.breakpoints)
      (functions_counted state.next_entry arguments.breakpoints) (functions_shown entries)
  row_noted failure command state same = none_noted true state.phase state.next_entry
      (parts_by failure (row_of command state)) (grind arith)

  begun_noted : (state : State) (item : Item)
      → AreNoted (is_asked item) state.phase state.next_entry (parts_of state item)
  begun_noted state (a_request request) =
      row_noted (failure_of (wanting request.command) state) request.command state refl
  begun_noted state target_end = none_noted false state.phase state.next_entry (end_parts state.terminated)
      (none state.terminated)
    where
      none : (told : Bool) → has_lists (end_parts told) ≡ false
      none told = grind arith
  begun_noted state (a_composite at composite) =
      none_noted false state.phase state.next_entry (parts_of state (a_composite at composite)) (grind arith)
  begun_noted state (a_raw at body) = tt

  pub begun : (state : State) (item : Item)
      → (is_listed id state.wishes.wanted ≡ true → is_bare id state.wishes ≡ false)
      → Covers false state.wishes state.phase state.next_entry state.bound []
      → Covers (is_asked item) state.wishes state.phase state.next_entry state.bound (parts_of state item)
  begun state item calm c = record {
    early = c.early;
    below = c.below;
    noted = begun_noted state item;
    covered = λ is. ap (λ b. covers (is_asked item) b (parts_of state item)) (calm is)
        ∙ begun_covers state item (c.below is) (not_fresh (is_fresh state.phase) is c.early);
    told = λ is placed. by_bools (has_id state.bound id) (will_tell (is_asked item) (parts_of state item))
        (c.told is placed);
  }
    where
      not_fresh : (fresh : Bool) → is_listed id state.wishes.wanted ≡ true
          → (fresh ≡ true → is_listed id state.wishes.wanted ≡ false) → fresh ≡ false
      not_fresh true is early = let no = early refl in cc
      not_fresh false is early = refl

      by_bools : (known more : Bool) → (known || false) ≡ true → (known || more) ≡ true
      by_bools known more is = grind (arith, is)

  -- Notes -------------------------------------------------------------------------------------------------------------

  -- what is listed then is of the list that is put, or was listed
  put_lists : (key : List ℕ) (entries : List LineEntry) (lists : List (List ℕ × List LineEntry))
      → list_any (is_it id) (flat_map line_marks (put bytes_eq key entries lists)) ≡ true
      → (list_any (is_it id) (map line_mark entries) || list_any (is_it id) (flat_map line_marks lists)) ≡ true
  put_lists key entries [] is = sym (list_any-append (is_it id) (map line_mark entries) []) ∙ is
  put_lists key entries (list ∷ lists) is =
      ap (λ b. list_any (is_it id) (map line_mark entries) || b)
      (list_any-append (is_it id) (line_marks list) (flat_map line_marks lists))
      ∙ by_test (bytes_eq key list.0) is (put_lists key entries lists)
    where
      new : Bool
      new = list_any (is_it id) (map line_mark entries)

      here : Bool
      here = list_any (is_it id) (line_marks list)

      there : Bool
      there = list_any (is_it id) (flat_map line_marks lists)

      replaced : (a b c : Bool) → (a || c) ≡ true → (a || (b || c)) ≡ true
      replaced a b c is = grind (arith, is)

      behind : (a b c d : Bool) → (b || d) ≡ true → (d ≡ true → (a || c) ≡ true) → (a || (b || c)) ≡ true
      behind a b c d is again = grind (arith, is, again)

      by_test : (same : Bool)
          → list_any (is_it id) (flat_map line_marks (cond same ((list.0, entries) ∷ lists)
          (list ∷ put bytes_eq key entries lists))) ≡ true
          → (list_any (is_it id) (flat_map line_marks (put bytes_eq key entries lists)) ≡ true
          → (new || there) ≡ true) → (new || (here || there)) ≡ true
      by_test true is again =
          replaced new here there
          (sym (list_any-append (is_it id) (map line_mark entries) (flat_map line_marks lists)) ∙ is)
      by_test false is again =
          behind new here there (list_any (is_it id) (flat_map line_marks (put bytes_eq key entries lists)))
          (sym (list_any-append (is_it id) (line_marks list) (flat_map line_marks (put bytes_eq key entries lists)))
          ∙ is) again

  pub put_listed : (key : List ℕ) (entries : List LineEntry) (wanted : Wanted)
      → is_listed id (with_lines key entries wanted) ≡ true
      → (list_any (is_it id) (map line_mark entries) || is_listed id wanted) ≡ true
  put_listed key entries wanted is =
      ap (λ b. list_any (is_it id) (map line_mark entries) || b)
      (list_any-append (is_it id) (flat_map line_marks wanted.lists) (map function_mark wanted.functions))
      ∙ in_turn (list_any (is_it id) (map line_mark entries)) (list_any (is_it id) (flat_map line_marks wanted.lists))
      (list_any (is_it id) (map function_mark wanted.functions))
      (list_any (is_it id) (flat_map line_marks (put bytes_eq key entries wanted.lists)))
      (sym (list_any-append (is_it id) (flat_map line_marks (put bytes_eq key entries wanted.lists))
      (map function_mark wanted.functions)) ∙ is) (put_lists key entries wanted.lists)
    where
      in_turn : (a b c d : Bool) → (d || c) ≡ true → (d ≡ true → (a || b) ≡ true) → (a || (b || c)) ≡ true
      in_turn a b c d is h = grind (arith, is, h)

  pub functions_put : (entries : List FunctionEntry) (wanted : Wanted)
      → is_listed id (with_functions entries wanted) ≡ true
      → (list_any (is_it id) (map function_mark entries) || is_listed id wanted) ≡ true
  functions_put entries wanted is =
      ap (λ b. list_any (is_it id) (map function_mark entries) || b)
      (list_any-append (is_it id) (flat_map line_marks wanted.lists) (map function_mark wanted.functions))
      ∙ in_turn (list_any (is_it id) (map function_mark entries))
      (list_any (is_it id) (flat_map line_marks wanted.lists))
      (list_any (is_it id) (map function_mark wanted.functions))
      (sym (list_any-append (is_it id) (flat_map line_marks wanted.lists) (map function_mark entries)) ∙ is)
    where
      in_turn : (a b c : Bool) → (b || a) ≡ true → (a || (b || c)) ≡ true
      in_turn a b c is = grind (arith, is)

  later : (next count : ℕ) → nat_lt id next ≡ true → nat_lt id (next + count) ≡ true
  later next count is = grind (arith, is)

  -- behind a note by which breakpoints are bound anew the breakpoint is told
  rebound : (asked bare : Bool) (note : Note) (rest : List Part) → rebinds (Part.Notes note) ≡ true
      → covers asked bare (Part.Notes note ∷ rest) ≡ true
      → (will_tell asked rest ≡ true) × (covers asked true rest ≡ true)
  rebound asked bare note rest binds is = by_tests bare (rebinds (Part.Notes note)) binds is
    where
      by_tests : (bare binds : Bool) → binds ≡ true
          → cond (cond binds (will_tell asked rest) true) (covers asked (bare || binds) rest) false ≡ true
          → (will_tell asked rest ≡ true) × (covers asked true rest ≡ true)
      by_tests true true binds is = both_hold (will_tell asked rest) (covers asked true rest) is
      by_tests false true binds is = both_hold (will_tell asked rest) (covers asked true rest) is
      by_tests bare false binds is = cc

  -- a list is written down
  list_noted : {asked : Bool} {w : Wishes} {phase : Phase} {next : ℕ} {ids : List ℕ} (note : Note) (now : Wanted)
      (those : List (ℕ × Bool)) (count : ℕ) (rest : List Part) → rebinds (Part.Notes note) ≡ true
      → (is_listed id now ≡ true → (list_any (is_it id) those || is_listed id w.wanted) ≡ true)
      → Numbers asked phase next those count rest → Covers asked w phase next ids (Part.Notes note ∷ rest)
      → Covers asked (rewished now w) phase (next + count) ids rest
  list_noted {asked} {w} {phase} {next} {ids} note now those count rest changes listed n c = record {
    early = λ is. let no = n.1 in cc;
    below = λ is. by_list (nat_lt id (next + count)) is (λ new. (n.2 new).0) (λ old. later next count (c.below old));
    noted = none_noted asked phase (next + count) rest n.0;
    covered = λ is. calmer asked (is_bare id (rewished now w)) rest
        (by_list (covers asked true rest) is (λ new. (n.2 new).2) (λ old. (was_told old).1));
    told = λ is placed. or_right (has_id ids id) (will_tell asked rest)
        (by_list (will_tell asked rest) is (λ new. (n.2 new).1) (λ old. (was_told old).0));
  }
    where
      either : (new old b : Bool) → (new || old) ≡ true → (new ≡ true → b ≡ true) → (old ≡ true → b ≡ true) → b ≡ true
      either new old b is one other = grind (arith, is, one, other)

      by_list : (b : Bool) → is_listed id now ≡ true → (list_any (is_it id) those ≡ true → b ≡ true)
          → (is_listed id w.wanted ≡ true → b ≡ true) → b ≡ true
      by_list b is one other = either (list_any (is_it id) those) (is_listed id w.wanted) b (listed is) one other

      was_told : is_listed id w.wanted ≡ true → (will_tell asked rest ≡ true) × (covers asked true rest ≡ true)
      was_told old = rebound asked (is_bare id w) note rest changes (c.covered old)

  -- something else is wanted, and of breakpoints what was
  others_noted : {asked : Bool} {w : Wishes} {phase : Phase} {next : ℕ} {ids : List ℕ} (now : Wanted) (note : Note)
      (rest : List Part) → rebinds (Part.Notes note) ≡ false → marks now ≡ marks w.wanted → places now ≡ places w.wanted
      → has_lists rest ≡ false → Covers asked w phase next ids (Part.Notes note ∷ rest)
      → Covers asked (rewished now w) phase next ids rest
  others_noted {asked} {w} {phase} {next} {ids} now note rest binds those at none c =
      let listed = ap (list_any (is_it id)) those in record {
        early = λ is. listed ∙ c.early is;
        below = λ is. c.below (sym listed ∙ is);
        noted = none_noted asked phase next rest none;
        covered = λ is. ap (λ b. covers asked b rest) (still_bare ∙ sym (as_bare (is_bare id w))
            ∙ ap (λ b. is_bare id w || b) (sym binds))
            ∙ covers_rest asked (is_bare id w) (Part.Notes note) rest (c.covered (sym listed ∙ is));
        told = λ is placed. c.told (sym listed ∙ is)
            (sym (ap (λ those. has_location those id (is_installed w.installed)) at) ∙ placed);
      }
    where
      still_bare : is_bare id (rewished now w) ≡ is_bare id w
      still_bare = bare_rewished id now w ∙ ap (λ those. has_location those id (is_missing w.installed w.refused)) at

  pub noted_covers : {asked : Bool} (note : Note) (state : State) (rest : List Part)
      → Covers asked state.wishes state.phase state.next_entry state.bound (Part.Notes note ∷ rest)
      → Covers asked (noted note state).wishes (noted note state).phase (noted note state).next_entry
      (noted note state).bound rest
  noted_covers (StopsAt caught uncaught) state rest c =
      others_noted (with_exceptions caught uncaught state.wishes.wanted) (StopsAt caught uncaught) rest refl refl refl
      c.noted c
  noted_covers (Steps step) state rest c =
      others_noted (with_step step state.wishes.wanted) (Steps step) rest refl refl refl c.noted c
  noted_covers {asked} (Lines None path entries) state rest c = record {
    early = c.early;
    below = λ is. later state.next_entry (length entries) (c.below is);
    noted = none_noted asked state.phase (state.next_entry + length entries) rest c.noted;
    covered = λ is. calmer asked (is_bare id state.wishes) rest
        (rebound asked (is_bare id state.wishes) (Lines None path entries) rest refl (c.covered is)).1;
    told = c.told;
  }
  noted_covers (Lines (Some key) path entries) state rest c =
      list_noted (Lines (Some key) path entries) (with_lines key entries state.wishes.wanted) (map line_mark entries)
      (length entries) rest refl (put_listed key entries state.wishes.wanted) c.noted c
  noted_covers (Functions entries) state rest c =
      list_noted (Functions entries) (with_functions entries state.wishes.wanted) (map function_mark entries)
      (length entries) rest refl (functions_put entries state.wishes.wanted) c.noted c
  noted_covers {asked} (Classes classes) state rest c =
      let known = with_known (found_in state.classes) classes state.wishes.wanted in
      let same = ap (list_any (is_it id)) (known_marks (found_in state.classes) classes state.wishes.wanted) in record {
        early = λ is. same ∙ c.early is;
        below = λ is. c.below (sym same ∙ is);
        noted = none_noted asked state.phase state.next_entry rest c.noted;
        covered = λ is. calmer asked (is_bare id (rewished known state.wishes)) rest
            (rebound asked (is_bare id state.wishes) (Classes classes) rest refl (c.covered (sym same ∙ is))).1;
        told = λ is placed. or_right (has_id state.bound id) (will_tell asked rest)
            (rebound asked (is_bare id state.wishes) (Classes classes) rest refl (c.covered (sym same ∙ is))).0;
      }
  noted_covers note state rest c =
      skips state.phase (Part.Notes note) rest c c.noted (as_bare (is_bare id state.wishes)) (λ fresh. fresh) refl
