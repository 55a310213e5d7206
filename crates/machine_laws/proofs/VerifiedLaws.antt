-- A breakpoint that is verified, of a source or of a function, by its id: it is listed, it is news until it is told,
-- and its list tells it.
use Rattle.std.proofs.Common.{◌≡◌, ℕ, Bool, true, false, cond, List, [], ◌∷◌, ◌++◌, Some, refl, ap, ◌∙◌, sym, ◌||◌}
use Rattle.std.proofs.Common.{◌&&◌, ◌==◌, map, arith, filter, nat_lt, None}
use Rattle.std.proofs.lemmas.Bool.{eqb-true, or_left, or_right}
use Rattle.std.proofs.lemmas.List.Folds.{list_any-append}
use Rattle.std.specs.List.{flat_map, list_any}
use Rattle.std.specs.Ordering.{nat_cmp, on}
use Rattle.std.specs.declared.cmp.Ordering.TheVariants.{Equal}
use Rattle.jdwp_values.specs.declared.id.ClassId.{ClassId}
use Rattle.jdwp_values.specs.declared.location.Location.{Location}
use Rattle.machine_model.specs.Breakpoints.{has_id, is_news, newly_verified, with_id}
use Rattle.machine_model.specs.Requests.{Wishes}
use Rattle.machine_steps.specs.Names.{ListedBreakpoint}
use Rattle.wish_sets.proofs.OrderLaws.{any-fold}
use Rattle.wish_sets.specs.Entries.{all_entries, function_seen, has_location, is_verified, line_seen, state_of}
use Rattle.wish_sets.specs.Entries.{verified}
use Rattle.wish_sets.specs.declared.place.Place.{Place}
use Rattle.wish_sets.specs.declared.entry.FunctionEntry.{FunctionEntry}
use Rattle.wish_sets.specs.Places.{entry_places, function_locations, function_places, line_locations, list_places}
use Rattle.wish_sets.specs.Places.{places, places_in}
use Rattle.wish_sets.specs.Wanted.{Wanted}
use Rattle.wish_sets.specs.Wishes.{is_installed}
use Rattle.wish_sets.specs.declared.entry.EntryState.TheVariants.{Verified}
use Rattle.wish_sets.specs.declared.entry.LineEntry.{LineEntry}
use Rattle.wish_sets.specs.declared.entry.VerifiedEntry.{VerifiedEntry}
use Rattle.wish_sets.specs.declared.facts.KnownClass.{KnownClass}
use Rattle.wish_sets.specs.declared.wish.Wish.{Wish}
use Rattle.wish_sets.specs.declared.wish.Wish.TheVariants as wishes
use Rattle.machine_model.proofs.Bools.{both_hold}

-- Lists ---------------------------------------------------------------------------------------------------------------

-- in either of two
either : (a b c d : Bool) → (a || b) ≡ true → (a ≡ true → c ≡ true) → (b ≡ true → d ≡ true) → (c || d) ≡ true
either a b c d is one other = grind (arith, is, one, other)

-- what is found in one of several lists is found of what stands there
any_flat : {X Y Z : Type 0} (p : Y → Bool) (f : X → List Y) (q : Z → Bool) (g : X → List Z)
    → ((x : X) → list_any p (f x) ≡ true → list_any q (g x) ≡ true) → (xs : List X)
    → list_any p (flat_map f xs) ≡ true → list_any q (flat_map g xs) ≡ true
any_flat p f q g each [] is = cc
any_flat p f q g each (x ∷ xs) is =
    list_any-append q (g x) (flat_map g xs)
    ∙ either (list_any p (f x)) (list_any p (flat_map f xs)) (list_any q (g x)) (list_any q (flat_map g xs))
    (sym (list_any-append p (f x) (flat_map f xs)) ∙ is) (each x) (any_flat p f q g each xs)

-- what is found of some is found of what they become
any_mapped : {X Y Z : Type 0} (p : Y → Bool) (f : X → Y) (q : Z → Bool) (g : X → Z)
    → ((x : X) → p (f x) ≡ true → q (g x) ≡ true) → (xs : List X)
    → list_any p (map f xs) ≡ true → list_any q (map g xs) ≡ true
any_mapped p f q g each [] is = cc
any_mapped p f q g each (x ∷ xs) is =
    either (p (f x)) (list_any p (map f xs)) (q (g x)) (list_any q (map g xs)) is (each x) (any_mapped p f q g each xs)

-- what each list of some has is so where one has it
any_one : {X Y : Type 0} (p : Y → Bool) (f : X → List Y) (q : Bool)
    → ((x : X) → list_any p (f x) ≡ true → q ≡ true) → (xs : List X) → list_any p (flat_map f xs) ≡ true → q ≡ true
any_one p f q each [] is = cc
any_one p f q each (x ∷ xs) is =
    in_one (list_any p (f x)) (list_any p (flat_map f xs)) (sym (list_any-append p (f x) (flat_map f xs)) ∙ is)
    (each x) (any_one p f q each xs)
  where
    in_one : (a b : Bool) → (a || b) ≡ true → (a ≡ true → q ≡ true) → (b ≡ true → q ≡ true) → q ≡ true
    in_one true b is one other = one refl
    in_one false b is one other = other is

-- what passes is kept
any_kept : {X : Type 0} (p keeps : X → Bool) → ((x : X) → p x ≡ true → keeps x ≡ true) → (xs : List X)
    → list_any p xs ≡ true → list_any p (filter keeps xs) ≡ true
any_kept p keeps each [] is = cc
any_kept p keeps each (x ∷ xs) is =
    by_tests (p x) (keeps x) refl (each x) is (any_kept p keeps each xs)
  where
    by_tests : (a b : Bool) → p x ≡ a → (a ≡ true → b ≡ true) → (a || list_any p xs) ≡ true
        → (list_any p xs ≡ true → list_any p (filter keeps xs) ≡ true)
        → list_any p (cond b (x ∷ filter keeps xs) (filter keeps xs)) ≡ true
    by_tests true true one each now again = rw one refl
    by_tests true false one each now again = let no = each refl in cc
    by_tests false true one each now again = rw one (again now)
    by_tests false false one each now again = again now

-- Ids -----------------------------------------------------------------------------------------------------------------

-- each entry that is listed, by its id and whether it is plain
abbrev pub line_mark : LineEntry → ℕ × Bool
line_mark entry = (entry.id, entry.plain)

abbrev pub function_mark : FunctionEntry → ℕ × Bool
function_mark entry = (entry.id, entry.plain)

abbrev pub line_marks : List ℕ × List LineEntry → List (ℕ × Bool)
line_marks list = map line_mark list.1

abbrev pub marks : Wanted → List (ℕ × Bool)
marks wanted = flat_map line_marks wanted.lists ++ map function_mark wanted.functions

module _ (id : ℕ) where
  has_last : (ids : List ℕ) (other : ℕ) → (other == id) ≡ true → has_id (ids ++ other ∷ []) id ≡ true
  has_last [] other is = or_left (other == id) false is
  has_last (first ∷ ids) other is = or_right (first == id) _ (has_last ids other is)

  has_more : (ids : List ℕ) (other : ℕ) → has_id ids id ≡ true → has_id (ids ++ other ∷ []) id ≡ true
  has_more [] other is = cc
  has_more (first ∷ ids) other is = by_test (first == id) is (has_more ids other)
    where
      by_test : (first : Bool) → (first || has_id ids id) ≡ true
          → (has_id ids id ≡ true → has_id (ids ++ other ∷ []) id ≡ true)
          → (first || has_id (ids ++ other ∷ []) id) ≡ true
      by_test true is again = refl
      by_test false is again = again is

  pub has_still : (ids : List ℕ) (other : ℕ) → has_id ids id ≡ true → has_id (with_id ids other) id ≡ true
  has_still ids other is = by_test (has_id ids other)
    where
      by_test : (known : Bool) → has_id (cond known ids (ids ++ other ∷ [])) id ≡ true
      by_test true = is
      by_test false = has_more ids other is

  pub has_now : (ids : List ℕ) (other : ℕ) → (other == id) ≡ true → has_id (with_id ids other) id ≡ true
  has_now ids other is = by_test (has_id ids other) refl
    where
      by_test : (known : Bool) → has_id ids other ≡ known → has_id (cond known ids (ids ++ other ∷ [])) id ≡ true
      by_test true known = sym (ap (has_id ids) (eqb-true other id is)) ∙ known
      by_test false known = has_last ids other is

  -- Breakpoints with this id ------------------------------------------------------------------------------------------

  -- an entry of either kind, by its id and whether it is plain: a plain one that has this id
  abbrev pub is_it : ℕ × Bool → Bool
  is_it mark = cond (mark.0 == id) mark.1 false

  abbrev pub is_shown : ListedBreakpoint → Bool
  is_shown listed = is_it (listed.id, listed.plain)

  abbrev pub is_listed : Wanted → Bool
  is_listed wanted = list_any is_it (marks wanted)

  -- one of its locations is installed
  abbrev pub is_placed : Wishes → Bool
  is_placed w = has_location (places w.wanted) id (is_installed w.installed)

  has_id_of : (mark : ℕ × Bool) → is_it mark ≡ true → (mark.0 == id) ≡ true
  has_id_of mark is = (both_hold (mark.0 == id) mark.1 is).0

  -- what is found of each entry with this id is found of those that are listed
  among_listed : {X : Type 0} (q : X → Bool) (of_line : LineEntry → X) (of_function : FunctionEntry → X)
      → ((entry : LineEntry) → (entry.id == id) ≡ true → q (of_line entry) ≡ true)
      → ((entry : FunctionEntry) → (entry.id == id) ≡ true → q (of_function entry) ≡ true) → (wanted : Wanted)
      → is_listed wanted ≡ true
      → list_any q (flat_map (λ (list : List ℕ × List LineEntry). map of_line list.1) wanted.lists
      ++ map of_function wanted.functions) ≡ true
  among_listed q of_line of_function lines functions wanted is =
      list_any-append q (flat_map (λ (list : List ℕ × List LineEntry). map of_line list.1) wanted.lists)
      (map of_function wanted.functions)
      ∙ either (list_any is_it (flat_map line_marks wanted.lists))
      (list_any is_it (map function_mark wanted.functions)) _ _
      (sym (list_any-append is_it (flat_map line_marks wanted.lists) (map function_mark wanted.functions)) ∙ is)
      (any_flat is_it line_marks q (λ (list : List ℕ × List LineEntry). map of_line list.1)
      (λ list. any_mapped is_it line_mark q of_line (λ entry is. lines entry (has_id_of (line_mark entry) is)) list.1)
      wanted.lists)
      (any_mapped is_it function_mark q of_function (λ entry is. functions entry (has_id_of (function_mark entry) is))
      wanted.functions)

  abbrev has_it : VerifiedEntry → Bool
  has_it entry = entry.id == id

  -- it is verified
  listed_verified : (w : Wishes) → is_listed w.wanted ≡ true → is_placed w ≡ true → list_any has_it (verified w) ≡ true
  listed_verified w listed placed =
      any-fold (on (λ (entry : VerifiedEntry). entry.id) nat_cmp) has_it alike []
      (filter (is_verified w) (all_entries w.wanted))
      ∙ any_kept has_it (is_verified w) keeps (all_entries w.wanted)
      (among_listed has_it line_seen function_seen (λ entry is. is) (λ entry is. is) w.wanted listed)
    where
      alike : (one other : VerifiedEntry) → nat_cmp one.id other.id ≡ Equal → (one.id == id) ≡ (other.id == id)
      alike one other is = grind (arith, is)

      keeps : (entry : VerifiedEntry) → (entry.id == id) ≡ true → is_verified w entry ≡ true
      keeps entry is = ap (λ (id : ℕ). has_location (places w.wanted) id (is_installed w.installed))
          (eqb-true entry.id id is) ∙ placed

  -- and is news, unless it was told
  pub verified_news : (below : ℕ) (ids : List ℕ) (w : Wishes) → is_listed w.wanted ≡ true → is_placed w ≡ true
      → nat_lt id below ≡ true → has_id ids id ≡ false → list_any has_it (newly_verified below ids w) ≡ true
  verified_news below ids w listed placed less new =
      any_kept has_it (is_news below ids) keeps (verified w) (listed_verified w listed placed)
    where
      is_new : (other : ℕ) → id ≡ other → is_news below ids (record { id = id; line = None }) ≡ true
      is_new other same = grind (arith, less, new)

      keeps : (entry : VerifiedEntry) → (entry.id == id) ≡ true → is_news below ids entry ≡ true
      keeps entry is = ap (λ (id : ℕ). is_news below ids (record { id = id; line = None })) (eqb-true entry.id id is)
          ∙ is_new id refl

  -- it stands as verified
  pub stands_verified : (w : Wishes) → is_listed w.wanted ≡ true → is_placed w ≡ true → state_of w id ≡ Some Verified
  stands_verified w listed placed =
      rw (
        among_listed (λ (other : ℕ). other == id) (λ (entry : LineEntry). entry.id)
            (λ (entry : FunctionEntry). entry.id) (λ entry is. is) (λ entry is. is) w.wanted listed,
        placed,
      ) refl

  -- what has a location is a plain breakpoint that is listed
  pub placed_listed : (wanted : Wanted) (test : Wish → Bool) → has_location (places wanted) id test ≡ true
      → is_listed wanted ≡ true
  placed_listed wanted test is =
      any_one at (places_in wanted) (is_listed wanted) (λ class found. in_class class class.1.prepared found)
      wanted.classes is
    where
      at : Place → Bool
      at place = (place.id == id) && test (wishes.Stop place.at)

      of_places : (other : ℕ) (line : Bool) (those : List Location)
          → list_any at (map (λ at. record { id = other; line = line; at = at }) those) ≡ true → (other == id) ≡ true
      of_places other line [] is = cc
      of_places other line (one ∷ those) is = grind (arith, is, of_places other line those)

      -- an entry of either kind
      of_entry : (other : ℕ) (line : Bool) (those : List Location) (plain : Bool)
          → list_any at (cond plain (map (λ at. record { id = other; line = line; at = at }) those) []) ≡ true
          → is_it (other, plain) ≡ true
      of_entry other line those true is = rw (of_places other line those is) refl
      of_entry other line those false is = cc

      of_entries : {X : Type 0} (those : X → List Place) (mark : X → ℕ × Bool)
          → ((entry : X) → list_any at (those entry) ≡ true → is_it (mark entry) ≡ true) → (entries : List X)
          → list_any at (flat_map those entries) ≡ true → list_any is_it (map mark entries) ≡ true
      of_entries those mark each [] is = cc
      of_entries those mark each (entry ∷ entries) is =
          either (list_any at (those entry)) (list_any at (flat_map those entries)) (is_it (mark entry))
          (list_any is_it (map mark entries)) (sym (list_any-append at (those entry) (flat_map those entries)) ∙ is)
          (each entry) (of_entries those mark each entries)

      of_list : (class : ClassId) (facts : KnownClass) (list : List ℕ × List LineEntry) (its : Bool)
          → list_any at (cond its (flat_map (entry_places class facts) list.1) []) ≡ true
          → list_any is_it (line_marks list) ≡ true
      of_list class facts list true is =
          of_entries (entry_places class facts) line_mark
          (λ entry. of_entry entry.id true (line_locations class facts entry.line) entry.plain) list.1 is
      of_list class facts list false is = cc

      in_class : (class : ClassId × KnownClass) (prepared : Bool)
          → list_any at (cond prepared (flat_map (list_places class.0 class.1) wanted.lists
          ++ flat_map (function_places class.0 class.1) wanted.functions) []) ≡ true → is_listed wanted ≡ true
      in_class class true is =
          list_any-append is_it (flat_map line_marks wanted.lists) (map function_mark wanted.functions)
          ∙ either (list_any at (flat_map (list_places class.0 class.1) wanted.lists))
          (list_any at (flat_map (function_places class.0 class.1) wanted.functions)) _ _
          (sym (list_any-append at (flat_map (list_places class.0 class.1) wanted.lists)
          (flat_map (function_places class.0 class.1) wanted.functions)) ∙ is)
          (any_flat at (list_places class.0 class.1) is_it line_marks
          (λ list found. of_list class.0 class.1 list _ found) wanted.lists)
          (of_entries (function_places class.0 class.1) function_mark
          (λ entry. of_entry entry.id false (function_locations class.0 class.1 entry.name) entry.plain)
          wanted.functions)
      in_class class false is = cc
