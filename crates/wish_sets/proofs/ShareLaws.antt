-- What is wanted is the sum of its parts: how often each wish is wished changes by the share of a list, of the
-- functions or of a class.
use Rattle.std.proofs.Common.{◌≡◌, ℕ, zero, suc, ◌+◌, ◌<◌, Bool, true, false, cond, List, [], ◌∷◌, ◌++◌, refl, ap, sym, ◌∙◌, subst}
use Rattle.std.proofs.Common.{Option, Some, None, get_or, arith, length, length-append}
use Rattle.std.specs.Prelude.{◌||◌, bytes_eq, filter, flat_map, map, nat_lt}
use Rattle.std.specs.List.{position_from}
use Rattle.std.specs.Map.{lookup}
use Rattle.std.proofs.lemmas.Bool.{eqb-true}
use Rattle.std.proofs.lemmas.Slice.Eq.{bytes_eq-Decides}
use Rattle.class_tables.specs.Facts.{same_class}
use Rattle.class_tables.specs.Tables.{put}
use Rattle.jdwp_values.specs.declared.id.ClassId.{ClassId}
use Rattle.jdwp_values.specs.declared.location.Location.{Location}
use Rattle.wish_sets.specs.declared.entry.FunctionEntry.{FunctionEntry}
use Rattle.wish_sets.specs.declared.entry.LineEntry.{LineEntry}
use Rattle.wish_sets.specs.declared.facts.KnownClass.{KnownClass}
use Rattle.wish_sets.specs.declared.wish.Wish.{Wish}
use Rattle.wish_sets.specs.declared.wish.Wish.TheVariants as wishes
use Rattle.wish_sets.specs.Counts.{entry_wishes, list_entry_watches, times, wishers, stops_at, list_places_in, list_share}
use Rattle.wish_sets.specs.Counts.{listed_share, function_places_in, function_share, class_share, option_share}
use Rattle.wish_sets.specs.Counts.{class_stops, AreEarly, IsShift, IsTold}
use Rattle.wish_sets.specs.Forming.{list_watches, function_watches}
use Rattle.wish_sets.specs.Kept.{listed_wishes}
use Rattle.wish_sets.specs.Names.{has_class, key_parts, package_name, package_named}
use Rattle.wish_sets.specs.Order.{has_wish, is_wish, wish_cmp, wish_rank}
use Rattle.wish_sets.specs.Places.{Place, list_places, function_places, places_in, places}
use Rattle.wish_sets.specs.Wanted.{Wanted, nothing_wanted, with_lines, with_functions}
use Rattle.wish_sets.specs.Wished.{has_entries, wished}
use Rattle.wish_sets.proofs.CountLaws.{times-append, times-has}
use Rattle.wish_sets.proofs.FirstLaws.{place_above}
use Rattle.wish_sets.proofs.FormingLaws.{listed_are}
use Rattle.wish_sets.proofs.KeptLaws.{Early, each-append}
use Rattle.wish_sets.proofs.OrderLaws.{any-fold}
use Rattle.wish_sets.proofs.WantedLaws.{has_early}
use Rattle.wish_sets.proofs.WatchLaws.{has-append}
use Rattle.wish_sets.proofs.WishLaws.{alike}

-- Values under keys ---------------------------------------------------------------------------------------------------

-- what stands at the place of a key is under it
pub looked_up : {K V : Type 0} (same : K → K → Bool) (key : K) (n : ℕ) (xs : List (K × V)) (k : ℕ) (d : K × V)
    → position_from (λ (x : K × V). same key x.0) n xs ≡ Some (n + k) → lookup (same key) xs ≡ Some (get_or xs k d).1
looked_up same key n [] k d e = absurd (cc)
looked_up {K} {V} same key n (x ∷ xs) k d e = by (same key x.0) k e (λ j. looked_up same key (n + 1) xs j d)
  where
    by : (b : Bool) (k : ℕ)
        → cond b (Some n) (position_from (λ (x : K × V). same key x.0) (n + 1) xs) ≡ Some (n + k)
        → ((j : ℕ) → position_from (λ (x : K × V). same key x.0) (n + 1) xs ≡ Some (n + 1 + j)
        → lookup (same key) xs ≡ Some (get_or xs j d).1)
        → cond b (Some x.1) (lookup (same key) xs) ≡ Some (get_or (x ∷ xs) k d).1
    by true zero e again = refl
    by true (suc k) e again = absurd (let h : n ≡ n + suc k = cc in omega (arith, h))
    by false zero e again =
        absurd (let h = place_above (λ (x : K × V). same key x.0) (n + 1) xs (n + 0) e in omega (arith, h))
    by false (suc k) e again = let to : n + suc k ≡ n + 1 + k = omega arith in again k (e ∙ ap Some to)

pub nowhere : {K V : Type 0} (same : K → K → Bool) (key : K) (n : ℕ) (xs : List (K × V))
    → position_from (λ (x : K × V). same key x.0) n xs ≡ None → lookup (same key) xs ≡ None
nowhere same key n [] e = refl
nowhere {K} {V} same key n (x ∷ xs) e = by (same key x.0) e (nowhere same key (n + 1) xs)
  where
    by : (b : Bool) → cond b (Some n) (position_from (λ (x : K × V). same key x.0) (n + 1) xs) ≡ None
        → (position_from (λ (x : K × V). same key x.0) (n + 1) xs ≡ None → lookup (same key) xs ≡ None)
        → cond b (Some x.1) (lookup (same key) xs) ≡ None
    by true e again = absurd (cc)
    by false e again = again e

-- Sums ----------------------------------------------------------------------------------------------------------------

stops-append : (xs ys : List Place) → stops_at (xs ++ ys) ≡ stops_at xs ++ stops_at ys
stops-append [] ys = refl
stops-append (x ∷ xs) ys = ap (λ ws. wishes.Stop x.at ∷ ws) (stops-append xs ys)

module _ (wish : Wish) where
  abbrev stopped : List Place → ℕ
  stopped those = times wish (stops_at those)

  stopped-append : (xs ys : List Place) → stopped (xs ++ ys) ≡ stopped xs + stopped ys
  stopped-append xs ys = ap (times wish) (stops-append xs ys) ∙ times-append wish (stops_at xs) (stops_at ys)

  -- what each of some items gives more and less, they give together
  flat_law : {A : Type 0} (f g h k : A → List Place)
      → ((x : A) → stopped (f x) + stopped (g x) ≡ stopped (h x) + stopped (k x)) → (xs : List A)
      → stopped (flat_map f xs) + stopped (flat_map g xs) ≡ stopped (flat_map h xs) + stopped (flat_map k xs)
  flat_law f g h k each [] = refl
  flat_law f g h k each (x ∷ xs) =
      let here = each x in
      let rest = flat_law f g h k each xs in
      let a = stopped-append (f x) (flat_map f xs) in
      let b = stopped-append (g x) (flat_map g xs) in
      let c = stopped-append (h x) (flat_map h xs) in
      let d = stopped-append (k x) (flat_map k xs) in
      omega (arith, here, rest, a, b, c, d)

-- A value is put under a key: its share comes, and that of the value before goes.
module _ {K V B : Type 0} (same : K → K → Bool) (exact : (a b : K) → same a b ≡ true → a ≡ b) (key : K) (value : V)
    (share : K × V → List B) (size : List B → ℕ) (none : size [] ≡ 0)
    (joined : (xs ys : List B) → size (xs ++ ys) ≡ size xs + size ys) where
  abbrev pub share_before : Option V → List B
  share_before None = []
  share_before (Some before) = share (key, before)

  pub put_law : (entries : List (K × V))
      → size (flat_map share (put same key value entries)) + size (share_before (lookup (same key) entries))
      ≡ size (flat_map share entries) + size (share (key, value))
  put_law [] = let a = joined (share (key, value)) [] in omega (arith, a, none)
  put_law (entry ∷ entries) = by (same key entry.0) refl (put_law entries)
    where
      by : (b : Bool) → same key entry.0 ≡ b
          → size (flat_map share (put same key value entries)) + size (share_before (lookup (same key) entries))
          ≡ size (flat_map share entries) + size (share (key, value))
          → size (flat_map share (cond b ((entry.0, value) ∷ entries) (entry ∷ put same key value entries)))
          + size (share_before (cond b (Some entry.1) (lookup (same key) entries)))
          ≡ size (share entry ++ flat_map share entries) + size (share (key, value))
      by true e again =
          let is : key ≡ entry.0 = exact key entry.0 e in
          let now : size (share (key, value)) ≡ size (share (entry.0, value)) = ap (λ k. size (share (k, value))) is in
          let was : size (share (key, entry.1)) ≡ size (share entry) = ap (λ k. size (share (k, entry.1))) is in
          let a = joined (share (entry.0, value)) (flat_map share entries) in
          let b = joined (share entry) (flat_map share entries) in
          omega (arith, now, was, a, b)
      by false e again =
          let a = joined (share entry) (flat_map share (put same key value entries)) in
          let b = joined (share entry) (flat_map share entries) in
          omega (arith, again, a, b)

exact_text : (a b : List ℕ) → bytes_eq a b ≡ true → a ≡ b
exact_text a b e = (bytes_eq-Decides a b).0 e

exact_class : (a b : ClassId) → same_class a b ≡ true → a ≡ b
exact_class a b e = ap (λ (n : ℕ). record { 0 = n }) (eqb-true a.0 b.0 e)

-- The parts of what is wished -----------------------------------------------------------------------------------------

module _ (wish : Wish) where
  wishers_are : (wanted : Wanted) → wishers wish wanted ≡ times wish (wishes.ThreadStart ∷ wishes.ThreadDeath ∷ [])
      + (times wish (flat_map list_entry_watches wanted.lists)
      + (times wish (function_watches wanted.functions) + times wish (stops_at (places wanted))))
  wishers_are wanted =
      let front = wishes.ThreadStart ∷ wishes.ThreadDeath ∷ [] in
      let lists = flat_map list_entry_watches wanted.lists in
      let functions = function_watches wanted.functions in
      let stops = stops_at (places wanted) in
      let a = times-append wish front (lists ++ (functions ++ stops)) in
      let b = times-append wish lists (functions ++ stops) in
      let c = times-append wish functions stops in
      omega (arith, a, b, c)

  -- Lists

  module _ (key : List ℕ) (entries : List LineEntry) (wanted : Wanted) where
    abbrev listed : Option (List LineEntry)
    listed = lookup (bytes_eq key) wanted.lists

    abbrev places_before : Option (List LineEntry) → ClassId × KnownClass → List Place
    places_before None class = []
    places_before (Some before) class = list_places_in (key, before) class

    nothing_before : (classes : List (ClassId × KnownClass)) → stopped wish (flat_map (places_before None) classes) ≡ 0
    nothing_before [] = refl
    nothing_before (class ∷ classes) = nothing_before classes

    share_before_is : (o : Option (List LineEntry))
        → times wish (share_before bytes_eq exact_text key entries list_entry_watches (times wish) refl
        (times-append wish) o)
        + stopped wish (flat_map (places_before o) wanted.classes)
        ≡ times wish (listed_share wanted.classes key o)
    share_before_is None = let a = nothing_before wanted.classes in omega (arith, a)
    share_before_is (Some before) =
        sym (times-append wish (list_entry_watches (key, before))
        (stops_at (flat_map (list_places_in (key, before)) wanted.classes)))

    in_class : (class : ClassId × KnownClass)
        → stopped wish (places_in (with_lines key entries wanted) class) + stopped wish (places_before listed class)
        ≡ stopped wish (places_in wanted class) + stopped wish (list_places_in (key, entries) class)
    in_class class =
        ap (λ n. stopped wish (places_in (with_lines key entries wanted) class) + n)
        (ap (stopped wish) (is_old listed))
        ∙ by class.1.prepared
      where
        old_in : Bool → Option (List LineEntry) → List Place
        old_in b None = []
        old_in b (Some before) = cond b (list_places class.0 class.1 (key, before)) []

        is_old : (o : Option (List LineEntry)) → places_before o class ≡ old_in class.1.prepared o
        is_old None = refl
        is_old (Some before) = refl

        law : stopped wish (flat_map (list_places class.0 class.1) (put bytes_eq key entries wanted.lists))
            + stopped wish (share_before bytes_eq exact_text key entries (list_places class.0 class.1) (stopped wish)
            refl (stopped-append wish) listed)
            ≡ stopped wish (flat_map (list_places class.0 class.1) wanted.lists)
            + stopped wish (list_places class.0 class.1 (key, entries))
        law = put_law bytes_eq exact_text key entries (list_places class.0 class.1) (stopped wish) refl
            (stopped-append wish) wanted.lists

        before_is : (o : Option (List LineEntry))
            → share_before bytes_eq exact_text key entries (list_places class.0 class.1) (stopped wish)
            refl (stopped-append wish) o ≡ old_in true o
        before_is None = refl
        before_is (Some before) = refl

        none_in : (o : Option (List LineEntry)) → stopped wish (old_in false o) ≡ 0
        none_in None = refl
        none_in (Some before) = refl

        functions : List Place
        functions = flat_map (function_places class.0 class.1) wanted.functions

        by : (b : Bool)
            → stopped wish (cond b (flat_map (list_places class.0 class.1) (put bytes_eq key entries wanted.lists)
            ++ functions) []) + stopped wish (old_in b listed)
            ≡ stopped wish (cond b (flat_map (list_places class.0 class.1) wanted.lists ++ functions) [])
            + stopped wish (cond b (list_places class.0 class.1 (key, entries)) [])
        by true =
            let a = stopped-append wish (flat_map (list_places class.0 class.1)
            (put bytes_eq key entries wanted.lists)) functions in
            let b = stopped-append wish (flat_map (list_places class.0 class.1) wanted.lists) functions in
            let c = ap (stopped wish) (before_is listed) in
            let d = law in
            omega (arith, a, b, c, d)
        by false = let a = none_in listed in omega (arith, a)

    pub lines_shift : wishers wish (with_lines key entries wanted) + times wish (listed_share wanted.classes key listed)
        ≡ wishers wish wanted + times wish (list_share wanted.classes (key, entries))
    lines_shift =
        let after = wishers_are (with_lines key entries wanted) in
        let before = wishers_are wanted in
        let lists = put_law bytes_eq exact_text key entries list_entry_watches (times wish) refl (times-append wish)
        wanted.lists in
        let classes = flat_law wish (places_in (with_lines key entries wanted)) (places_before listed)
        (places_in wanted) (list_places_in (key, entries)) in_class wanted.classes in
        let old = share_before_is listed in
        let new = times-append wish (list_entry_watches (key, entries))
        (stops_at (flat_map (list_places_in (key, entries)) wanted.classes)) in
        omega (arith, after, before, lists, classes, old, new)

  -- Functions

  module _ (entries : List FunctionEntry) (wanted : Wanted) where
    functions_in_class : (class : ClassId × KnownClass)
        → stopped wish (places_in (with_functions entries wanted) class)
        + stopped wish (function_places_in wanted.functions class)
        ≡ stopped wish (places_in wanted class) + stopped wish (function_places_in entries class)
    functions_in_class class = by class.1.prepared
      where
        lists : List Place
        lists = flat_map (list_places class.0 class.1) wanted.lists

        old : List Place
        old = flat_map (function_places class.0 class.1) wanted.functions

        new : List Place
        new = flat_map (function_places class.0 class.1) entries

        by : (b : Bool) → stopped wish (cond b (lists ++ new) []) + stopped wish (cond b old [])
            ≡ stopped wish (cond b (lists ++ old) []) + stopped wish (cond b new [])
        by true =
            let a = stopped-append wish lists new in
            let b = stopped-append wish lists old in
            omega (arith, a, b)
        by false = refl

    pub functions_shift : wishers wish (with_functions entries wanted)
        + times wish (function_share wanted.classes wanted.functions)
        ≡ wishers wish wanted + times wish (function_share wanted.classes entries)
    functions_shift =
        let after = wishers_are (with_functions entries wanted) in
        let before = wishers_are wanted in
        let classes = flat_law wish (places_in (with_functions entries wanted)) (function_places_in wanted.functions)
        (places_in wanted) (function_places_in entries) functions_in_class wanted.classes in
        let old = times-append wish (function_watches wanted.functions)
        (stops_at (flat_map (function_places_in wanted.functions) wanted.classes)) in
        let new = times-append wish (function_watches entries)
        (stops_at (flat_map (function_places_in entries) wanted.classes)) in
        omega (arith, after, before, classes, old, new)

  -- Classes

  option_share_is : (wanted : Wanted) (class : ClassId) (facts : KnownClass) (o : Option KnownClass)
      → stopped wish (share_before same_class exact_class class facts (places_in wanted) (stopped wish) refl
      (stopped-append wish) o) ≡ times wish (option_share wanted class o)
  option_share_is wanted class facts None = refl
  option_share_is wanted class facts (Some before) = refl

  pub class_shift : (wanted : Wanted) (class : ClassId) (facts : KnownClass) (known : List (ClassId × KnownClass))
      → times wish (class_stops wanted (put same_class class facts known))
      + times wish (option_share wanted class (lookup (same_class class) known))
      ≡ times wish (class_stops wanted known) + times wish (class_share wanted (class, facts))
  class_shift wanted class facts known =
      let law = put_law same_class exact_class class facts (places_in wanted) (stopped wish) refl
      (stopped-append wish) known in
      let is = option_share_is wanted class facts (lookup (same_class class) known) in
      omega (arith, law, is)

  -- other classes are known
  pub classes_shift : (wanted : Wanted) (classes : List (ClassId × KnownClass)) (added taken : List Wish)
      → times wish (class_stops wanted classes) + times wish taken
      ≡ times wish (class_stops wanted wanted.classes) + times wish added
      → wishers wish (record wanted { classes = classes }) + times wish taken ≡ wishers wish wanted + times wish added
  classes_shift wanted classes added taken law =
      let after = wishers_are (record wanted { classes = classes }) in
      let before = wishers_are wanted in
      omega (arith, after, before, law)

-- What is wished is what is wished more than never -------------------------------------------------------------------

entries_watch : (list : List ℕ × List LineEntry) (wish : Wish) (rest : List Wish)
    → has_wish (list_entry_watches list ++ rest) wish
    ≡ has_wish (cond (has_entries list) (wishes.Watch (package_name (key_parts list.0).package_path) ∷ rest) rest) wish
entries_watch list wish rest = by list.1
  where
    watch : Wish
    watch = wishes.Watch (package_name (key_parts list.0).package_path)

    absorbs : (a b : Bool) → (a || (a || b)) ≡ (a || b)
    absorbs true b = refl
    absorbs false b = refl

    more : (entries : List LineEntry) (entry : LineEntry)
        → has_wish (map (λ (entry : LineEntry). watch) (entry ∷ entries) ++ rest) wish
        ≡ has_wish (watch ∷ rest) wish
    more [] entry = refl
    more (next ∷ entries) entry =
        ap (λ b. is_wish wish watch || b) (more entries next)
        ∙ absorbs (is_wish wish watch) (has_wish rest wish)

    by : (entries : List LineEntry)
        → has_wish (map (λ (entry : LineEntry). watch) entries ++ rest) wish
        ≡ has_wish (cond (Rattle.wish_sets.specs.Wished.is_filled entries) (watch ∷ rest) rest) wish
    by [] = refl
    by (entry ∷ entries) = more entries entry

lists_watch : (lists : List (List ℕ × List LineEntry)) (wish : Wish)
    → has_wish (flat_map list_entry_watches lists) wish ≡ has_wish (list_watches lists) wish
lists_watch [] wish = refl
lists_watch (list ∷ lists) wish =
    has-append wish (list_entry_watches list) (flat_map list_entry_watches lists)
    ∙ (ap (λ b. has_wish (list_entry_watches list) wish || b) (lists_watch lists wish)
    ∙ (sym (has-append wish (list_entry_watches list) (list_watches lists))
    ∙ (entries_watch list wish (list_watches lists) ∙ by (has_entries list))))
  where
    by : (b : Bool)
        → has_wish (cond b (wishes.Watch (package_name (key_parts list.0).package_path) ∷ list_watches lists)
        (list_watches lists)) wish
        ≡ has_wish (map (λ (list : List ℕ × List LineEntry). wishes.Watch (package_name (key_parts list.0).package_path))
        (cond b (list ∷ filter has_entries lists) (filter has_entries lists))) wish
    by true = refl
    by false = refl

pub listed_counted : (wanted : Wanted) (wish : Wish)
    → has_wish (listed_wishes wanted) wish ≡ nat_lt 0 (wishers wish wanted)
listed_counted wanted wish =
    ap (λ ws. has_wish ws wish) (sym (listed_are wanted))
    ∙ (has-append wish ((front ++ list_watches wanted.lists) ++ function_watches wanted.functions)
    (stops_at (places wanted))
    ∙ (ap (λ b. b || has_wish (stops_at (places wanted)) wish)
    (has-append wish (front ++ list_watches wanted.lists) (function_watches wanted.functions)
    ∙ ap (λ b. b || has_wish (function_watches wanted.functions) wish)
    (has-append wish front (list_watches wanted.lists)
    ∙ ap (λ b. has_wish front wish || b) (sym (lists_watch wanted.lists wish))))
    ∙ (turn (has_wish front wish) (has_wish lists wish) (has_wish (function_watches wanted.functions) wish)
    (has_wish (stops_at (places wanted)) wish)
    ∙ (sym (has-append wish front (lists ++ (function_watches wanted.functions ++ stops_at (places wanted)))
    ∙ ap (λ b. has_wish front wish || b)
    (has-append wish lists (function_watches wanted.functions ++ stops_at (places wanted))
    ∙ ap (λ b. has_wish lists wish || b)
    (has-append wish (function_watches wanted.functions) (stops_at (places wanted)))))
    ∙ sym (times-has wish (entry_wishes wanted))))))
  where
    front : List Wish
    front = wishes.ThreadStart ∷ wishes.ThreadDeath ∷ []

    lists : List Wish
    lists = flat_map list_entry_watches wanted.lists

    turn : (a b c d : Bool) → (((a || b) || c) || d) ≡ (a || (b || (c || d)))
    turn true b c d = refl
    turn false true c d = refl
    turn false false true d = refl
    turn false false false d = refl

-- Shares are early ----------------------------------------------------------------------------------------------------

pub stops_at_early : (those : List Place) → AreEarly (stops_at those)
stops_at_early [] = tt
stops_at_early (place ∷ those) = (omega arith, stops_at_early those)

watches_early : (watch : List ℕ) (entries : List LineEntry)
    → AreEarly (map (λ (entry : LineEntry). wishes.Watch watch) entries)
watches_early watch [] = tt
watches_early watch (entry ∷ entries) = (omega arith, watches_early watch entries)

functions_early : (functions : List FunctionEntry) → AreEarly (function_watches functions)
functions_early [] = tt
functions_early (entry ∷ functions) = by (has_class entry.name) (functions_early functions)
  where
    by : (b : Bool) → AreEarly (function_watches functions)
        → AreEarly (map (λ (entry : FunctionEntry). wishes.Watch (package_named entry.name))
        (cond b (entry ∷ filter (λ (entry : FunctionEntry). has_class entry.name) functions)
        (filter (λ (entry : FunctionEntry). has_class entry.name) functions)))
    by true rest = (omega arith, rest)
    by false rest = rest

pub list_share_early : (classes : List (ClassId × KnownClass)) (list : List ℕ × List LineEntry)
    → AreEarly (list_share classes list)
list_share_early classes list =
    each-append Early (list_entry_watches list) (stops_at (flat_map (list_places_in list) classes))
    (watches_early (package_name (key_parts list.0).package_path) list.1)
    (stops_at_early (flat_map (list_places_in list) classes))

pub function_share_early : (classes : List (ClassId × KnownClass)) (functions : List FunctionEntry)
    → AreEarly (function_share classes functions)
function_share_early classes functions =
    each-append Early (function_watches functions) (stops_at (flat_map (function_places_in functions) classes))
    (functions_early functions) (stops_at_early (flat_map (function_places_in functions) classes))

-- Classes are made known ----------------------------------------------------------------------------------------------

-- nothing is known that wasn't
pub told_same : (wanted : Wanted) (known : List (ClassId × KnownClass)) (added taken : List Wish)
    → IsTold wanted known known added added taken taken
told_same wanted known added taken = record {
  numbers = λ wish. refl;
  more = omega arith;
  less = omega arith;
  same = λ e f. refl;
}

-- what adds nothing is nothing
nothing_more : (those more : List Wish) → length (those ++ more) ≡ length those → more ≡ []
nothing_more those [] e = refl
nothing_more those (wish ∷ more) e =
    absurd (let all = length-append those (wish ∷ more) in omega (arith, e, all))

no_places : (those : List Place) → stops_at those ≡ [] → those ≡ []
no_places [] e = refl
no_places (place ∷ those) e = absurd (cc)

no_share : (wanted : Wanted) (class : ClassId) (o : Option KnownClass) → option_share wanted class o ≡ []
    → (before : KnownClass) → o ≡ Some before → places_in wanted (class, before) ≡ []
no_share wanted class None e before f = absurd (cc)
no_share wanted class (Some facts) e before f =
    let is : facts ≡ before = cc in
    ap (λ (k : KnownClass). places_in wanted (class, k)) (sym is) ∙ no_places (places_in wanted (class, facts)) e

-- a class without places takes the place of one without places
put_nothing : (wanted : Wanted) (class : ClassId) (facts : KnownClass) → places_in wanted (class, facts) ≡ []
    → (known : List (ClassId × KnownClass))
    → ((before : KnownClass) → lookup (same_class class) known ≡ Some before → places_in wanted (class, before) ≡ [])
    → flat_map (places_in wanted) (put same_class class facts known) ≡ flat_map (places_in wanted) known
put_nothing wanted class facts none [] old = rw none refl
put_nothing wanted class facts none (entry ∷ known) old =
    by (same_class class entry.0) refl old (put_nothing wanted class facts none known)
  where
    by : (b : Bool) → same_class class entry.0 ≡ b
        → ((before : KnownClass) → cond b (Some entry.1) (lookup (same_class class) known) ≡ Some before
        → places_in wanted (class, before) ≡ [])
        → (((before : KnownClass) → lookup (same_class class) known ≡ Some before
        → places_in wanted (class, before) ≡ [])
        → flat_map (places_in wanted) (put same_class class facts known) ≡ flat_map (places_in wanted) known)
        → flat_map (places_in wanted) (cond b ((entry.0, facts) ∷ known) (entry ∷ put same_class class facts known))
        ≡ flat_map (places_in wanted) (entry ∷ known)
    by true e old again =
        let is : class ≡ entry.0 = exact_class class entry.0 e in
        ap (λ those. those ++ flat_map (places_in wanted) known)
        (ap (λ c. places_in wanted (c, facts)) (sym is)
        ∙ (none ∙ (sym (old entry.1 refl) ∙ ap (λ c. places_in wanted (c, entry.1)) is)))
    by false e old again = ap (λ those. places_in wanted entry ++ those) (again old)

-- one class is
pub told_one : (wanted : Wanted) (class : ClassId) (facts : KnownClass) (known : List (ClassId × KnownClass))
    (added taken : List Wish) → IsTold wanted known (put same_class class facts known) added
    (added ++ class_share wanted (class, facts)) taken
    (taken ++ option_share wanted class (lookup (same_class class) known))
told_one wanted class facts known added taken = record {
  numbers = λ wish.
      let law = class_shift wish wanted class facts known in
      let a = times-append wish added (class_share wanted (class, facts)) in
      let b = times-append wish taken (option_share wanted class (lookup (same_class class) known)) in
      omega (arith, law, a, b);
  more = let all = length-append added (class_share wanted (class, facts)) in omega (arith, all);
  less = let all = length-append taken (option_share wanted class (lookup (same_class class) known)) in
      omega (arith, all);
  same = λ e f. put_nothing wanted class facts
      (no_places (places_in wanted (class, facts)) (nothing_more added (class_share wanted (class, facts)) e)) known
      (no_share wanted class (lookup (same_class class) known)
      (nothing_more taken (option_share wanted class (lookup (same_class class) known)) f));
}

-- one after the other
pub told-trans : (wanted : Wanted) (first second third : List (ClassId × KnownClass)) (a b c t u v : List Wish)
    → IsTold wanted first second a b t u → IsTold wanted second third b c u v → IsTold wanted first third a c t v
told-trans wanted first second third a b c t u v one other = record {
  numbers = λ wish. let x = one.numbers wish in let y = other.numbers wish in omega (arith, x, y);
  more = omega (arith, one.more, other.more);
  less = omega (arith, one.less, other.less);
  same = λ e f. other.same (omega (arith, e, one.more, other.more)) (omega (arith, f, one.less, other.less))
      ∙ one.same (omega (arith, e, one.more, other.more)) (omega (arith, f, one.less, other.less));
}

pub class_share_early : (wanted : Wanted) (class : ClassId × KnownClass) (those : List Wish) → AreEarly those
    → AreEarly (those ++ class_share wanted class)
class_share_early wanted class those all =
    each-append Early those (class_share wanted class) all (stops_at_early (places_in wanted class))

-- What is wanted changes by parts -------------------------------------------------------------------------------------

pub lines_are : (key : List ℕ) (entries : List LineEntry) (wanted : Wanted)
    (lists : List (List ℕ × List LineEntry)) (added taken : List Wish) → lists ≡ put bytes_eq key entries wanted.lists
    → added ≡ list_share wanted.classes (key, entries)
    → taken ≡ listed_share wanted.classes key (lookup (bytes_eq key) wanted.lists)
    → IsShift wanted (record wanted { lists = lists }) added taken
lines_are key entries wanted lists added taken e f g = record {
  numbers = λ wish. rw (e, f, g) (lines_shift wish key entries wanted);
}

pub functions_are : (entries : List FunctionEntry) (wanted : Wanted) (added taken : List Wish)
    → added ≡ function_share wanted.classes entries → taken ≡ function_share wanted.classes wanted.functions
    → IsShift wanted (record wanted { functions = entries }) added taken
functions_are entries wanted added taken f g = record {
  numbers = λ wish. rw (f, g) (functions_shift wish entries wanted);
}

pub classes_are : (wanted : Wanted) (lists : List (List ℕ × List LineEntry)) (functions : List FunctionEntry)
    (known : List (ClassId × KnownClass)) (added taken before_added before_taken : List Wish) → lists ≡ wanted.lists
    → functions ≡ wanted.functions
    → IsTold (record nothing_wanted { lists = lists; functions = functions }) wanted.classes known before_added added
    before_taken taken → before_added ≡ [] → before_taken ≡ []
    → IsShift wanted (record wanted { classes = known }) added taken
classes_are wanted lists functions known added taken before_added before_taken e f told none_added none_taken = record {
  numbers = λ wish.
      let now = subst (λ ls. IsTold (record nothing_wanted { lists = ls; functions = functions }) wanted.classes known
      before_added added before_taken taken) e told in
      let both = subst (λ fs. IsTold (record nothing_wanted { lists = wanted.lists; functions = fs }) wanted.classes
      known before_added added before_taken taken) f now in
      let law = both.numbers wish in
      let a = ap (times wish) none_added in
      let b = ap (times wish) none_taken in
      classes_shift wish wanted known added taken (omega (arith, law, a, b));
}

-- classes without places change no place
pub places_stay : (wanted : Wanted) (lists : List (List ℕ × List LineEntry)) (functions : List FunctionEntry)
    (known : List (ClassId × KnownClass)) (added taken before_added before_taken : List Wish) → lists ≡ wanted.lists
    → functions ≡ wanted.functions
    → IsTold (record nothing_wanted { lists = lists; functions = functions }) wanted.classes known before_added added
    before_taken taken → before_added ≡ [] → before_taken ≡ [] → added ≡ [] → taken ≡ []
    → places (record wanted { classes = known }) ≡ places wanted
places_stay wanted lists functions known added taken before_added before_taken e f told none no_less nothing nothing_less =
    let now = subst (λ ls. IsTold (record nothing_wanted { lists = ls; functions = functions }) wanted.classes known
    before_added added before_taken taken) e told in
    let both = subst (λ fs. IsTold (record nothing_wanted { lists = wanted.lists; functions = fs }) wanted.classes
    known before_added added before_taken taken) f now in
    both.same (ap length (nothing ∙ sym none)) (ap length (nothing_less ∙ sym no_less))

-- Other words for how many --------------------------------------------------------------------------------------------

-- what is wished is wished by an entry, but exceptions and the step
pub wished_counted : (wanted : Wanted) (wish : Wish) → wish_rank wish < 4
    → has_wish (wished wanted) wish ≡ nat_lt 0 (wishers wish wanted)
wished_counted wanted wish early =
    has_early wanted wish early
    ∙ (any-fold wish_cmp (is_wish wish) (alike wish) [] (listed_wishes wanted) ∙ listed_counted wanted wish)

module _ (at : Location) where
  abbrev is_there : Place → Bool
  is_there place = is_wish (wishes.Stop at) (wishes.Stop place.at)

  no_watch : (watch : List ℕ) (entries : List LineEntry)
      → times (wishes.Stop at) (map (λ (entry : LineEntry). wishes.Watch watch) entries) ≡ 0
  no_watch watch [] = refl
  no_watch watch (entry ∷ entries) = no_watch watch entries

  no_list_watch : (lists : List (List ℕ × List LineEntry))
      → times (wishes.Stop at) (flat_map list_entry_watches lists) ≡ 0
  no_list_watch [] = refl
  no_list_watch (list ∷ lists) =
      let all = times-append (wishes.Stop at) (list_entry_watches list) (flat_map list_entry_watches lists) in
      let here = no_watch (package_name (key_parts list.0).package_path) list.1 in
      let rest = no_list_watch lists in
      omega (arith, all, here, rest)

  no_function_watch : (functions : List FunctionEntry) → times (wishes.Stop at) (function_watches functions) ≡ 0
  no_function_watch [] = refl
  no_function_watch (entry ∷ functions) = by (has_class entry.name) (no_function_watch functions)
    where
      by : (b : Bool) → times (wishes.Stop at) (function_watches functions) ≡ 0
          → times (wishes.Stop at) (map (λ (entry : FunctionEntry). wishes.Watch (package_named entry.name))
          (cond b (entry ∷ filter (λ (entry : FunctionEntry). has_class entry.name) functions)
          (filter (λ (entry : FunctionEntry). has_class entry.name) functions))) ≡ 0
      by true e = e
      by false e = e

  stops_counted : (those : List Place) → times (wishes.Stop at) (stops_at those) ≡ length (filter is_there those)
  stops_counted [] = refl
  stops_counted (place ∷ those) = by (is_there place) (stops_counted those)
    where
      by : (b : Bool) → times (wishes.Stop at) (stops_at those) ≡ length (filter is_there those)
          → cond b (suc (times (wishes.Stop at) (stops_at those))) (times (wishes.Stop at) (stops_at those))
          ≡ length (cond b (place ∷ filter is_there those) (filter is_there those))
      by true e = ap suc e
      by false e = e

  -- a breakpoint is wished at each place that is there
  pub places_counted : (wanted : Wanted) → wishers (wishes.Stop at) wanted ≡ length (filter is_there (places wanted))
  places_counted wanted =
      let all = wishers_are (wishes.Stop at) wanted in
      let front : times (wishes.Stop at) (wishes.ThreadStart ∷ wishes.ThreadDeath ∷ []) ≡ 0 = refl in
      let lists = no_list_watch wanted.lists in
      let functions = no_function_watch wanted.functions in
      let stops = stops_counted (places wanted) in
      omega (arith, all, front, lists, functions, stops)
