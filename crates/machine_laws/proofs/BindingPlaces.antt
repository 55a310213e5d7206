-- Where breakpoints stand in a class: the lines of methods that don't count give them no places.
use Rattle.std.proofs.Common.{◌≡◌, Bool, true, false, List, [], ◌∷◌, Option, Some, None, refl, sym, ap, ◌∙◌, ℕ, cond}
use Rattle.std.proofs.Common.{◌||◌, ◌&&◌, ◌++◌}
use Rattle.std.specs.Option.{option_flatten}
use Rattle.std.specs.Prelude.{bytes_eq, filter, filter_map, flat_map, map}
use Rattle.std.specs.List.{AllByRecursion as All, cons_option, list_any}
use Rattle.std.proofs.lemmas.Slice.Eq.{bytes_eq-Decides}
use Rattle.class_tables.specs.Facts.{Known, same_method}
use Rattle.class_tables.specs.Lookups.{found_in}
use Rattle.class_tables.specs.Tables.{under}
use Rattle.class_tables.specs.Views.{Key}
use Rattle.class_tables.specs.declared.loaded.Loaded.{Loaded}
use Rattle.jdwp_values.specs.declared.class.LineTable.{LineTable}
use Rattle.jdwp_values.specs.declared.class.Method.{Method}
use Rattle.jdwp_values.specs.declared.id.ClassId.{ClassId}
use Rattle.jdwp_values.specs.declared.location.Location.{Location}
use Rattle.machine_model.specs.Classes.{counts, is_keyed}
use Rattle.machine_model.specs.State.{is_some}
use Rattle.machine_model.proofs.IdRows.{all_weak}
use Rattle.machine_laws.proofs.BindingGrows.{Grows}
use Rattle.wish_sets.specs.Names.{key_parts, method_named, names_class, same_key}
use Rattle.wish_sets.specs.Places.{entry_places, function_locations, function_places, key_by, key_of, list_places}
use Rattle.wish_sets.specs.Places.{method_location, places_in}
use Rattle.wish_sets.specs.Wanted.{Wanted, method_found, nothing_wanted}
use Rattle.wish_sets.specs.Wished.{has_entries, names}
use Rattle.wish_sets.specs.declared.entry.FunctionEntry.{FunctionEntry}
use Rattle.wish_sets.specs.declared.entry.LineEntry.{LineEntry}
use Rattle.wish_sets.specs.declared.facts.KnownClass.{KnownClass}
use Rattle.wish_sets.specs.declared.facts.KnownMethod.{KnownMethod}
use Rattle.wish_sets.specs.declared.place.Place.{Place}
use Rattle.std.proofs.lemmas.Bool.{or_left, or_right}

-- the lines of a method are known
abbrev pub HasLines : Known → ClassId → Method → Type 0
HasLines known class one = is_some (under same_method (class, one.id) known.lines) ≡ true

-- what is found of a class, with its source and these methods
abbrev pub as_found : Loaded → Option (List ℕ) → List KnownMethod → KnownClass
as_found loaded source methods = record {
  tag = loaded.tag;
  signature = loaded.signature;
  prepared = loaded.prepared;
  source = source;
  methods = methods;
}

-- Lists ---------------------------------------------------------------------------------------------------------------

-- what holds of those that pass a test holds of each that passes
all_passing : {A : Type 0} (Good : A → Type 0) (test : A → Bool) (list : List A) → All Good (filter test list)
    → All (λ (a : A). test a ≡ true → Good a) list
all_passing Good test [] h = tt
all_passing {A} Good test (a ∷ list) h = by_test (test a) refl h (all_passing Good test list)
  where
    by_test : (passes : Bool) → test a ≡ passes → All Good (cond passes (a ∷ filter test list) (filter test list))
        → (All Good (filter test list) → All (λ (a : A). test a ≡ true → Good a) list)
        → (test a ≡ true → Good a) × All (λ (a : A). test a ≡ true → Good a) list
    by_test true is h again = (λ so. h.0, again h.1)
    by_test false is h again = (λ so. absurd (let no : false ≡ true = sym is ∙ so in cc), again h)

-- bytes that are the same are so the other way round
bytes_swapped : (a b : List ℕ) → bytes_eq a b ≡ true → bytes_eq b a ≡ true
bytes_swapped a b is = (bytes_eq-Decides b a).1 (sym ((bytes_eq-Decides a b).0 is))

-- Sources -------------------------------------------------------------------------------------------------------------

-- a source that isn't listed has no breakpoints in a class
module _ (class : ClassId) (facts : KnownClass) where
  entries_none : (list : List ℕ × List LineEntry) (key : Key) → (has_entries list && same_key (key_parts list.0) key) ≡ false
      → cond (same_key (key_parts list.0) key) (flat_map (entry_places class facts) list.1) [] ≡ []
  entries_none (source, []) key unlisted = by_key (same_key (key_parts source) key)
    where
      none : List Place
      none = []

      by_key : (same : Bool) → cond same none none ≡ none
      by_key true = refl
      by_key false = refl
  entries_none (source, entry ∷ entries) key none = rw none refl

  list_none : (list : List ℕ × List LineEntry) (key : Option Key) → key_of facts ≡ key
      → is_keyed (record nothing_wanted { lists = list ∷ [] }) key ≡ false → list_places class facts list ≡ []
  list_none list None is none = rw is refl
  list_none list (Some key) is none = rw is (entries_none list key (only (has_entries list && same_key (key_parts list.0) key) none))
    where
      only : (b : Bool) → (b || false) ≡ false → b ≡ false
      only true is = cc
      only false is = refl

  lists_none : (lists : List (List ℕ × List LineEntry)) (key : Option Key) → key_of facts ≡ key
      → is_keyed (record nothing_wanted { lists = lists }) key ≡ false
      → flat_map (list_places class facts) lists ≡ []
  lists_none [] key is none = refl
  lists_none (list ∷ lists) None is none = rw (list_none list None is refl) (lists_none lists None is refl)
  lists_none (list ∷ lists) (Some key) is none =
      let (first, others) = neither (has_entries list && same_key (key_parts list.0) key) _ none in
      rw (list_none list (Some key) is (rw first refl)) (lists_none lists (Some key) is others)
    where
      neither : (a b : Bool) → (a || b) ≡ false → (a ≡ false) × (b ≡ false)
      neither true b is = cc
      neither false b is = (refl, is)

-- Functions -----------------------------------------------------------------------------------------------------------

module _ (known now : Known) (grows : Grows known now) where
  same_lines : (class : ClassId) (one : Method) → HasLines known class one
      → method_found (found_in now) class one ≡ method_found (found_in known) class one
  same_lines class one some = by_lines (under same_method (class, one.id) known.lines) refl some
    where
      by_lines : (lines : Option (Option LineTable)) → under same_method (class, one.id) known.lines ≡ lines
          → is_some lines ≡ true → method_found (found_in now) class one ≡ method_found (found_in known) class one
      by_lines None is some = cc
      by_lines (Some table) is some =
          ap (λ (lines : Option (Option LineTable)).
          record { id = one.id; name = one.name; lines = option_flatten lines })
          (grows.lines (class, one.id) table is ∙ sym is)

  same_methods : (class : ClassId) (methods : List Method) → All (λ one. true ≡ true → HasLines known class one) methods
      → map (method_found (found_in now) class) methods ≡ map (method_found (found_in known) class) methods
  same_methods class [] h = refl
  same_methods class (one ∷ methods) h =
      ap (λ (first : KnownMethod). first ∷ map (method_found (found_in now) class) methods)
      (same_lines class one (h.0 refl))
      ∙ ap (λ (others : List KnownMethod). method_found (found_in known) class one ∷ others)
      (same_methods class methods h.1)

  module _ (wanted : Wanted) (class : ClassId) (loaded : Loaded) (source : Option (List ℕ)) where
    -- a function that names the method stands where it stood
    same_location : (entry : FunctionEntry) (before after : List KnownMethod) (one : Method)
        → names_class loaded.signature entry.name ≡ true
        → (names loaded.signature (Some one.name) entry ≡ true → HasLines known class one)
        → method_location class (as_found loaded source after) (method_named entry.name) (method_found (found_in now) class one)
        ≡ method_location class (as_found loaded source before) (method_named entry.name) (method_found (found_in known) class one)
    same_location entry before after one named h = by_name (bytes_eq (method_named entry.name) one.name) refl
      where
        by_name : (is : Bool) → bytes_eq (method_named entry.name) one.name ≡ is
            → method_location class (as_found loaded source after) (method_named entry.name) (method_found (found_in now) class one)
            ≡ method_location class (as_found loaded source before) (method_named entry.name)
            (method_found (found_in known) class one)
        by_name true is = ap (method_location class (as_found loaded source before) (method_named entry.name))
            (same_lines class one
            (h (rw (named, bytes_swapped (method_named entry.name) one.name is) refl)))
        by_name false is = rw is refl

    same_locations : (entry : FunctionEntry) (before after : List KnownMethod) (methods : List Method)
        → names_class loaded.signature entry.name ≡ true
        → All (λ one. names loaded.signature (Some one.name) entry ≡ true → HasLines known class one) methods
        → filter_map (method_location class (as_found loaded source after) (method_named entry.name))
        (map (method_found (found_in now) class) methods)
        ≡ filter_map (method_location class (as_found loaded source before) (method_named entry.name))
        (map (method_found (found_in known) class) methods)
    same_locations entry before after [] named h = refl
    same_locations entry before after (one ∷ methods) named h =
        ap (λ found. cons_option found (filter_map (method_location class (as_found loaded source after) (method_named entry.name))
        (map (method_found (found_in now) class) methods))) (same_location entry before after one named h.0)
        ∙ ap (cons_option (method_location class (as_found loaded source before) (method_named entry.name)
        (method_found (found_in known) class one))) (same_locations entry before after methods named h.1)

    -- where a function is bound
    abbrev stands : FunctionEntry → Location → Place
    stands entry at = record { id = entry.id; line = false; at = at }

    same_function : (entry : FunctionEntry) (methods : List Method)
        → All (λ one. names loaded.signature (Some one.name) entry ≡ true → HasLines known class one) methods
        → function_places class (as_found loaded source (map (method_found (found_in now) class) methods)) entry
        ≡ function_places class (as_found loaded source (map (method_found (found_in known) class) methods)) entry
    same_function entry methods h = by_plain entry.plain (by_named (names_class loaded.signature entry.name) refl)
      where
        by_named : (is : Bool) → names_class loaded.signature entry.name ≡ is
            → function_locations class (as_found loaded source (map (method_found (found_in now) class) methods)) entry.name
            ≡ function_locations class (as_found loaded source (map (method_found (found_in known) class) methods)) entry.name
        by_named true is = rw is (same_locations entry (map (method_found (found_in known) class) methods)
            (map (method_found (found_in now) class) methods) methods is h)
        by_named false is = rw is refl

        by_plain : (plain : Bool)
            → function_locations class (as_found loaded source (map (method_found (found_in now) class) methods)) entry.name
            ≡ function_locations class (as_found loaded source (map (method_found (found_in known) class) methods)) entry.name
            → cond plain (map (stands entry)
            (function_locations class (as_found loaded source (map (method_found (found_in now) class) methods)) entry.name)) []
            ≡ cond plain (map (stands entry)
            (function_locations class (as_found loaded source (map (method_found (found_in known) class) methods)) entry.name)) []
        by_plain true same = ap (map (stands entry)) same
        by_plain false same = refl

    same_functions : (functions : List FunctionEntry) (methods : List Method)
        → All (λ one. list_any (names loaded.signature (Some one.name)) functions ≡ true → HasLines known class one)
        methods
        → flat_map (function_places class (as_found loaded source (map (method_found (found_in now) class) methods))) functions
        ≡ flat_map (function_places class (as_found loaded source (map (method_found (found_in known) class) methods))) functions
    same_functions [] methods h = refl
    same_functions (entry ∷ functions) methods h =
        ap (λ (first : List Place). first
        ++ flat_map (function_places class (as_found loaded source (map (method_found (found_in now) class) methods))) functions)
        (same_function entry methods (all_weak
        (λ one. list_any (names loaded.signature (Some one.name)) (entry ∷ functions) ≡ true → HasLines known class one)
        (λ one. names loaded.signature (Some one.name) entry ≡ true → HasLines known class one)
        (λ one has is. has (or_left _ _ is)) methods h))
        ∙ ap (λ (others : List Place).
        function_places class (as_found loaded source (map (method_found (found_in known) class) methods)) entry ++ others)
        (same_functions functions methods (all_weak
        (λ one. list_any (names loaded.signature (Some one.name)) (entry ∷ functions) ≡ true → HasLines known class one)
        (λ one. list_any (names loaded.signature (Some one.name)) functions ≡ true → HasLines known class one)
        (λ one has is. has (or_right (names loaded.signature (Some one.name) entry) _ is)) methods h))

    pub same_places : (methods : List Method) → All (HasLines known class)
        (filter (counts (is_keyed wanted (key_by loaded.signature source)) wanted loaded.signature) methods)
        → places_in wanted (class, as_found loaded source (map (method_found (found_in now) class) methods))
        ≡ places_in wanted (class, as_found loaded source (map (method_found (found_in known) class) methods))
    same_places methods h = by_keyed (is_keyed wanted (key_by loaded.signature source)) refl h
      where
        by_prepared : (prepared : Bool) (lists others functions more : List Place) → lists ≡ others
            → functions ≡ more → cond prepared (lists ++ functions) [] ≡ cond prepared (others ++ more) []
        by_prepared true lists others functions more first second =
            ap (λ (places : List Place). places ++ functions) first ∙ ap (λ (places : List Place). others ++ places) second
        by_prepared false lists others functions more first second = refl

        by_keyed : (keyed : Bool) → is_keyed wanted (key_by loaded.signature source) ≡ keyed
            → All (HasLines known class) (filter (counts keyed wanted loaded.signature) methods)
            → places_in wanted (class, as_found loaded source (map (method_found (found_in now) class) methods))
            ≡ places_in wanted (class, as_found loaded source (map (method_found (found_in known) class) methods))
        by_keyed true is h = ap (λ (those : List KnownMethod). places_in wanted (class, as_found loaded source those))
            (same_methods class methods
            (all_passing (HasLines known class) (counts true wanted loaded.signature) methods h))
        by_keyed false is h =
            let after = as_found loaded source (map (method_found (found_in now) class) methods) in
            let before = as_found loaded source (map (method_found (found_in known) class) methods) in
            by_prepared loaded.prepared (flat_map (list_places class after) wanted.lists)
            (flat_map (list_places class before) wanted.lists)
            (flat_map (function_places class after) wanted.functions)
            (flat_map (function_places class before) wanted.functions)
            (lists_none class after wanted.lists (key_by loaded.signature source) refl (unlisted _ is)
            ∙ sym (lists_none class before wanted.lists (key_by loaded.signature source) refl (unlisted _ is)))
            (same_functions wanted.functions methods
            (all_passing (HasLines known class) (counts false wanted loaded.signature) methods h))
          where
            unlisted : (key : Option Key) → is_keyed wanted key ≡ false
                → is_keyed (record nothing_wanted { lists = wanted.lists }) key ≡ false
            unlisted None is = refl
            unlisted (Some key) is = is
