-- The locations of a line, one by one.
use Rattle.std.proofs.Common.{◌≡◌, ◌⊎◌, inl, inr, ℕ, ℤ, pos, Bool, true, false, cond, List, [], ◌∷◌}
use Rattle.std.proofs.Common.{Option, None, Some}
use Rattle.std.proofs.Common.{option_map, refl, sym, ap, subst, ◌∙◌, arith}
use Rattle.std.specs.Prelude.{filter_map, Contains, int_lt}
use Rattle.std.specs.List.{cons_option}
use Rattle.std.proofs.lemmas.List.Elements.{Contains-append_right, Contains-append_cases}
use Rattle.std.proofs.lemmas.List.Elements.{Contains-push_cases}
use Rattle.std.proofs.lemmas.Bool.{cond-false}
use Rattle.jdwp_values.specs.declared.id.ClassId.{ClassId}
use Rattle.jdwp_values.specs.declared.id.MethodId.{MethodId}
use Rattle.jdwp_values.specs.declared.tag.TypeTag.{TypeTag}
use Rattle.jdwp_values.specs.declared.class.Method.{Method}
use Rattle.jdwp_values.specs.declared.class.Line.{Line}
use Rattle.jdwp_values.specs.declared.class.LineTable.{LineTable}
use Rattle.jdwp_values.specs.declared.location.Location.{Location}
use Rattle.class_tables.specs.declared.loaded.Loaded.{Loaded}
use Rattle.class_tables.specs.Lookups.{Lookups}
use Rattle.class_tables.specs.Lines.{line_start, IsLineStart}
use Rattle.class_tables.specs.Views.{binding_entries, location_in, locations_among, locations_in, IsLocationOf}
use Rattle.class_tables.proofs.LineLaws.{is_start, start_is}

contains_none : {X : Type 0} (x : X) → Contains [] x → ⊥
contains_none x among = absurd (let within = among.1 in omega arith)

contains_first : {X : Type 0} (y : X) (ys : List X) → Contains (y ∷ ys) y
contains_first y ys = (0, omega arith, refl)

contains_cases : {X : Type 0} (y : X) (ys : List X) (x : X) → Contains (y ∷ ys) x → (y ≡ x) ⊎ Contains ys x
contains_cases y ys x among = elim (Contains-append_cases (y ∷ []) ys x among) [
  | inl one ↦ elim (Contains-push_cases [] y x one) [ inl none ↦ absurd (contains_none x none) | inr is ↦ inl is ]
  | inr others ↦ inr others
]

-- what is found of one of some items is among what is found of all
among_found : {X Y : Type 0} (f : X → Option Y) (x : X) (y : Y) (xs : List X) → Contains xs x → f x ≡ Some y
    → Contains (filter_map f xs) y
among_found f x y [] among is = absurd (contains_none x among)
among_found f x y (z ∷ xs) among is = elim (contains_cases z xs x among) [
  | inl same ↦ subst (λ o. Contains (cons_option o (filter_map f xs)) y) (sym (ap f same ∙ is))
      (contains_first y (filter_map f xs))
  | inr others ↦ more (f z) (among_found f x y xs others is)
]
  where
    more : (o : Option _) → Contains (filter_map f xs) y → Contains (cons_option o (filter_map f xs)) y
    more None found = found
    more (Some z) found = Contains-append_right (z ∷ []) (filter_map f xs) y found

-- and what is among what is found of all is found of one
found_of_one : {X Y : Type 0} (f : X → Option Y) (y : Y) (xs : List X) → Contains (filter_map f xs) y
    → (x : X) × Contains xs x × (f x ≡ Some y)
found_of_one f y [] among = absurd (contains_none y among)
found_of_one f y (x ∷ xs) among = by (f x) refl among (found_of_one f y xs)
  where
    later : ((x : _) × Contains xs x × (f x ≡ Some y)) → (z : _) × Contains (x ∷ xs) z × (f z ≡ Some y)
    later found = (found.0, Contains-append_right (x ∷ []) xs found.0 found.1, found.2)

    by : (o : Option _) → f x ≡ o → Contains (cons_option o (filter_map f xs)) y
        → (Contains (filter_map f xs) y → (x : _) × Contains xs x × (f x ≡ Some y))
        → (z : _) × Contains (x ∷ xs) z × (f z ≡ Some y)
    by None e found again = later (again found)
    by (Some z) e found again = elim (contains_cases z (filter_map f xs) y found) [
      | inl same ↦ (x, contains_first x xs, e ∙ ap (λ (w : _). Some w) same)
      | inr others ↦ later (again others)
    ]

-- what begins in the entries that may be bound begins in a line table that is known
of_a_table : (lines : Option (Option LineTable)) (line : ℤ) (start : ℕ)
    → line_start line (binding_entries lines) ≡ Some start
    → (table : LineTable) × (lines ≡ Some (Some table)) × (int_lt table.start (pos 0) ≡ false)
    × (line_start line table.lines ≡ Some start)
of_a_table None line start begins = absurd cc
of_a_table (Some None) line start begins = absurd cc
of_a_table (Some (Some table)) line start begins = by (int_lt table.start (pos 0)) refl begins
  where
    by : (b : Bool) → int_lt table.start (pos 0) ≡ b → line_start line (cond b [] table.lines) ≡ Some start
        → (other : LineTable) × (Some (Some table) ≡ Some (Some other)) × (int_lt other.start (pos 0) ≡ false)
        × (line_start line other.lines ≡ Some start)
    by true e found = absurd cc
    by false e found = (table, refl, e, found)

-- a location at a code index
abbrev with_index : ClassId → TypeTag → MethodId → ℕ → Location
with_index class tag method index = record { tag = tag; class = class; method = method; index = index }

of_a_method : (known : Lookups) (class : ClassId) (line : ℤ) (location : Location) (loaded : Loaded)
    (methods : List Method) → known.loaded class ≡ Some loaded → known.methods class ≡ Some methods
    → (method : Method) → Contains methods method → location_in known class loaded.tag line method.id ≡ Some location
    → IsLocationOf known class line location
of_a_method known class line location loaded methods is_loaded has_methods method among is =
    by (line_start line (binding_entries (known.lines class method.id))) refl is
  where
    by : (o : Option ℕ) → line_start line (binding_entries (known.lines class method.id)) ≡ o
        → option_map (with_index class loaded.tag method.id) o ≡ Some location → IsLocationOf known class line location
    by None e found = absurd cc
    by (Some start) e found =
        let place : with_index class loaded.tag method.id start ≡ location = cc in
        let at : start ≡ location.index = ap (λ (l : Location). l.index) place in
        let there = of_a_table (known.lines class method.id) line start e in
        record {
          loaded = loaded;
          methods = methods;
          method = method;
          table = there.0;
          is_loaded = is_loaded;
          has_methods = has_methods;
          is_method = among;
          has_lines = there.1;
          has_code = there.2;
          begins = subst (IsLineStart line there.0.lines) at (is_start line there.0.lines start there.3);
          place = sym place ∙ ap (with_index class loaded.tag method.id) at;
        }

pub is_location : (known : Lookups) (class : ClassId) (line : ℤ) (location : Location)
    → Contains (locations_in known class line) location → IsLocationOf known class line location
is_location known class line location = by (known.loaded class) refl (known.methods class) refl
  where
    by : (l : Option Loaded) → known.loaded class ≡ l → (m : Option (List Method)) → known.methods class ≡ m
        → Contains (locations_among known class line l m) location → IsLocationOf known class line location
    by None e m f among = absurd (contains_none location among)
    by (Some loaded) e None f among = absurd (contains_none location among)
    by (Some loaded) e (Some methods) f among =
        let found = found_of_one (λ (method : Method). location_in known class loaded.tag line method.id) location
        methods among in
        of_a_method known class line location loaded methods e f found.0 found.1 found.2

pub location_is : (known : Lookups) (class : ClassId) (line : ℤ) (location : Location)
    → IsLocationOf known class line location → Contains (locations_in known class line) location
location_is known class line location is =
    let entries : binding_entries (known.lines class is.method.id) ≡ is.table.lines =
    ap binding_entries is.has_lines ∙ cond-false (int_lt is.table.start (pos 0)) [] is.table.lines is.has_code in
    let here : location_in known class is.loaded.tag line is.method.id ≡ Some location =
    ap (λ (l : List Line). option_map (with_index class is.loaded.tag is.method.id) (line_start line l)) entries
    ∙ ap (option_map (with_index class is.loaded.tag is.method.id))
    (start_is line is.table.lines location.index is.begins)
    ∙ ap (λ (l : Location). Some l) (sym is.place) in
    let among : Contains (locations_among known class line (Some is.loaded) (Some is.methods)) location =
    among_found (λ (method : Method). location_in known class is.loaded.tag line method.id) is.method location
    is.methods is.is_method here in
    subst (λ (l : Option Loaded). Contains (locations_among known class line l (known.methods class)) location)
    (sym is.is_loaded)
    (subst (λ (m : Option (List Method)). Contains (locations_among known class line (Some is.loaded) m) location)
    (sym is.has_methods) among)
