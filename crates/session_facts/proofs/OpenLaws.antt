-- Classes that are left out lack nothing, or aren't found; and it stays so as facts are learnt.
use Rattle.std.proofs.Common.{◌≡◌, ℕ, Bool, true, false, cond, not, ◌&&◌, ◌||◌, List, [], ◌∷◌, ◌++◌, Option, Some, None}
use Rattle.std.proofs.Common.{refl, sym, ap, ◌∙◌, filter, flat_map, option_map, subst}
use Rattle.std.specs.Prelude.{◌==◌, IfSome, is_some, is_none}
use Rattle.std.specs.List.{list_all}
use Rattle.std.proofs.lemmas.Bool.{eqb-true}
use Rattle.class_tables.specs.Facts.{Known, MethodOf, has_lines, has_methods, has_source, same_class, same_method, with_fact}
use Rattle.class_tables.specs.Lookups.{Lookups, found_in}
use Rattle.class_tables.specs.Signatures.{package_in}
use Rattle.class_tables.specs.Tables.{under}
use Rattle.class_tables.specs.Views.{Key, key_from, key_in}
use Rattle.class_tables.specs.declared.loaded.Loaded.{Loaded}
use Rattle.class_tables.proofs.TableLaws.{under-put}
use Rattle.jdwp_commands.specs.declared.answer.Answer.{Answer}
use Rattle.jdwp_commands.specs.declared.answer.Answer.TheVariants as answers
use Rattle.jdwp_commands.specs.declared.question.Question.{Question}
use Rattle.jdwp_commands.specs.declared.question.Question.TheVariants as questions
use Rattle.jdwp_values.specs.declared.class.LineTable.{LineTable}
use Rattle.jdwp_values.specs.declared.class.Method.{Method}
use Rattle.jdwp_values.specs.declared.id.ClassId.{ClassId}
use Rattle.jdwp_values.specs.declared.id.MethodId.{MethodId}
use Rattle.jdwp_values.proofs.PartLaws.{both}
use Rattle.machine_model.specs.Classes.{counts, is_keyed}
use Rattle.machine_model.specs.Facts.{lines_in, methods_in, source_in}
use Rattle.machine_model.specs.Plans.{Sight}
use Rattle.machine_model.specs.Replying.{knows_fact, learnt, with_heard}
use Rattle.machine_model.specs.State.{is_empty}
use Rattle.machine_model.specs.declared.acts.Sent.{Sent}
use Rattle.session_facts.proofs.AlikeLaws.{AreAlike, open_alike}
use Rattle.session_facts.specs.ClassPlanning.{all_found, all_lacking, bound_need, class_need, keyed_need, lines_lacking}
use Rattle.session_facts.specs.ClassPlanning.{methods_need}
use Rattle.session_facts.specs.ClassPlanning.{signed_need, source_need, source_heard, methods_heard, watched_by}
use Rattle.session_facts.specs.ClassPlanning.{watched_in}
use Rattle.session_facts.specs.OpenClasses.{AreLeft, AreOpen, bound_standing, class_standing, keyed_standing, kept_by}
use Rattle.session_facts.specs.OpenClasses.{lines_standing}
use Rattle.session_facts.specs.OpenClasses.{may_be_found, may_lack, methods_standing, signed_standing, source_standing}
use Rattle.session_facts.specs.OpenClasses.{standing_so, stays_open, unlisted_by, unnamed_by}
use Rattle.session_facts.specs.declared.open_classes.OpenClasses.{OpenClasses}
use Rattle.session_facts.specs.declared.open_classes.Standing.{Standing}
use Rattle.session_facts.specs.declared.open_classes.Standing.TheVariants.{Passed, Open}
use Rattle.wish_sets.specs.Places.{key_by}
use Rattle.wish_sets.specs.Wanted.{Wanted}
use Rattle.wish_sets.specs.Wished.{is_listed, is_named, is_watched}

-- What a class that stands so lacks, and finds ------------------------------------------------------------------------

no_lines : (sight : Sight) (class : ClassId) (methods : List Method)
    → list_all (λ method. is_some (sight.classes.lines class method.id)) methods ≡ true
    → flat_map (λ method. lines_lacking sight class method.id) methods ≡ []
no_lines sight class [] all = refl
no_lines sight class (method ∷ methods) all =
    by_lines (sight.classes.lines class method.id) refl all (λ others. no_lines sight class methods others)
  where
    by_lines : (lines : Option (Option LineTable)) → sight.classes.lines class method.id ≡ lines
        → (is_some lines && list_all (λ other. is_some (sight.classes.lines class other.id)) methods) ≡ true
        → (list_all (λ other. is_some (sight.classes.lines class other.id)) methods ≡ true
        → flat_map (λ other. lines_lacking sight class other.id) methods ≡ [])
        → lines_lacking sight class method.id
        ++ flat_map (λ other. lines_lacking sight class other.id) methods ≡ []
    by_lines None is all again = absurd cc
    by_lines (Some lines) is all again = rw is (again all)

no_methods : (sight : Sight) (keyed : Bool) (wanted : Wanted) (class : ClassId) (signature : List ℕ)
    (known : Option (List Method)) → sight.classes.methods class ≡ known
    → may_lack (methods_standing sight.classes keyed wanted class signature known) ≡ false
    → (methods_need sight keyed wanted class signature (methods_heard sight class)).lacking ≡ []
no_methods sight keyed wanted class signature None is none = absurd cc
no_methods sight keyed wanted class signature (Some methods) is none =
    let those = filter (counts keyed wanted signature) methods in
    rw is (no_lines sight class those
    (by_lines (list_all (λ method. is_some (sight.classes.lines class method.id)) those) none))
  where
    by_lines : (all : Bool) → may_lack (lines_standing all) ≡ false → all ≡ true
    by_lines true h = refl
    by_lines false h = absurd cc

lacks_none : (sight : Sight) (wanted : Wanted) (class : ClassId)
    → may_lack (class_standing wanted sight.classes class) ≡ false
    → (class_need sight wanted class).lacking ≡ []
lacks_none sight wanted class none = by_signature (watched_in wanted (sight.classes.loaded class)) none
  where
    by_bound : (bound keyed : Bool) (signature : List ℕ)
        → may_lack (bound_standing sight.classes bound keyed wanted class signature) ≡ false
        → (bound_need sight bound keyed wanted class signature).lacking ≡ []
    by_bound false keyed signature h = refl
    by_bound true keyed signature h =
        no_methods sight keyed wanted class signature (sight.classes.methods class) refl h

    by_keyed : (keyed : Bool) (signature : List ℕ)
        → may_lack (keyed_standing sight.classes keyed wanted class signature) ≡ false
        → (keyed_need sight keyed wanted class signature).lacking ≡ []
    by_keyed keyed signature h = by_bound (keyed || is_named wanted signature None) keyed signature h

    by_source : (signature : List ℕ) (source : Option (Option (List ℕ))) → sight.classes.source class ≡ source
        → may_lack (source_standing wanted sight.classes class signature source) ≡ false
        → (source_need sight wanted class signature (source_heard sight class)).lacking ≡ []
    by_source signature None is h = absurd cc
    by_source signature (Some source) is h = rw is (by_keyed (is_keyed wanted (key_by signature source)) signature h)

    by_signature : (signature : Option (List ℕ))
        → may_lack (signed_standing wanted sight.classes class signature) ≡ false
        → (signed_need sight wanted class signature).lacking ≡ []
    by_signature None h = refl
    by_signature (Some signature) h = by_source signature (sight.classes.source class) refl h

finds_none : (sight : Sight) (wanted : Wanted) (class : ClassId)
    → may_be_found (class_standing wanted sight.classes class) ≡ false
    → (class_need sight wanted class).found ≡ []
finds_none sight wanted class none = by_signature (watched_in wanted (sight.classes.loaded class)) none
  where
    by_lines : (all : Bool) → may_be_found (lines_standing all) ≡ true
    by_lines true = refl
    by_lines false = refl

    by_methods : (keyed : Bool) (signature : List ℕ) (methods : Option (List Method))
        → may_be_found (methods_standing sight.classes keyed wanted class signature methods) ≡ true
    by_methods keyed signature None = refl
    by_methods keyed signature (Some methods) =
        by_lines (list_all (λ method. is_some (sight.classes.lines class method.id))
        (filter (counts keyed wanted signature) methods))

    by_bound : (bound keyed : Bool) (signature : List ℕ)
        → may_be_found (bound_standing sight.classes bound keyed wanted class signature) ≡ false
        → (bound_need sight bound keyed wanted class signature).found ≡ []
    by_bound false keyed signature h = refl
    by_bound true keyed signature h =
        absurd (let is = by_methods keyed signature (sight.classes.methods class) in cc)

    by_keyed : (keyed : Bool) (signature : List ℕ)
        → may_be_found (keyed_standing sight.classes keyed wanted class signature) ≡ false
        → (keyed_need sight keyed wanted class signature).found ≡ []
    by_keyed keyed signature h = by_bound (keyed || is_named wanted signature None) keyed signature h

    by_source : (signature : List ℕ) (source : Option (Option (List ℕ))) → sight.classes.source class ≡ source
        → may_be_found (source_standing wanted sight.classes class signature source) ≡ false
        → (source_need sight wanted class signature (source_heard sight class)).found ≡ []
    by_source signature None is h = absurd cc
    by_source signature (Some source) is h = rw is (by_keyed (is_keyed wanted (key_by signature source)) signature h)

    by_signature : (signature : Option (List ℕ))
        → may_be_found (signed_standing wanted sight.classes class signature) ≡ false
        → (signed_need sight wanted class signature).found ≡ []
    by_signature None h = refl
    by_signature (Some signature) h = by_source signature (sight.classes.source class) refl h

-- A class whose source is known and isn't listed is passed over, unless a function names it ----------------------------

pub unlisted_passed : (wanted : Wanted) (known : Lookups) (class : ClassId) (key : Key) → key_in known class ≡ Some key
    → is_listed wanted key ≡ false
    → IfSome (option_map (λ (loaded : Loaded). loaded.signature) (known.loaded class))
    (λ signature. is_named wanted signature None ≡ false)
    → class_standing wanted known class ≡ Passed
unlisted_passed wanted known class key is unlisted unnamed =
    by_loaded (known.loaded class) (known.source class) refl is unnamed
  where
    by_watched : (signature file : List ℕ) (watched : Bool) → known.source class ≡ Some (Some file)
        → is_keyed wanted (key_by signature (Some file)) ≡ false → is_named wanted signature None ≡ false
        → signed_standing wanted known class (cond watched (Some signature) None) ≡ Passed
    by_watched signature file false there not_keyed not_named = refl
    by_watched signature file true there not_keyed not_named = rw (there, not_keyed, not_named) refl

    by_path : (signature file : List ℕ) (path : Option (List ℕ)) → package_in signature ≡ path
        → known.source class ≡ Some (Some file)
        → option_map (λ p. record { package_path = p; file = file }) path ≡ Some key
        → is_named wanted signature None ≡ false
        → signed_standing wanted known class (watched_by wanted signature path) ≡ Passed
    by_path signature file None at there is not_named = absurd cc
    by_path signature file (Some path) at there is not_named =
        let same : record { package_path = path; file = file } ≡ key = cc in
        by_watched signature file (is_watched wanted path) there
        (rw at (subst (λ (k : Key). is_listed wanted k ≡ false) (sym same) unlisted)) not_named

    by_prepared : (signature file : List ℕ) (prepared : Bool) → known.source class ≡ Some (Some file)
        → option_map (λ p. record { package_path = p; file = file }) (package_in signature) ≡ Some key
        → is_named wanted signature None ≡ false
        → signed_standing wanted known class
        (cond prepared (watched_by wanted signature (package_in signature)) None) ≡ Passed
    by_prepared signature file false there is not_named = refl
    by_prepared signature file true there is not_named =
        by_path signature file (package_in signature) refl there is not_named

    by_loaded : (loaded : Option Loaded) (source : Option (Option (List ℕ))) → known.source class ≡ source
        → key_from loaded source ≡ Some key
        → IfSome (option_map (λ (one : Loaded). one.signature) loaded)
        (λ signature. is_named wanted signature None ≡ false)
        → signed_standing wanted known class (watched_in wanted loaded) ≡ Passed
    by_loaded None source there is not_named = absurd cc
    by_loaded (Some loaded) None there is not_named = absurd cc
    by_loaded (Some loaded) (Some None) there is not_named = absurd cc
    by_loaded (Some loaded) (Some (Some file)) there is not_named =
        by_prepared loaded.signature file loaded.prepared there is not_named

-- so it is passed over, by what is asked of it
pub passed : (wanted : Wanted) (known : Lookups) (class : ClassId)
    → unlisted_by wanted (key_in known class) ≡ true
    → unnamed_by wanted (option_map (λ (loaded : Loaded). loaded.signature) (known.loaded class)) ≡ true
    → class_standing wanted known class ≡ Passed
passed wanted known class unlisted unnamed = by_key (key_in known class) refl unlisted
  where
    turned : (b : Bool) → not b ≡ true → b ≡ false
    turned true h = cc
    turned false h = refl

    by_signature : (signature : Option (List ℕ)) → unnamed_by wanted signature ≡ true
        → IfSome signature (λ one. is_named wanted one None ≡ false)
    by_signature None h = tt
    by_signature (Some signature) h = turned (is_named wanted signature None) h

    by_key : (key : Option Key) → key_in known class ≡ key → unlisted_by wanted key ≡ true
        → class_standing wanted known class ≡ Passed
    by_key None is h = cc
    by_key (Some key) is h =
        unlisted_passed wanted known class key is (turned (is_listed wanted key) h)
        (by_signature (option_map (λ (loaded : Loaded). loaded.signature) (known.loaded class)) unnamed)

-- What all classes come to, by those that are left --------------------------------------------------------------------

-- nothing comes of those that are left out
by_left : {B : Type 0} (f : ClassId → List B) (keeps : ClassId → Bool)
    → ((class : ClassId) → keeps class ≡ false → f class ≡ []) → (all : List ClassId)
    → flat_map f (flat_map (λ class. kept_by (keeps class) class) all) ≡ flat_map f all
by_left f keeps nothing [] = refl
by_left f keeps nothing (class ∷ others) =
    by_kept (keeps class) refl (by_left f keeps nothing others)
  where
    by_kept : (kept : Bool) → keeps class ≡ kept
        → flat_map f (flat_map (λ other. kept_by (keeps other) other) others) ≡ flat_map f others
        → flat_map f (kept_by kept class ++ flat_map (λ other. kept_by (keeps other) other) others)
        ≡ f class ++ flat_map f others
    by_kept true is again = ap (λ rest. f class ++ rest) again
    by_kept false is again = rw (nothing class is) again

pub left_lack : (wanted : Wanted) (known : Lookups) (open_ones : OpenClasses) (asked : List Sent)
    → AreOpen wanted known open_ones
    → all_lacking (record { classes = known; asked = asked }) wanted open_ones.lacking
    ≡ all_lacking (record { classes = known; asked = asked }) wanted known.order
left_lack wanted known open_ones asked are =
    let sight : Sight = record { classes = known; asked = asked } in
    ap (all_lacking sight wanted) are.lacking.are
    ∙ by_left (λ class. (class_need sight wanted class).lacking) are.lacking.keeps
    (λ class out. lacks_none sight wanted class (are.lacking.needless class out)) known.order

pub left_found : (wanted : Wanted) (known : Lookups) (open_ones : OpenClasses) (asked : List Sent)
    → AreOpen wanted known open_ones
    → all_found (record { classes = known; asked = asked }) wanted open_ones.found
    ≡ all_found (record { classes = known; asked = asked }) wanted known.order
left_found wanted known open_ones asked are =
    let sight : Sight = record { classes = known; asked = asked } in
    ap (all_found sight wanted) are.found.are
    ∙ by_left (λ class. (class_need sight wanted class).found) are.found.keeps
    (λ class out. finds_none sight wanted class (are.found.needless class out)) known.order

-- Those that are needed -----------------------------------------------------------------------------------------------

-- of those that are left they are those of all
pub needed_left : (needed : ClassId → Bool) (all left : List ClassId) → AreLeft needed all left
    → flat_map (λ class. kept_by (needed class) class) left ≡ flat_map (λ class. kept_by (needed class) class) all
needed_left needed all left are =
    let those : ClassId → List ClassId = λ class. kept_by (needed class) class in
    ap (flat_map those) are.are
    ∙ by_left those are.keeps (λ class out. ap (λ (b : Bool). kept_by b class) (are.needless class out)) all

-- all of those that are needed
pub all_left : (needed : ClassId → Bool) (all : List ClassId)
    → AreLeft needed all (flat_map (λ class. kept_by (needed class) class) all)
all_left needed all = record { keeps = needed; are = refl; needless = λ class h. h }

-- where none is left that lacks something, none of all is
pub none_lack : (wanted : Wanted) (known : Lookups) (open_ones : OpenClasses) → AreOpen wanted known open_ones
    → is_empty open_ones.lacking ≡ true → open_ones.lacking ≡ standing_so may_lack wanted known known.order
none_lack wanted known open_ones are none = by open_ones.lacking none are.lacking
  where
    by : (left : List ClassId) → is_empty left ≡ true
        → AreLeft (λ class. may_lack (class_standing wanted known class)) known.order left
        → left ≡ standing_so may_lack wanted known known.order
    by [] e left = needed_left (λ class. may_lack (class_standing wanted known class)) known.order [] left
    by (class ∷ others) e left = absurd cc

-- A fact that wasn't known is learnt ----------------------------------------------------------------------------------

pub one_class : (a b : ClassId) → same_class a b ≡ true → a ≡ b
one_class a b e = let n : a.0 ≡ b.0 = eqb-true a.0 b.0 e in λ i. record { 0 = n i }

one_method : (a b : MethodOf) → same_method a b ≡ true → a ≡ b
one_method a b e =
    let two = both (same_class a.0 b.0) (a.1.0 == b.1.0) e in
    let class : a.0 ≡ b.0 = one_class a.0 b.0 two.0 in
    let method : a.1.0 ≡ b.1.0 = eqb-true a.1.0 b.1.0 two.1 in
    λ i. (class i, record { 0 = method i })

-- a question for a fact that decides how a class stands
abbrev is_of_class : Question → Bool
is_of_class (questions.SourceFile class) = true
is_of_class (questions.Methods class) = true
is_of_class (questions.LineTable class method) = true
is_of_class _ = false

module _ (P : Standing → Bool) (at_open : P Open ≡ true) (wanted : Wanted) (known : Known) where
  -- the source of a class
  source_stays : (class : ClassId) (source : Option (List ℕ)) (other : ClassId)
      → is_none (under same_class class known.sources) ≡ true
      → P (class_standing wanted (found_in known) other) ≡ false
      → P (class_standing wanted (found_in (with_fact (has_source class source) known)) other) ≡ false
  source_stays class source other new out = by_signature (watched_in wanted (under same_class other known.loaded)) out
    where
      later : Lookups
      later = found_in (with_fact (has_source class source) known)

      is_new : (same : Bool) → same_class other class ≡ same → (found : Option (Option (List ℕ)))
          → under same_class other known.sources ≡ found → (signature : List ℕ)
          → P (source_standing wanted (found_in known) other signature found) ≡ false
          → P (source_standing wanted later other signature (cond same (Some source) found)) ≡ false
      is_new false is found there signature h = h
      is_new true is None there signature h = absurd (let open_one = at_open in cc)
      is_new true is (Some one) there signature h =
          absurd (let same = one_class other class is in
          let none = subst (λ (c : ClassId). is_none (under same_class c known.sources) ≡ true) (sym same) new in cc)

      by_signature : (signature : Option (List ℕ))
          → P (signed_standing wanted (found_in known) other signature) ≡ false
          → P (signed_standing wanted later other signature) ≡ false
      by_signature None h = h
      by_signature (Some signature) h =
          rw (under-put same_class one_class class source other known.sources)
          (is_new (same_class other class) refl (under same_class other known.sources) refl signature h)

  -- its methods
  methods_stay : (class : ClassId) (methods : List Method) (other : ClassId)
      → is_none (under same_class class known.methods) ≡ true
      → P (class_standing wanted (found_in known) other) ≡ false
      → P (class_standing wanted (found_in (with_fact (has_methods class methods) known)) other) ≡ false
  methods_stay class methods other new out = by_signature (watched_in wanted (under same_class other known.loaded)) out
    where
      later : Lookups
      later = found_in (with_fact (has_methods class methods) known)

      is_new : (keyed : Bool) (signature : List ℕ) (same : Bool) → same_class other class ≡ same
          → (found : Option (List Method)) → under same_class other known.methods ≡ found
          → P (methods_standing (found_in known) keyed wanted other signature found) ≡ false
          → P (methods_standing later keyed wanted other signature (cond same (Some methods) found)) ≡ false
      is_new keyed signature false is found there h = by_found found h
        where
          by_found : (found : Option (List Method))
              → P (methods_standing (found_in known) keyed wanted other signature found) ≡ false
              → P (methods_standing later keyed wanted other signature found) ≡ false
          by_found None h = h
          by_found (Some one) h = h
      is_new keyed signature true is None there h = absurd (let open_one = at_open in cc)
      is_new keyed signature true is (Some one) there h =
          absurd (let same = one_class other class is in
          let none = subst (λ (c : ClassId). is_none (under same_class c known.methods) ≡ true) (sym same) new in cc)

      by_bound : (bound keyed : Bool) (signature : List ℕ)
          → P (bound_standing (found_in known) bound keyed wanted other signature) ≡ false
          → P (bound_standing later bound keyed wanted other signature) ≡ false
      by_bound false keyed signature h = h
      by_bound true keyed signature h =
          rw (under-put same_class one_class class methods other known.methods)
          (is_new keyed signature (same_class other class) refl (under same_class other known.methods) refl h)

      by_keyed : (keyed : Bool) (signature : List ℕ)
          → P (keyed_standing (found_in known) keyed wanted other signature) ≡ false
          → P (keyed_standing later keyed wanted other signature) ≡ false
      by_keyed keyed signature h = by_bound (keyed || is_named wanted signature None) keyed signature h

      by_source : (signature : List ℕ) (source : Option (Option (List ℕ)))
          → P (source_standing wanted (found_in known) other signature source) ≡ false
          → P (source_standing wanted later other signature source) ≡ false
      by_source signature None h = h
      by_source signature (Some source) h = by_keyed (is_keyed wanted (key_by signature source)) signature h

      by_signature : (signature : Option (List ℕ))
          → P (signed_standing wanted (found_in known) other signature) ≡ false
          → P (signed_standing wanted later other signature) ≡ false
      by_signature None h = h
      by_signature (Some signature) h = by_source signature (under same_class other known.sources) h

  -- the lines of a method
  lines_stay : (class : ClassId) (method : MethodId) (lines : Option LineTable) (other : ClassId)
      → P (class_standing wanted (found_in known) other) ≡ false
      → P (class_standing wanted (found_in (with_fact (has_lines class method lines) known)) other) ≡ false
  lines_stay class method lines other out = by_signature (watched_in wanted (under same_class other known.loaded)) out
    where
      later : Lookups
      later = found_in (with_fact (has_lines class method lines) known)

      still_some : (same : Bool) (found : Option (Option LineTable)) → is_some found ≡ true
          → is_some (cond same (Some lines) found) ≡ true
      still_some true found h = refl
      still_some false found h = h

      all_still : (methods : List Method)
          → list_all (λ one. is_some (under same_method (other, one.id) known.lines)) methods ≡ true
          → list_all (λ one. is_some (later.lines other one.id)) methods ≡ true
      all_still [] h = refl
      all_still (one ∷ methods) h =
          let both = both (is_some (under same_method (other, one.id) known.lines))
          (list_all (λ one. is_some (under same_method (other, one.id) known.lines)) methods) h in
          rw (
            under-put same_method one_method (class, method) lines (other, one.id) known.lines,
            still_some (same_method (other, one.id) (class, method)) (under same_method (other, one.id) known.lines)
                both.0,
          ) (all_still methods both.1)

      by_lines : (was is : Bool) → (was ≡ true → is ≡ true) → P (lines_standing was) ≡ false
          → P (lines_standing is) ≡ false
      by_lines false is gives h = absurd (let open_one = at_open in cc)
      by_lines true is gives h = rw (gives refl) h

      by_methods : (keyed : Bool) (signature : List ℕ) (methods : Option (List Method))
          → P (methods_standing (found_in known) keyed wanted other signature methods) ≡ false
          → P (methods_standing later keyed wanted other signature methods) ≡ false
      by_methods keyed signature None h = h
      by_methods keyed signature (Some methods) h =
          let those = filter (counts keyed wanted signature) methods in
          by_lines (list_all (λ one. is_some (under same_method (other, one.id) known.lines)) those)
          (list_all (λ one. is_some (later.lines other one.id)) those) (all_still those) h

      by_bound : (bound keyed : Bool) (signature : List ℕ)
          → P (bound_standing (found_in known) bound keyed wanted other signature) ≡ false
          → P (bound_standing later bound keyed wanted other signature) ≡ false
      by_bound false keyed signature h = h
      by_bound true keyed signature h = by_methods keyed signature (under same_class other known.methods) h

      by_keyed : (keyed : Bool) (signature : List ℕ)
          → P (keyed_standing (found_in known) keyed wanted other signature) ≡ false
          → P (keyed_standing later keyed wanted other signature) ≡ false
      by_keyed keyed signature h = by_bound (keyed || is_named wanted signature None) keyed signature h

      by_source : (signature : List ℕ) (source : Option (Option (List ℕ)))
          → P (source_standing wanted (found_in known) other signature source) ≡ false
          → P (source_standing wanted later other signature source) ≡ false
      by_source signature None h = h
      by_source signature (Some source) h = by_keyed (is_keyed wanted (key_by signature source)) signature h

      by_signature : (signature : Option (List ℕ))
          → P (signed_standing wanted (found_in known) other signature) ≡ false
          → P (signed_standing wanted later other signature) ≡ false
      by_signature None h = h
      by_signature (Some signature) h = by_source signature (under same_class other known.sources) h

  -- any of these
  stays_out : (question : Question) (heard : Option Answer) (other : ClassId)
      → is_of_class question ≡ true → knows_fact question known ≡ false
      → P (class_standing wanted (found_in known) other) ≡ false
      → P (class_standing wanted (found_in (with_heard question heard known)) other) ≡ false
  stays_out (questions.SourceFile class) heard other is new out = source_stays class (source_in heard) other
      (by (under same_class class known.sources) new) out
    where
      by : (found : Option (Option (List ℕ))) → is_some (option_map (option_map answers.SourceFile) found) ≡ false
          → is_none found ≡ true
      by None h = refl
      by (Some source) h = absurd cc
  stays_out (questions.Methods class) heard other is new out = methods_stay class (methods_in heard) other
      (by (under same_class class known.methods) new) out
    where
      by : (found : Option (List Method))
          → is_some (option_map (λ (methods : List Method). Some (answers.Methods methods)) found) ≡ false
          → is_none found ≡ true
      by None h = refl
      by (Some methods) h = absurd cc
  stays_out (questions.LineTable class method) heard other is new out =
      lines_stay class method (lines_in heard) other out
  stays_out question heard other is new out = absurd cc

heard_open : (wanted : Wanted) (known : Known) (question : Question) (heard : Option Answer)
    (open_ones : OpenClasses) → is_of_class question ≡ true → knows_fact question known ≡ false
    → (found_in (with_heard question heard known)).order ≡ (found_in known).order
    → AreOpen wanted (found_in known) open_ones → AreOpen wanted (found_in (with_heard question heard known)) open_ones
heard_open wanted known question heard open_ones is new same are =
    let later = found_in (with_heard question heard known) in
    record {
      lacking = subst (λ (order : List ClassId).
          AreLeft (λ class. may_lack (class_standing wanted later class)) order open_ones.lacking) (sym same) (record {
            keeps = are.lacking.keeps;
            are = are.lacking.are;
            needless = λ class out.
                stays_out may_lack refl wanted known question heard class is new (are.lacking.needless class out);
          });
      found = subst (λ (order : List ClassId).
          AreLeft (λ class. may_be_found (class_standing wanted later class)) order open_ones.found) (sym same) (record {
            keeps = are.found.keeps;
            are = are.found.are;
            needless = λ class out.
                stays_out may_be_found refl wanted known question heard class is new (are.found.needless class out);
          });
    }

-- what is known isn't learnt again, and other facts don't matter
pub stay_open : (wanted : Wanted) (known : Known) (question : Question) (heard : Option Answer)
    (open_ones : OpenClasses) → stays_open question ≡ true
    → AreOpen wanted (found_in known) open_ones → AreOpen wanted (found_in (learnt question heard known)) open_ones
stay_open wanted known question heard open_ones stays are = by_known (knows_fact question known) refl
  where
    beside : (after : Known) → AreAlike wanted wanted (found_in known) (found_in after)
        → (found_in after).loaded ≡ (found_in known).loaded → (found_in after).order ≡ (found_in known).order
        → AreOpen wanted (found_in after) open_ones
    beside after alike loaded order =
        open_alike wanted wanted (found_in known) (found_in after) alike loaded order open_ones are

    by_question : (question : Question) → stays_open question ≡ true → knows_fact question known ≡ false
        → AreOpen wanted (found_in (with_heard question heard known)) open_ones
    by_question questions.AllClasses h new = absurd cc
    by_question (questions.SourceFile class) h new =
        heard_open wanted known (questions.SourceFile class) heard open_ones refl new refl are
    by_question (questions.Methods class) h new =
        heard_open wanted known (questions.Methods class) heard open_ones refl new refl are
    by_question (questions.LineTable class method) h new =
        heard_open wanted known (questions.LineTable class method) heard open_ones refl new refl are
    by_question (questions.Fields class) h new = beside (with_heard (questions.Fields class) heard known)
        (record { lists = refl; functions = refl; source = refl; methods = refl; lines = refl }) refl refl
    by_question (questions.Superclass class) h new = beside (with_heard (questions.Superclass class) heard known)
        (record { lists = refl; functions = refl; source = refl; methods = refl; lines = refl }) refl refl
    by_question (questions.VariableTable class method) h new =
        beside (with_heard (questions.VariableTable class method) heard known)
        (record { lists = refl; functions = refl; source = refl; methods = refl; lines = refl }) refl refl
    by_question question h new = are

    by_known : (knows : Bool) → knows_fact question known ≡ knows
        → AreOpen wanted (found_in (cond knows known (with_heard question heard known))) open_ones
    by_known true is = are
    by_known false is = by_question question stays is

-- where they were found out
pub stay_found_out : (wanted : Wanted) (known later : Known) (question : Question) (heard : Option Answer)
    (held : Option OpenClasses) → later ≡ learnt question heard known → stays_open question ≡ true
    → IfSome held (AreOpen wanted (found_in known)) → IfSome held (AreOpen wanted (found_in later))
stay_found_out wanted known later question heard held is stays are =
    subst (λ (now : Known). IfSome held (AreOpen wanted (found_in now))) (sym is) (by_held held are)
  where
    by_held : (those : Option OpenClasses) → IfSome those (AreOpen wanted (found_in known))
        → IfSome those (AreOpen wanted (found_in (learnt question heard known)))
    by_held None h = tt
    by_held (Some open_ones) h = stay_open wanted known question heard open_ones stays h
