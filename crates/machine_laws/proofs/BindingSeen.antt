-- Of each class that is found all is known that its breakpoints stand by, so that they stay bound whatever else is learnt.
use Rattle.std.proofs.Common.{◌≡◌, Bool, true, false, List, [], ◌∷◌, Option, Some, None, refl, sym, ap, subst, ◌∙◌}
use Rattle.std.proofs.Common.{option_map, ℕ, ◌||◌}
use Rattle.std.specs.Option.{option_flatten}
use Rattle.std.specs.Prelude.{filter, map}
use Rattle.std.specs.List.{AllByRecursion as All}
use Rattle.class_tables.specs.Facts.{Known, same_class, same_method}
use Rattle.class_tables.specs.Lookups.{found_in}
use Rattle.class_tables.specs.Signatures.{package_in}
use Rattle.class_tables.specs.Tables.{under}
use Rattle.class_tables.specs.declared.loaded.Loaded.{Loaded}
use Rattle.jdwp_commands.specs.declared.answer.Answer.TheVariants as answers
use Rattle.jdwp_commands.specs.declared.question.Question.TheVariants as questions
use Rattle.jdwp_values.specs.declared.class.Method.{Method}
use Rattle.jdwp_values.specs.declared.id.ClassId.{ClassId}
use Rattle.machine_model.specs.Binding.{IsBound, sight_alone}
use Rattle.machine_model.specs.Classes.{bound_plan, class_plan, counts, early_plan, is_keyed, known_plan, lines_plan}
use Rattle.machine_model.specs.Classes.{methods_plan, package_plan, prepared_plan, source_plan, watched_plan}
use Rattle.machine_model.specs.Facts.{fact_known, methods_in, source_in}
use Rattle.machine_model.specs.Plans.{Need, Plan, after, asking, beside, chained, each, fact_heard, fails, has, joined}
use Rattle.machine_model.specs.Plans.{lacks, made_with, need}
use Rattle.machine_model.specs.State.{is_some}
use Rattle.machine_model.proofs.IdRows.{all_joined}
use Rattle.machine_model.proofs.PlanIds.{need_chained, need_made}
use Rattle.machine_steps.specs.Names.{Answer, Question, Want}
use Rattle.machine_laws.proofs.BindingFacts.{is_mapped}
use Rattle.machine_laws.proofs.BindingGrows.{Grows}
use Rattle.machine_laws.proofs.BindingPlaces.{HasLines, as_found, same_places}
use Rattle.wish_sets.specs.Places.{key_by, places_in}
use Rattle.wish_sets.specs.Wanted.{Wanted, class_found, facts_found, method_found, methods_found}
use Rattle.wish_sets.specs.Wished.{is_named, is_watched}
use Rattle.wish_sets.specs.declared.facts.KnownClass.{KnownClass}

-- What is known of a class that is found ------------------------------------------------------------------------------

-- that it is listed, its source, its methods, and the lines of each of them that counts
record IsSeen (known : Known) (wanted : Wanted) (class : ClassId) : Type 0 where
  loaded : Loaded
  source : Option (List ℕ)
  methods : List Method
  has_loaded : under same_class class known.loaded ≡ Some loaded
  has_source : under same_class class known.sources ≡ Some source
  has_methods : under same_class class known.methods ≡ Some methods
  has_lines : All (HasLines known class)
      (filter (counts (is_keyed wanted (key_by loaded.signature source)) wanted loaded.signature) methods)

-- what a value of a need is like
abbrev Has : {A : Type 0} → (A → Type 0) → Need A → Type 0
Has Good (has a) = Good a
Has Good (fails fault) = Unit {0}
Has Good (lacks want others) = Unit {0}

after_has : {A B : Type 0} (Good : A → Type 0) (Best : B → Type 0) (n : Need A) (f : A → Need B) → Has Good n
    → ((a : A) → Good a → Has Best (f a)) → Has Best (after n f)
after_has Good Best (has a) f h k = k a h
after_has Good Best _ f h k = tt

beside_has : {A B : Type 0} (Good : A → Type 0) (Best : B → Type 0) (n : Need A) (k : Need B) → Has Good n → Has Best k
    → Has (λ (two : A × B). Good two.0 × Best two.1) (beside n k)
beside_has Good Best (has a) (has b) h i = (h, i)
beside_has Good Best (fails fault) (has b) h i = tt
beside_has Good Best (lacks want others) (has b) h i = tt
beside_has Good Best _ _ h i = tt

abbrev Any : {A : Type 0} → A → Type 0
Any a = Unit {0}

any_has : {A : Type 0} (n : Need A) → Has Any n
any_has (has a) = tt
any_has _ = tt

and_any : {A : Type 0} (Good : A → Type 0) (n : Need A) → Has Good n → Has (λ (a : A). Unit {0} × Good a) n
and_any Good (has a) h = (tt, h)
and_any Good _ h = tt

module _ (known : Known) where
  abbrev Row : {A : Type 0} → (A → Type 0) → Plan A → Type 0
  Row Good p = Has Good (need (sight_alone known) p)

  -- a fact that is heard is known
  asks_fact : {A : Type 0} (Good : A → Type 0) (read : Option Answer → A) (question : Question)
      → ((heard : Option Answer) → fact_known (found_in known) question ≡ Some heard → Good (read heard))
      → Row Good (asking read (Want.Fact question))
  unfolding need
  asks_fact Good read question k = by_known (fact_known (found_in known) question) refl
    where
      by_known : (heard : Option (Option Answer)) → fact_known (found_in known) question ≡ heard
          → Has Good (after (fact_heard question heard None) (λ heard. has (read heard)))
      by_known None is = tt
      by_known (Some heard) is = k heard is

  chains : {A B : Type 0} (Good : A → Type 0) (Best : B → Type 0) (p : Plan A) (f : A → Plan B) → Row Good p
      → ((a : A) → Good a → Row Best (f a)) → Row Best (chained p f)
  chains Good Best p f k l = subst (Has Best) (sym (need_chained (sight_alone known) p f))
      (after_has Good Best (need (sight_alone known) p) _ k l)

  makes : {A B : Type 0} (Good : A → Type 0) (Best : B → Type 0) (f : A → B) (p : Plan A) → Row Good p
      → ((a : A) → Good a → Best (f a)) → Row Best (made_with f p)
  makes Good Best f p k l = subst (Has Best) (sym (need_made (sight_alone known) f p))
      (after_has Good Best (need (sight_alone known) p) _ k l)

  -- each plan says something of what it is for, and of its value
  every : {A B : Type 0} (Fine : A → Type 0) (Good : B → Type 0) (f : A → Plan B)
      → ((a : A) → Row (λ (b : B). Fine a × Good b) (f a)) → (list : List A)
      → Row (λ (those : List B). All Fine list × All Good those) (each f list)
  unfolding need each
  every Fine Good f k [] = (tt, tt)
  every {A} {B} Fine Good f k (a ∷ others) =
      after_has (λ (two : B × List B). (Fine a × Good two.0) × (All Fine others × All Good two.1))
      (λ (those : List B). (Fine a × All Fine others) × All Good those)
      (beside (need (sight_alone known) (f a)) (need (sight_alone known) (each f others)))
      (λ two. has (two.0 ∷ two.1))
      (beside_has (λ (b : B). Fine a × Good b) (λ (those : List B). All Fine others × All Good those)
      (need (sight_alone known) (f a)) (need (sight_alone known) (each f others)) (k a) (every Fine Good f k others))
      (λ two h. ((h.0.0, h.1.0), (h.0.1, h.1.1)))

  lines_row : (class : ClassId) (one : Method)
      → Row (λ (heard : Option Answer). HasLines known class one × Unit {0}) (lines_plan class one)
  lines_row class one = asks_fact (λ (heard : Option Answer). HasLines known class one × Unit {0}) (λ heard. heard)
      (questions.LineTable class one.id)
      (λ heard is. (sym (is_mapped _ (under same_method (class, one.id) known.lines)) ∙ ap is_some is, tt))

  methods_heard : (found : Option (List Method)) (heard : Option Answer)
      → option_map (λ found. Some (answers.Methods found)) found ≡ Some heard → found ≡ Some (methods_in heard)
  methods_heard None heard is = cc
  methods_heard (Some methods) heard is =
      let one : Some (answers.Methods methods) ≡ heard = cc in ap (λ heard. Some (methods_in heard)) one

  source_heard : (found : Option (Option (List ℕ))) (heard : Option Answer)
      → option_map (option_map answers.SourceFile) found ≡ Some heard → found ≡ Some (source_in heard)
  source_heard None heard is = cc
  source_heard (Some None) heard is =
      let one : None ≡ heard = cc in ap (λ heard. Some (source_in heard)) one
  source_heard (Some (Some file)) heard is =
      let one : Some (answers.SourceFile file) ≡ heard = cc in ap (λ heard. Some (source_in heard)) one

  module _ (wanted : Wanted) (class : ClassId) (loaded : Loaded)
      (is_loaded : under same_class class known.loaded ≡ Some loaded) where
    bound_row : (asked : Bool) (source : Option (List ℕ)) → under same_class class known.sources ≡ Some source
        → Row (All (IsSeen known wanted))
        (bound_plan asked (is_keyed wanted (key_by loaded.signature source)) wanted class loaded.signature)
    unfolding need
    bound_row false source has_source = tt
    bound_row true source has_source = let keyed = is_keyed wanted (key_by loaded.signature source) in
        chains (λ (methods : List Method). under same_class class known.methods ≡ Some methods)
        (All (IsSeen known wanted)) (asking methods_in (Want.Fact (questions.Methods class)))
        (methods_plan keyed wanted class loaded.signature)
        (asks_fact (λ (methods : List Method). under same_class class known.methods ≡ Some methods) methods_in
        (questions.Methods class) (λ heard is. methods_heard (under same_class class known.methods) heard is))
        (λ methods is. makes (λ (those : List (Option Answer)). All (HasLines known class)
        (filter (counts keyed wanted loaded.signature) methods) × All Any those)
        (All (IsSeen known wanted)) (λ heard. class ∷ [])
        (each (lines_plan class) (filter (counts keyed wanted loaded.signature) methods))
        (every (HasLines known class) Any (lines_plan class) (lines_row class)
        (filter (counts keyed wanted loaded.signature) methods))
        (λ those h. (
          record {
            loaded = loaded;
            source = source;
            methods = methods;
            has_loaded = is_loaded;
            has_source = has_source;
            has_methods = is;
            has_lines = h.0;
          },
          tt,
        )))

    abbrev HasSource : Option (List ℕ) → Type 0
    HasSource source = under same_class class known.sources ≡ Some source

    source_row : Row (All (IsSeen known wanted)) (source_plan wanted class loaded.signature)
    unfolding need
    source_row =
        after_has (λ (two : Option (List ℕ) × List Method). HasSource two.0 × Any two.1) (All (IsSeen known wanted))
        (beside (need (sight_alone known) (asking source_in (Want.Fact (questions.SourceFile class))))
        (need (sight_alone known) (early_plan (is_named wanted loaded.signature None) class))) _
        (beside_has HasSource Any (need (sight_alone known) (asking source_in (Want.Fact (questions.SourceFile class))))
        (need (sight_alone known) (early_plan (is_named wanted loaded.signature None) class))
        (asks_fact HasSource source_in (questions.SourceFile class)
        (λ heard is. source_heard (under same_class class known.sources) heard is))
        (any_has (need (sight_alone known) (early_plan (is_named wanted loaded.signature None) class))))
        (λ two h. bound_row
        (is_keyed wanted (key_by loaded.signature two.0) || is_named wanted loaded.signature None) two.0 h.0)

  class_row : (wanted : Wanted) (class : ClassId) (loaded : Option Loaded)
      → under same_class class known.loaded ≡ loaded → Row (All (IsSeen known wanted)) (class_plan wanted class loaded)
  unfolding need
  class_row wanted class None listed = tt
  class_row wanted class (Some loaded) listed = by_prepared loaded.prepared
    where
      by_watched : (watched : Bool)
          → Row (All (IsSeen known wanted)) (watched_plan watched wanted class loaded.signature)
      by_watched false = tt
      by_watched true = source_row wanted class loaded listed

      by_package : (path : Option (List ℕ))
          → Row (All (IsSeen known wanted)) (package_plan wanted class loaded.signature path)
      by_package None = tt
      by_package (Some path) = by_watched (is_watched wanted path)

      by_prepared : (prepared : Bool)
          → Row (All (IsSeen known wanted)) (prepared_plan prepared wanted class loaded.signature)
      by_prepared false = tt
      by_prepared true = by_package (package_in loaded.signature)

  seen_joined : (wanted : Wanted) (lists : List (List ClassId)) → All (All (IsSeen known wanted)) lists
      → All (IsSeen known wanted) (joined lists)
  seen_joined wanted [] h = tt
  seen_joined wanted (classes ∷ lists) h =
      all_joined (IsSeen known wanted) classes (joined lists) h.0 (seen_joined wanted lists h.1)

  all_seen : (wanted : Wanted) (classes : List ClassId)
      → need (sight_alone known) (known_plan wanted (found_in known)) ≡ has classes → All (IsSeen known wanted) classes
  all_seen wanted classes is = subst (Has (All (IsSeen known wanted))) is
      (makes (λ (lists : List (List ClassId)). All Any (found_in known).order × All (All (IsSeen known wanted)) lists)
      (All (IsSeen known wanted)) joined
      (each (λ class. class_plan wanted class ((found_in known).loaded class)) (found_in known).order)
      (every Any (All (IsSeen known wanted)) (λ class. class_plan wanted class ((found_in known).loaded class))
      (λ class. and_any (All (IsSeen known wanted))
      (need (sight_alone known) (class_plan wanted class ((found_in known).loaded class)))
      (class_row wanted class ((found_in known).loaded class) refl)) (found_in known).order)
      (λ lists h. seen_joined wanted lists h.1))

-- A class that is bound stays so --------------------------------------------------------------------------------------

module _ (known now : Known) (grows : Grows known now) where
  one_bound : now.loaded ≡ known.loaded → (wanted : Wanted) (class : ClassId) → IsSeen known wanted class
      → IsBound known wanted class → IsBound now wanted class
  one_bound loaded wanted class seen h facts is =
      let before = h (found known) (found_is known seen.has_loaded seen.has_source seen.has_methods) in record {
        held = before.held;
        is_held = before.is_held;
        same_places = ap (λ (facts : KnownClass). places_in wanted (class, facts)) same
            ∙ same_places known now grows wanted class seen.loaded seen.source seen.methods seen.has_lines ∙ before.same_places;
      }
    where
      found : Known → KnownClass
      found k = as_found seen.loaded seen.source (map (method_found (found_in k) class) seen.methods)

      found_is : (k : Known) → under same_class class k.loaded ≡ Some seen.loaded
          → under same_class class k.sources ≡ Some seen.source → under same_class class k.methods ≡ Some seen.methods
          → class_found (found_in k) class ≡ Some (found k)
      found_is k has_loaded has_source has_methods =
          ap (option_map (facts_found (found_in k) class)) has_loaded
          ∙ ap (λ (source : Option (Option (List ℕ))). Some (as_found seen.loaded (option_flatten source)
          (methods_found (found_in k) class (under same_class class k.methods)))) has_source
          ∙ ap (λ (methods : Option (List Method)). Some (as_found seen.loaded seen.source
          (methods_found (found_in k) class methods))) has_methods

      now_is : class_found (found_in now) class ≡ Some (found now)
      now_is = found_is now
          (ap (λ (entries : List (ClassId × Loaded)). under same_class class entries) loaded ∙ seen.has_loaded)
          (grows.sources class seen.source seen.has_source) (grows.methods class seen.methods seen.has_methods)

      same : facts ≡ found now
      same = let both : Some facts ≡ Some (found now) = sym is ∙ now_is in cc

  each_bound : now.loaded ≡ known.loaded → (wanted : Wanted) (classes : List ClassId)
      → All (IsSeen known wanted) classes → All (IsBound known wanted) classes → All (IsBound now wanted) classes
  each_bound loaded wanted [] seen h = tt
  each_bound loaded wanted (class ∷ classes) seen h =
      (one_bound loaded wanted class seen.0 h.0, each_bound loaded wanted classes seen.1 h.1)

  pub bound_still : now.loaded ≡ known.loaded → (wanted : Wanted) (classes : List ClassId)
      → need (sight_alone known) (known_plan wanted (found_in known)) ≡ has classes
      → All (IsBound known wanted) classes → All (IsBound now wanted) classes
  bound_still loaded wanted classes found h =
      each_bound loaded wanted classes (all_seen known wanted classes found) h
