-- A fact that is learnt is known, and a class that is made known is bound by what is known of it.
use Rattle.std.proofs.Common.{◌≡◌, ℕ, Bool, true, false, cond, List, [], ◌∷◌, Option, Some, None, refl, sym, ap, ◌∙◌}
use Rattle.std.proofs.Common.{option_map, arith, ◌||◌}
use Rattle.std.specs.List.{AllByRecursion as All}
use Rattle.class_tables.specs.Facts.{Known, MethodOf, same_class, same_method}
use Rattle.class_tables.specs.Lookups.{Lookups, found_in}
use Rattle.class_tables.specs.Signatures.{package_in}
use Rattle.class_tables.specs.Tables.{put, under}
use Rattle.class_tables.specs.Views.{Key}
use Rattle.class_tables.specs.declared.loaded.Loaded.{Loaded}
use Rattle.jdwp_commands.specs.declared.question.Question.TheVariants as questions
use Rattle.jdwp_values.specs.declared.id.ClassId.{ClassId}
use Rattle.machine_model.specs.Binding.{HasPlaces, IsBound}
use Rattle.machine_model.specs.Classes.{bound_plan, class_plan, early_plan, is_keyed, keyed_plan, known_plan}
use Rattle.machine_model.specs.Classes.{package_plan, prepared_plan, source_plan, watched_plan}
use Rattle.machine_model.specs.Facts.{source_in}
use Rattle.machine_model.specs.Plans.{Sight, after, asking, beside, each, has, joined, need}
use Rattle.machine_model.specs.Replying.{knows_fact, learnt, with_heard}
use Rattle.machine_model.specs.State.{is_some}
use Rattle.machine_model.proofs.PlanIds.{after_like, need_made}
use Rattle.machine_steps.specs.Names.{Answer, Question, Want}
use Rattle.machine_laws.proofs.BindingPlans.{is_fact}
use Rattle.wish_sets.specs.Places.{key_by}
use Rattle.wish_sets.specs.Wanted.{Wanted, class_found, put_known, with_class, with_known}
use Rattle.wish_sets.specs.Wished.{is_named, is_watched}
use Rattle.wish_sets.specs.declared.facts.KnownClass.{KnownClass}
use Rattle.wish_sets.specs.declared.wish.StepWish.{StepWish}

-- Tables --------------------------------------------------------------------------------------------------------------

module _ {K V : Type 0} (same : K → K → Bool) where
  -- what is put is found
  put_gives : (key : K) (v : V) (entries : List (K × V)) → same key key ≡ true
      → under same key (put same key v entries) ≡ Some v
  put_gives key v [] itself = rw itself refl
  put_gives key v (entry ∷ entries) itself = by_put (same key entry.0) refl (put_gives key v entries itself)
    where
      by_put : (is : Bool) → same key entry.0 ≡ is → under same key (put same key v entries) ≡ Some v
          → under same key (cond is ((entry.0, v) ∷ entries) (entry ∷ put same key v entries)) ≡ Some v
      by_put is e rest = grind (arith, e, rest)

  -- and nothing else changes
  put_other : (k key : K) (v : V) (entries : List (K × V)) → same k key ≡ false
      → ((x : K) → same key x ≡ true → same k x ≡ false)
      → under same k (put same key v entries) ≡ under same k entries
  put_other k key v [] other apart = rw other refl
  put_other k key v (entry ∷ entries) other apart =
      by_put (same key entry.0) refl (put_other k key v entries other apart)
    where
      by_put : (is : Bool) → same key entry.0 ≡ is → under same k (put same key v entries) ≡ under same k entries
          → under same k (cond is ((entry.0, v) ∷ entries) (entry ∷ put same key v entries))
          ≡ cond (same k entry.0) (Some entry.1) (under same k entries)
      by_put true e rest = rw (apart entry.0 e) refl
      by_put false e rest = ap (cond (same k entry.0) (Some entry.1)) rest

pub is_mapped : {A B : Type 0} (f : A → B) (found : Option A) → is_some (option_map f found) ≡ is_some found
is_mapped f found = grind arith

-- Facts that are learnt -----------------------------------------------------------------------------------------------

class_is : (c : ClassId) → same_class c c ≡ true
class_is c = grind arith

method_is : (one : MethodOf) → same_method one one ≡ true
method_is one = grind arith

-- a fact that is replied is known
heard_known : (question : Question) (heard : Option Answer) (known : Known) → is_fact question ≡ true
    → knows_fact question (with_heard question heard known) ≡ true
heard_known (questions.SourceFile c) heard known is = is_mapped _ (under same_class c _)
    ∙ ap is_some (put_gives same_class c _ known.sources (class_is c))
heard_known (questions.Methods c) heard known is = is_mapped _ (under same_class c _)
    ∙ ap is_some (put_gives same_class c _ known.methods (class_is c))
heard_known (questions.LineTable c m) heard known is = is_mapped _ (under same_method (c, m) _)
    ∙ ap is_some (put_gives same_method (c, m) _ known.lines (method_is (c, m)))
heard_known _ heard known is = cc

pub fact_learnt : (question : Question) (heard : Option Answer) (known : Known) → is_fact question ≡ true
    → knows_fact question (learnt question heard known) ≡ true
fact_learnt question heard known is = by_known (knows_fact question known) refl
  where
    by_known : (knows : Bool) → knows_fact question known ≡ knows
        → knows_fact question (cond knows known (with_heard question heard known)) ≡ true
    by_known true before = before
    by_known false before = heard_known question heard known is

-- Classes that are made known -----------------------------------------------------------------------------------------

class_equal : (a b : ClassId) → same_class a b ≡ true → a ≡ b
class_equal a b is = let same : a.0 ≡ b.0 = grind (arith, is) in ap (λ (id : ℕ). record { 0 = id }) same

class_apart : (a b x : ClassId) → same_class a b ≡ false → same_class b x ≡ true → same_class a x ≡ false
class_apart a b x other is = grind (arith, other, is)

bound_now : (known : Known) (class : ClassId) (wanted : Wanted)
    → IsBound known (with_class (found_in known) class wanted) class
bound_now known class wanted facts is = record {
  held = facts;
  is_held = ap (λ (found : Option KnownClass). under same_class class (put_known class found wanted.classes)) is
      ∙ put_gives same_class class facts wanted.classes (class_is class);
  same_places = refl;
}

bound_kept : (known : Known) (class other : ClassId) (wanted : Wanted) → IsBound known wanted other
    → IsBound known (with_class (found_in known) class wanted) other
bound_kept known class other wanted h facts is =
    by_same (same_class other class) refl (class_found (found_in known) class) refl
  where
    by_same : (same : Bool) → same_class other class ≡ same → (found : Option KnownClass)
        → class_found (found_in known) class ≡ found
        → HasPlaces (record wanted { classes = put_known class found wanted.classes }) other facts
    by_same same e None found_is = let before = h facts is in
        record { held = before.held; is_held = before.is_held; same_places = before.same_places }
    by_same true e (Some found) found_is =
        let one = class_equal other class e in
        let alike : Some facts ≡ Some found = sym is ∙ ap (class_found (found_in known)) one ∙ found_is in record {
          held = facts;
          is_held = ap (λ (c : ClassId). under same_class c (put same_class class found wanted.classes)) one
              ∙ put_gives same_class class found wanted.classes (class_is class) ∙ sym alike;
          same_places = refl;
        }
    by_same false e (Some found) found_is = let before = h facts is in record {
      held = before.held;
      is_held = put_other same_class other class found wanted.classes e
          (λ x same. class_apart other class x e same) ∙ before.is_held;
      same_places = before.same_places;
    }

all_kept : (known : Known) (classes : List ClassId) (other : ClassId) (wanted : Wanted) → IsBound known wanted other
    → IsBound known (with_known (found_in known) classes wanted) other
all_kept known [] other wanted h = h
all_kept known (class ∷ classes) other wanted h =
    all_kept known classes other (with_class (found_in known) class wanted) (bound_kept known class other wanted h)

pub all_bound : (known : Known) (classes : List ClassId) (wanted : Wanted)
    → All (IsBound known (with_known (found_in known) classes wanted)) classes
all_bound known [] wanted = tt
all_bound known (class ∷ classes) wanted = (
  all_kept known classes class (with_class (found_in known) class wanted) (bound_now known class wanted),
  all_bound known classes (with_class (found_in known) class wanted),
)

-- the step and the exceptions that stop change no place
pub bound_alike : (known : Known) (wanted : Wanted) (classes : List (ClassId × KnownClass)) (step : Option StepWish)
    (caught uncaught : Bool) (found : List ClassId) → All (IsBound known (record wanted { classes = classes })) found
    → All (IsBound known (record wanted { classes = classes; step = step; caught = caught; uncaught = uncaught })) found
bound_alike known wanted classes step caught uncaught [] h = tt
bound_alike known wanted classes step caught uncaught (class ∷ found) h = (
  λ facts is. let before = h.0 facts is in
      record { held = before.held; is_held = before.is_held; same_places = before.same_places },
  bound_alike known wanted classes step caught uncaught found h.1,
)

pub only_classes : (known : Lookups) (classes : List ClassId) (wanted : Wanted)
    → with_known known classes wanted ≡ record wanted { classes = (with_known known classes wanted).classes }
only_classes known [] wanted = refl
only_classes known (class ∷ classes) wanted = only_classes known classes (with_class known class wanted)

-- What is lacking doesn't hang on what was made known, nor on a step and on exceptions ----------------------------------

module _ (sight : Sight) (wanted : Wanted) (classes : List (ClassId × KnownClass)) (step : Option StepWish)
    (caught uncaught : Bool) where
  abbrev later : Wanted
  later = record wanted { classes = classes; step = step; caught = caught; uncaught = uncaught }

  same_keyed : (key : Option Key) → is_keyed later key ≡ is_keyed wanted key
  same_keyed key = grind arith

  same_bound : (asked keyed : Bool) (class : ClassId) (signature : List ℕ)
      → bound_plan asked keyed later class signature ≡ bound_plan asked keyed wanted class signature
  same_bound asked keyed class signature = grind arith

  same_source : (class : ClassId) (signature : List ℕ)
      → need sight (source_plan later class signature) ≡ need sight (source_plan wanted class signature)
  unfolding need
  same_source class signature =
      after_like (beside (need sight (asking source_in (Want.Fact (questions.SourceFile class))))
      (need sight (early_plan (is_named wanted signature None) class))) _ _
      (λ two. ap (λ keyed. need sight (keyed_plan keyed later class signature)) (same_keyed (key_by signature two.0))
      ∙ ap (need sight) (same_bound (is_keyed wanted (key_by signature two.0) || is_named wanted signature None)
      (is_keyed wanted (key_by signature two.0)) class signature))

  same_class_plan : (class : ClassId) (loaded : Option Loaded)
      → need sight (class_plan later class loaded) ≡ need sight (class_plan wanted class loaded)
  same_class_plan class None = refl
  same_class_plan class (Some loaded) = by_prepared loaded.prepared
    where
      by_watched : (watched : Bool) → need sight (watched_plan watched later class loaded.signature)
          ≡ need sight (watched_plan watched wanted class loaded.signature)
      by_watched false = refl
      by_watched true = same_source class loaded.signature

      by_package : (path : Option (List ℕ)) → need sight (package_plan later class loaded.signature path)
          ≡ need sight (package_plan wanted class loaded.signature path)
      by_package None = refl
      by_package (Some path) = by_watched (is_watched wanted path)

      by_prepared : (prepared : Bool) → need sight (prepared_plan prepared later class loaded.signature)
          ≡ need sight (prepared_plan prepared wanted class loaded.signature)
      by_prepared false = refl
      by_prepared true = by_package (package_in loaded.signature)

  same_each : (known : Lookups) (order : List ClassId)
      → need sight (each (λ class. class_plan later class (known.loaded class)) order)
      ≡ need sight (each (λ class. class_plan wanted class (known.loaded class)) order)
  unfolding need each
  same_each known [] = refl
  same_each known (class ∷ order) =
      ap (λ n. after (beside n (need sight (each (λ class. class_plan later class (known.loaded class)) order)))
      (λ two. has (two.0 ∷ two.1))) (same_class_plan class (known.loaded class))
      ∙ ap (λ n. after (beside (need sight (class_plan wanted class (known.loaded class))) n)
      (λ two. has (two.0 ∷ two.1))) (same_each known order)

  pub same_known : (known : Lookups) → need sight (known_plan later known) ≡ need sight (known_plan wanted known)
  same_known known =
      need_made sight joined (each (λ class. class_plan later class (known.loaded class)) known.order)
      ∙ ap (λ n. after n (λ lists. has (joined lists))) (same_each known known.order)
      ∙ sym (need_made sight joined (each (λ class. class_plan wanted class (known.loaded class)) known.order))
