-- What is known of classes grows: a fact that is known stays as it is, and so what a look-up of facts finds.
use Rattle.std.proofs.Common.{◌≡◌, Bool, true, false, cond, List, [], ◌∷◌, Option, Some, None, refl, sym, ap, ◌∙◌}
use Rattle.std.proofs.Common.{option_map}
use Rattle.std.specs.List.{AllByRecursion as All}
use Rattle.class_tables.specs.Facts.{Known, same_class, same_method}
use Rattle.class_tables.specs.Lookups.{found_in}
use Rattle.class_tables.specs.Tables.{keys, put, under}
use Rattle.class_tables.specs.declared.loaded.Loaded.{Loaded}
use Rattle.jdwp_commands.specs.declared.answer.Answer.TheVariants as answers
use Rattle.jdwp_commands.specs.declared.question.Question.TheVariants as questions
use Rattle.jdwp_values.specs.declared.id.ClassId.{ClassId}
use Rattle.machine_model.specs.Binding.{sight_alone}
use Rattle.machine_model.specs.Classes.{class_plan, classes_in, known_plan}
use Rattle.machine_model.specs.Facts.{fact_known}
use Rattle.machine_model.specs.Plans.{Need, Plan, after, beside, each, fact_heard, gives, has, heard_of, joined, fails}
use Rattle.machine_model.specs.Plans.{lacks, made_with, need, pairs, question_of, tries, wants}
use Rattle.machine_model.specs.Replying.{knows_fact, learnt, with_heard}
use Rattle.machine_model.specs.State.{is_some}
use Rattle.machine_steps.specs.Names.{Answer, Question, Sent, Want}
use Rattle.machine_laws.proofs.BindingFacts.{is_mapped}
use Rattle.machine_laws.proofs.BindingPlans.{AllWants, IsLearnt, is_fact, is_listing, known_wants, wants_fact}
use Rattle.machine_steps.proofs.StandingReplies.{only_loaded}
use Rattle.wish_sets.specs.Wanted.{Wanted}

-- Tables --------------------------------------------------------------------------------------------------------------

module _ {K V : Type 0} (same : K → K → Bool) where
  -- what stands under a key stays there
  abbrev pub Stays : List (K × V) → List (K × V) → Type 0
  Stays before now = (key : K) (value : V) → under same key before ≡ Some value → under same key now ≡ Some value

  -- what is put under a key that has nothing yet changes nothing else
  put_stays : (key : K) (value : V) (entries : List (K × V)) → is_some (under same key entries) ≡ false
      → Stays entries (put same key value entries)
  put_stays key value [] none other v is = cc
  put_stays key value (entry ∷ entries) none other v is =
      by_put (same key entry.0) none (λ rest. put_stays key value entries rest other v)
    where
      behind : (mine : Bool)
          → (under same other entries ≡ Some v → under same other (put same key value entries) ≡ Some v)
          → cond mine (Some entry.1) (under same other entries) ≡ Some v
          → cond mine (Some entry.1) (under same other (put same key value entries)) ≡ Some v
      behind true again is = is
      behind false again is = again is

      by_put : (here : Bool) → is_some (cond here (Some entry.1) (under same key entries)) ≡ false
          → (is_some (under same key entries) ≡ false → under same other entries ≡ Some v
          → under same other (put same key value entries) ≡ Some v)
          → under same other (cond here ((entry.0, value) ∷ entries) (entry ∷ put same key value entries)) ≡ Some v
      by_put true none again = cc
      by_put false none again = behind (same other entry.0) (again none) is

-- What is known -------------------------------------------------------------------------------------------------------

-- each fact that breakpoints are bound by stays as it is, once it is known
pub record Grows (known now : Known) : Type 0 where
  pub sources : Stays same_class known.sources now.sources
  pub methods : Stays same_class known.methods now.methods
  pub lines : Stays same_method known.lines now.lines

pub grows_by : (known now : Known) → now.sources ≡ known.sources → now.methods ≡ known.methods
    → now.lines ≡ known.lines → Grows known now
grows_by known now sources methods lines = record {
  sources = λ key value is. ap (under same_class key) sources ∙ is;
  methods = λ key value is. ap (under same_class key) methods ∙ is;
  lines = λ key value is. ap (under same_method key) lines ∙ is;
}

pub grows_itself : (known : Known) → Grows known known
grows_itself known = grows_by known known refl refl refl

heard_grows : (question : Question) (heard : Option Answer) (known : Known) → knows_fact question known ≡ false
    → Grows known (with_heard question heard known)
heard_grows questions.AllClasses heard known none =
    let only = only_loaded (classes_in heard) known in
    grows_by known (with_heard questions.AllClasses heard known) (ap (λ (k : Known). k.sources) only)
    (ap (λ (k : Known). k.methods) only) (ap (λ (k : Known). k.lines) only)
heard_grows (questions.SourceFile c) heard known none = record {
  sources = put_stays same_class c _ known.sources (sym (is_mapped _ (under same_class c known.sources)) ∙ none);
  methods = λ key value is. is;
  lines = λ key value is. is;
}
heard_grows (questions.Methods c) heard known none = record {
  sources = λ key value is. is;
  methods = put_stays same_class c _ known.methods (sym (is_mapped _ (under same_class c known.methods)) ∙ none);
  lines = λ key value is. is;
}
heard_grows (questions.LineTable c m) heard known none = record {
  sources = λ key value is. is;
  methods = λ key value is. is;
  lines = put_stays same_method (c, m) _ known.lines (sym (is_mapped _ (under same_method (c, m) known.lines)) ∙ none);
}
heard_grows _ heard known none =
    record { sources = λ key value is. is; methods = λ key value is. is; lines = λ key value is. is }

pub learnt_grows : (question : Question) (heard : Option Answer) (known : Known)
    → Grows known (learnt question heard known)
learnt_grows question heard known = by_known (knows_fact question known) refl
  where
    by_known : (is : Bool) → knows_fact question known ≡ is
        → Grows known (cond is known (with_heard question heard known))
    by_known true is = grows_itself known
    by_known false is = heard_grows question heard known is

-- but for a list of all classes, none is listed
heard_loaded : (question : Question) (heard : Option Answer) (known : Known) → is_listing question ≡ false
    → (with_heard question heard known).loaded ≡ known.loaded
heard_loaded questions.AllClasses heard known is = cc
heard_loaded _ heard known is = refl

pub learnt_loaded : (question : Question) (heard : Option Answer) (known : Known) → is_listing question ≡ false
    → (learnt question heard known).loaded ≡ known.loaded
learnt_loaded question heard known is = by_known (knows_fact question known)
  where
    by_known : (knows : Bool) → (cond knows known (with_heard question heard known)).loaded ≡ known.loaded
    by_known true = refl
    by_known false = heard_loaded question heard known is

-- What is found by facts ----------------------------------------------------------------------------------------------

mapped_stays : {A B : Type 0} (f : A → B) (before now : Option A) → ((a : A) → before ≡ Some a → now ≡ Some a) → (b : B)
    → option_map f before ≡ Some b → option_map f now ≡ Some b
mapped_stays f None now stays b is = cc
mapped_stays f (Some a) now stays b is = ap (option_map f) (stays a refl) ∙ is

-- a need that was met is met alike
abbrev StillHas : {A : Type 0} → Need A → Need A → Type 0
StillHas {A} n m = (a : A) → n ≡ has a → m ≡ has a

after_still : {A B : Type 0} (n m : Need A) (f g : A → Need B) → StillHas n m → ((a : A) → StillHas (f a) (g a))
    → StillHas (after n f) (after m g)
after_still (has a) m f g h k b is = ap (λ m. after m g) (h a refl) ∙ k a b is
after_still _ m f g h k b is = cc

beside_still : {A B : Type 0} (n m : Need A) (k l : Need B) → StillHas n m → StillHas k l
    → StillHas (beside n k) (beside m l)
beside_still (has a) m (has b) l h i two is = ap (λ n. beside n l) (h a refl) ∙ ap (beside (has a)) (i b refl) ∙ is
beside_still (fails fault) m (has b) l h i two is = cc
beside_still (lacks want others) m (has b) l h i two is = cc
beside_still _ m _ l h i two is = cc

module _ (known now : Known) (grows : Grows known now) where
  fact_stays : (fact : Question) → is_fact fact ≡ true → (heard : Option Answer)
      → fact_known (found_in known) fact ≡ Some heard → fact_known (found_in now) fact ≡ Some heard
  fact_stays (questions.SourceFile c) is = mapped_stays (option_map answers.SourceFile)
      (under same_class c known.sources) (under same_class c now.sources) (grows.sources c)
  fact_stays (questions.Methods c) is = mapped_stays (λ found. Some (answers.Methods found))
      (under same_class c known.methods) (under same_class c now.methods) (grows.methods c)
  fact_stays (questions.LineTable c m) is = mapped_stays (option_map answers.LineTable)
      (under same_method (c, m) known.lines) (under same_method (c, m) now.lines) (grows.lines (c, m))
  fact_stays _ is = cc

  still_known : (fact : Question) → is_fact fact ≡ true → is_some (fact_known (found_in known) fact) ≡ true
      → is_some (fact_known (found_in now) fact) ≡ true
  still_known fact is some = by_known (fact_known (found_in known) fact) refl some
    where
      by_known : (heard : Option (Option Answer)) → fact_known (found_in known) fact ≡ heard → is_some heard ≡ true
          → is_some (fact_known (found_in now) fact) ≡ true
      by_known None e some = cc
      by_known (Some heard) e some = ap is_some (fact_stays fact is heard e)

  -- the facts that were replied are still known
  pub one_learnt : (sent : Sent) → IsLearnt known sent → IsLearnt now sent
  one_learnt sent h some fact = still_known (question_of sent.want) fact (h some fact)

  pub still_learnt : (asked : List Sent) → All (IsLearnt known) asked → All (IsLearnt now) asked
  still_learnt [] h = tt
  still_learnt (sent ∷ asked) h = (one_learnt sent h.0, still_learnt asked h.1)

  heard_still : (want : Want) → wants_fact want ≡ true
      → StillHas (heard_of (sight_alone known) want) (heard_of (sight_alone now) want)
  heard_still (Want.Fact question) fact = by_known (fact_known (found_in known) question) refl
    where
      by_known : (heard : Option (Option Answer)) → fact_known (found_in known) question ≡ heard
          → StillHas (fact_heard question heard None) (fact_heard question (fact_known (found_in now) question) None)
      by_known None e a is = cc
      by_known (Some heard) e a is =
          ap (λ (heard : Option (Option Answer)). fact_heard question heard None) (fact_stays question fact heard e)
          ∙ is
  heard_still _ fact = cc

  need_still : {A : Type 0} (p : Plan A) → AllWants wants_fact p
      → StillHas (need (sight_alone known) p) (need (sight_alone now) p)
  unfolding need AllWants
  need_still (gives a) h = λ b is. is
  need_still (wants want rest) h = after_still (heard_of (sight_alone known) want) (heard_of (sight_alone now) want)
      (λ heard. need (sight_alone known) (rest heard)) (λ heard. need (sight_alone now) (rest heard))
      (heard_still want h.0) (λ heard. need_still (rest heard) (h.1 heard))
  need_still (tries question rest) h = cc
  need_still (pairs p q rest) h =
      after_still (beside (need (sight_alone known) p) (need (sight_alone known) q))
      (beside (need (sight_alone now) p) (need (sight_alone now) q))
      (λ two. need (sight_alone known) (rest two)) (λ two. need (sight_alone now) (rest two))
      (beside_still (need (sight_alone known) p) (need (sight_alone now) p) (need (sight_alone known) q)
      (need (sight_alone now) q) (need_still p h.0) (need_still q h.1)) (λ two. need_still (rest two) (h.2 two))

  -- where no class is listed, the same classes are found
  pub found_still : now.loaded ≡ known.loaded → (wanted : Wanted) (classes : List ClassId)
      → need (sight_alone known) (known_plan wanted (found_in known)) ≡ has classes
      → need (sight_alone now) (known_plan wanted (found_in now)) ≡ has classes
  found_still loaded wanted classes is =
      ap (λ (entries : List (ClassId × Loaded)). need (sight_alone now) (made_with joined
      (each (λ class. class_plan wanted class (under same_class class entries)) (keys entries)))) loaded
      ∙ need_still (known_plan wanted (found_in known)) (known_wants wanted (found_in known)) classes is
