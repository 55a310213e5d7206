-- What a part has lacked, and that wasn't sent since, it lacks on, unless its look-up has failed.
use Rattle.std.proofs.Common.{◌≡◌, ◌⊎◌, inl, inr, Bool, true, false, List, [], ◌∷◌, ◌++◌, Option, Some, None, refl, sym}
use Rattle.std.proofs.Common.{ap, subst, ◌∙◌}
use Rattle.std.specs.List.{AllByRecursion as All}
use Rattle.class_tables.specs.Facts.{Known, nothing}
use Rattle.class_tables.specs.Lookups.{Lookups, found_in}
use Rattle.class_tables.specs.declared.loaded.Loaded.{Loaded}
use Rattle.jdwp_values.specs.declared.id.ClassId.{ClassId}
use Rattle.machine_model.specs.Apart.{was_asked}
use Rattle.machine_model.specs.Classes.{classes_plan}
use Rattle.machine_model.specs.Due.{asked_by, greeted_by, lacked_by, sized_by, way}
use Rattle.machine_model.specs.Facts.{fact_known}
use Rattle.machine_model.specs.Lookups.{found_for, plan, sight_of}
use Rattle.machine_model.specs.Plans.{Fault, Found, Need, Plan, Sight, after, beside, fact_heard, fails, found_from}
use Rattle.machine_model.specs.Plans.{gives, has, heard_of, lacking, lacks, made_with, may_hear, must_by, must_hear}
use Rattle.machine_model.specs.Plans.{need, pairs, question_of, tries, try_hear, wants}
use Rattle.machine_model.specs.State.{Hand, State}
use Rattle.machine_steps.specs.Names.{Answer, Guard, Handshake, IdSizes, Lookup, Part, Question, Replied, Want}
use Rattle.machine_steps.specs.Names.{an_answer, an_error, class_facts, classes_found}
use Rattle.wish_sets.specs.Wanted.{Wanted}
use Rattle.lacking_laws.specs.Lacking.{AreHeardOr, Grows, Has, HearsOn, IsHeard}
use Rattle.lacking_laws.proofs.Growing.{lacks_on}
use Rattle.asking_laws.specs.Asking.{IsLackingNow}
use Rattle.asking_laws.proofs.Once.{new_unheard}

-- Facts that are lacking ----------------------------------------------------------------------------------------------

-- a fact that isn't known
abbrev pub IsUnknown : Lookups → Want → Type 0
IsUnknown known (Want.Must question) = Unit {0}
IsUnknown known (Want.May question) = Unit {0}
IsUnknown known (Want.Fact question) = fact_known known question ≡ None

joined_all : (P : Want → Type 0) (first rest : List Want) → All P first → All P rest → All P (first ++ rest)
joined_all P [] rest h k = k
joined_all P (want ∷ first) rest h k = (h.0, joined_all P first rest h.1 k)

heard_unknown : (sight : Sight) (want : Want) → All (IsUnknown sight.classes) (lacking (heard_of sight want))
heard_unknown sight (Want.Must question) = by_found (found_from 0 sight.asked question)
  where
    by_reply : (found : Found) (replied : Replied)
        → All (IsUnknown sight.classes) (lacking (must_by found.place replied))
    by_reply found replied = by_one replied
      where
        by_one : (replied : Replied) → All (IsUnknown sight.classes) (lacking (must_by found.place replied))
        by_one (an_answer answer) = tt
        by_one (an_error code) = tt

    by_found : (found : Option Found) → All (IsUnknown sight.classes) (lacking (must_hear question found))
    by_found None = (tt, tt)
    by_found (Some found) = by_reply found found.replied
heard_unknown sight (Want.May question) = by_found (found_from 0 sight.asked question)
  where
    by_found : (found : Option Found) → All (IsUnknown sight.classes) (lacking (may_hear question found))
    by_found None = (tt, tt)
    by_found (Some found) = tt
heard_unknown sight (Want.Fact question) =
    by_known (fact_known sight.classes question) (found_from 0 sight.asked question) refl
  where
    by_known : (known : Option (Option Answer)) (found : Option Found) → fact_known sight.classes question ≡ known
        → All (IsUnknown sight.classes) (lacking (fact_heard question known found))
    by_known None None is = (is, tt)
    by_known None (Some found) is = tt
    by_known (Some heard) found is = tt

tried_unknown : (sight : Sight) (question : Question)
    → All (IsUnknown sight.classes) (lacking (try_hear question (found_from 0 sight.asked question)))
tried_unknown sight question = by_found (found_from 0 sight.asked question)
  where
    by_found : (found : Option Found) → All (IsUnknown sight.classes) (lacking (try_hear question found))
    by_found None = (tt, tt)
    by_found (Some found) = tt

after_all : {A B : Type 0} (P : Want → Type 0) (n : Need A) (go : A → Need B) → All P (lacking n)
    → ((a : A) → All P (lacking (go a))) → All P (lacking (after n go))
after_all P (has a) go h rest = rest a
after_all P (fails fault) go h rest = tt
after_all P (lacks want others) go h rest = h

beside_all : {A B : Type 0} (P : Want → Type 0) (n : Need A) (k : Need B) → All P (lacking n) → All P (lacking k)
    → All P (lacking (beside n k))
beside_all P (has a) (has b) h k = tt
beside_all P (has a) (fails fault) h k = tt
beside_all P (has a) (lacks want others) h k = k
beside_all P (fails fault) (has b) h k = tt
beside_all P (fails fault) (fails other) h k = tt
beside_all P (fails fault) (lacks want others) h k = tt
beside_all P (lacks want others) (has b) h k = h
beside_all P (lacks want others) (fails fault) h k = tt
beside_all P (lacks want others) (lacks other more) h k = joined_all P (want ∷ others) (other ∷ more) h k

need_unknown : {A : Type 0} (sight : Sight) (p : Plan A) → All (IsUnknown sight.classes) (lacking (need sight p))
unfolding need
need_unknown sight (gives a) = tt
need_unknown sight (wants want rest) =
    after_all (IsUnknown sight.classes) (heard_of sight want) (λ heard. need sight (rest heard))
    (heard_unknown sight want) (λ heard. need_unknown sight (rest heard))
need_unknown sight (tries question rest) =
    after_all (IsUnknown sight.classes) (try_hear question (found_from 0 sight.asked question))
    (λ heard. need sight (rest heard)) (tried_unknown sight question) (λ heard. need_unknown sight (rest heard))
need_unknown sight (pairs p q rest) =
    after_all (IsUnknown sight.classes) (beside (need sight p) (need sight q)) (λ two. need sight (rest two))
    (beside_all (IsUnknown sight.classes) (need sight p) (need sight q) (need_unknown sight p) (need_unknown sight q))
    (λ two. need_unknown sight (rest two))

one_of : (P : Want → Type 0) (list before after : List Want) (want : Want) → list ≡ before ++ want ∷ after → All P list
    → P want
one_of P list before after want is h = there before (subst (λ (list : List Want). All P list) is h)
  where
    there : (before : List Want) → All P (before ++ want ∷ after) → P want
    there [] h = h.0
    there (first ∷ before) h = there before h.1

-- The same as before --------------------------------------------------------------------------------------------------

-- More was heard for the item in hand since, and all that look-ups depend on else is as it was. Of what is wanted
-- nothing was learnt.
pub record Same (there : State) (was : Hand) (state : State) (hand : Hand) (want : Want) : Type 0 where
  pub state_is : state ≡ record there { greeting_heard = state.greeting_heard; classes = state.classes }
  pub loaded : state.classes.loaded ≡ there.classes.loaded
  pub on : HearsOn (sight_of there was) (sight_of state hand)
  pub unlearnt : fact_known (found_in state.classes) (question_of want)
      ≡ fact_known (found_in there.classes) (question_of want)

-- the plan of classes depends on what is loaded
same_classes : (unlisted : Bool) (wanted : Wanted) (classes other : Known) → classes.loaded ≡ other.loaded
    → classes_plan unlisted wanted (found_in classes) ≡ classes_plan unlisted wanted (found_in other)
same_classes true wanted classes other same =
    ap (λ (loaded : List (ClassId × Loaded)). classes_plan true wanted (found_in (record nothing { loaded = loaded })))
    same
same_classes false wanted classes other same =
    ap (λ (loaded : List (ClassId × Loaded)). classes_plan false wanted (found_in (record nothing { loaded = loaded })))
    same

-- no other plan depends on what is known of classes
plan_as : (lookup : Lookup) (there : State) (heard : Bool) (classes : Known) → classes.loaded ≡ there.classes.loaded
    → plan lookup (record there { greeting_heard = heard; classes = classes }) ≡ plan lookup there
plan_as class_facts there heard classes same = ap (λ (p : Plan (List ClassId)). made_with classes_found p)
    (same_classes there.unlisted there.wishes.wanted classes there.classes same)
plan_as _ there heard classes same = refl

plan_same : {there state : State} {was hand : Hand} {want : Want} (lookup : Lookup) → Same there was state hand want
    → plan lookup state ≡ plan lookup there
plan_same {there} {state} lookup same = ap (plan lookup) same.state_is
    ∙ plan_as lookup there state.greeting_heard state.classes same.loaded

-- Parts ---------------------------------------------------------------------------------------------------------------

no_list : (before after : List Want) (want : Want) → [] ≡ before ++ want ∷ after → ⊥
no_list [] after want is = cc
no_list (first ∷ before) after want is = cc

pick : (more : Sight) (lacked : List Want) (before after : List Want) (want : Want)
    → AreHeardOr more lacked (before ++ want ∷ after) → IsHeard more want ⊎ Has want lacked
pick more lacked [] after want h = h.0
pick more lacked (first ∷ before) after want h = pick more lacked before after want h.1

-- what was lacking and isn't heard is lacking still, or has failed
still : {A : Type 0} {more : Sight} {old new : Need A} (before after : List Want) (want : Want) → Grows more old new
    → lacking old ≡ before ++ want ∷ after → ¬ (IsHeard more want)
    → Has want (lacking new) ⊎ ((fault : Fault) × (new ≡ fails fault))
still front back want Grows.found is unheard = absurd (no_list front back want is)
still front back want (Grows.failed {fault = now}) is unheard = inr (now, refl)
still {more = more} {new = new} front back want (Grows.lacked h) is unheard = by_two
    (pick more (lacking new) front back want
    (subst (λ (list : List Want). AreHeardOr more (lacking new) list) is h))
  where
    by_two : IsHeard more want ⊎ Has want (lacking new)
        → Has want (lacking new) ⊎ ((fault : Fault) × (new ≡ fails fault))
    by_two (inl heard) = absurd (unheard heard)
    by_two (inr there) = inl there

placed : (want : Want) (list : List Want) → Has want list
    → (before : List Want) × (after : List Want) × (list ≡ before ++ want ∷ after)
placed want [] h = absurd h
placed want (first ∷ list) (inl is) = ([], list, ap (λ (one : Want). one ∷ list) (sym is))
placed want (first ∷ list) (inr h) =
    let (before, after, is) = placed want list h in (first ∷ before, after, ap (λ (rest : List Want). first ∷ rest) is)

some_none : {A : Type 0} {known : Option A} {heard : A} → known ≡ None → known ≡ Some heard → ⊥
some_none none knows = cc

not_heard : (state there : State) (hand was : Hand) (want : Want) → was_asked (question_of want) hand.asked ≡ false
    → Same there was state hand want → IsUnknown (found_in there.classes) want → ¬ (IsHeard (sight_of state hand) want)
not_heard state there hand was (Want.Must question) new same unknown h =
    some_none (new_unheard 0 question hand.asked new) h.1
not_heard state there hand was (Want.May question) new same unknown h =
    some_none (new_unheard 0 question hand.asked new) h.1
not_heard state there hand was (Want.Fact question) new same unknown (inl h) =
    some_none (new_unheard 0 question hand.asked new) h.1
not_heard state there hand was (Want.Fact question) new same unknown (inr h) =
    some_none (same.unlearnt ∙ unknown) h.1

guard_same : (guard : Guard) (state there : State) → state.sizes ≡ there.sizes
    → asked_by (way guard state) ≡ asked_by (way guard there)
guard_same IdSizes state there same = ap (λ sizes. asked_by (sized_by sizes)) same
guard_same Handshake state there same =
    none state.greeting_sent state.greeting_heard ∙ sym (none there.greeting_sent there.greeting_heard)
  where
    none : (sent heard : Bool) → asked_by (greeted_by sent heard) ≡ []
    none false heard = refl
    none true false = refl
    none true true = refl

-- so it is lacking now
pub lacking_now : (state there : State) (hand was : Hand) (want : Want) (before after : List Want)
    → lacked_by there was was.parts ≡ before ++ want ∷ after → hand.parts ≡ was.parts
    → was_asked (question_of want) hand.asked ≡ false → Same there was state hand want → IsLackingNow state hand want
lacking_now state there hand was want before after lacked parts new same = by_parts was.parts parts lacked
  where
    looks : (lookup : Lookup) (rest : List Part) → hand.parts ≡ Part.Looks lookup ∷ rest
        → lacking (found_for lookup there was) ≡ before ++ want ∷ after → IsLackingNow state hand want
    looks lookup rest is lacked = by_two (still before after want grows lacked unheard)
      where
        unheard : ¬ (IsHeard (sight_of state hand) want)
        unheard = not_heard state there hand was want new same
            (one_of (IsUnknown (found_in there.classes)) _ before after want lacked
            (need_unknown (sight_of there was) (plan lookup there)))

        grows : Grows (sight_of state hand) (found_for lookup there was) (found_for lookup state hand)
        grows = subst (λ p. Grows (sight_of state hand) (found_for lookup there was) (need (sight_of state hand) p))
            (sym (plan_same lookup same))
            (lacks_on (sight_of there was) (sight_of state hand) same.on (plan lookup there))

        by_two : Has want (lacking (found_for lookup state hand))
            ⊎ ((fault : Fault) × (found_for lookup state hand ≡ fails fault))
            → IsLackingNow state hand want
        by_two (inl there_still) =
            let (front, back, at) = placed want (lacking (found_for lookup state hand)) there_still in
            IsLackingNow.lacks front back (ap (lacked_by state hand) is ∙ at)
        by_two (inr failed) = IsLackingNow.has_failed lookup rest failed.0 is failed.1

    by_parts : (parts : List Part) → hand.parts ≡ parts → lacked_by there was parts ≡ before ++ want ∷ after
        → IsLackingNow state hand want
    by_parts (Part.Looks lookup ∷ rest) is lacked = looks lookup rest is lacked
    by_parts (Part.Awaits guard ∷ rest) is lacked = IsLackingNow.lacks before after
        (ap (lacked_by state hand) is ∙ guard_same guard state there (ap (λ (s : State). s.sizes) same.state_is)
        ∙ lacked)
    by_parts _ is lacked = absurd (no_list before after want lacked)
