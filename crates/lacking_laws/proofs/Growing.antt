-- What is lacking stays so until it is heard, or the plan fails.
use Rattle.std.proofs.Common.{◌≡◌, ◌⊎◌, inl, inr, List, [], ◌∷◌, ◌++◌, Option, None, Some, refl, sym, subst, ◌∙◌}
use Rattle.machine_model.specs.Facts.{fact_known, fact_of}
use Rattle.machine_model.specs.Names.{Answer, Question, Replied, an_answer, an_error}
use Rattle.machine_model.specs.Plans.{Fault, Found, Need, Plan, Sight, after, answer_in, beside, fact_heard, fails}
use Rattle.machine_model.specs.Plans.{found_from, gives, has, heard_of, lacking, lacks, may_hear, must_by, must_hear, need, pairs}
use Rattle.machine_model.specs.Plans.{tried_of, tries, try_hear, wants}
use Rattle.machine_model.specs.declared.acts.Want.{Want}
use Rattle.lacking_laws.specs.Lacking.{AreHeardOr, Grows, Has, HearsOn, IsHeard}

-- Lists ---------------------------------------------------------------------------------------------------------------

has_left : (w : Want) (xs ys : List Want) → Has w xs → Has w (xs ++ ys)
has_left w [] ys none = absurd none
has_left w (x ∷ xs) ys (inl is) = inl is
has_left w (x ∷ xs) ys (inr h) = inr (has_left w xs ys h)

has_right : (w : Want) (xs ys : List Want) → Has w ys → Has w (xs ++ ys)
has_right w [] ys h = h
has_right w (x ∷ xs) ys h = inr (has_right w xs ys h)

-- what is lacking may be more
more_lack : (more : Sight) (xs ys list : List Want) → ((w : Want) → Has w xs → Has w ys) → AreHeardOr more xs list
    → AreHeardOr more ys list
more_lack more xs ys [] grow h = tt
more_lack more xs ys (w ∷ list) grow h = (by h.0, more_lack more xs ys list grow h.1)
  where
    by : IsHeard more w ⊎ Has w xs → IsHeard more w ⊎ Has w ys
    by (inl heard) = inl heard
    by (inr still) = inr (grow w still)

joined : (more : Sight) (lacked xs ys : List Want) → AreHeardOr more lacked xs → AreHeardOr more lacked ys
    → AreHeardOr more lacked (xs ++ ys)
joined more lacked [] ys h k = k
joined more lacked (x ∷ xs) ys h k = (h.0, joined more lacked xs ys h.1 k)

no_lack : (more : Sight) (ys list : List Want) → AreHeardOr more [] list → AreHeardOr more ys list
no_lack more ys list h = more_lack more [] ys list (λ w none. absurd none) h

-- What depends on a value ---------------------------------------------------------------------------------------------

grows_after : {A B : Type 0} (more : Sight) (old new : Need A) (go go_on : A → Need B) → Grows more old new
    → ((a : A) → Grows more (go a) (go_on a)) → Grows more (after old go) (after new go_on)
grows_after more (has a) _ go go_on Grows.found rest = rest a
grows_after more old (fails fault) go go_on Grows.failed rest = Grows.failed
grows_after more (lacks want others) (has b) go go_on (Grows.lacked h) rest =
    Grows.lacked (no_lack more (lacking (go_on b)) (want ∷ others) h)
grows_after more (lacks want others) (fails fault) go go_on (Grows.lacked h) rest = Grows.failed
grows_after more (lacks want others) (lacks w ws) go go_on (Grows.lacked h) rest = Grows.lacked h

-- Two side by side ----------------------------------------------------------------------------------------------------

left_fails : {A B : Type 0} (more : Sight) (old : Need (A × B)) (fault : Fault) (k : Need B)
    → Grows more old (beside (fails fault) k)
left_fails more old fault (has b) = Grows.failed
left_fails more old fault (fails other) = Grows.failed
left_fails more old fault (lacks w ws) = Grows.failed

by_found : {A B : Type 0} (more : Sight) (a : A) (k now : Need B) → Grows more k now
    → Grows more (beside (has a) k) (beside (has a) now)
by_found more a (has b) _ Grows.found = Grows.found
by_found more a k (fails fault) Grows.failed = Grows.failed
by_found more a (lacks w ws) (has b) (Grows.lacked h) = Grows.lacked h
by_found more a (lacks w ws) (fails fault) (Grows.lacked h) = Grows.failed
by_found more a (lacks w ws) (lacks v vs) (Grows.lacked h) = Grows.lacked h

by_lacked : {A B : Type 0} (more : Sight) (w : Want) (ws : List Want) (new : Need A)
    → AreHeardOr more (lacking new) (w ∷ ws) → (k now : Need B) → Grows more k now
    → Grows more (beside (lacks w ws) k) (beside new now)
by_lacked more w ws (fails fault) h k now g = left_fails more (beside (lacks w ws) k) fault now
by_lacked more w ws (has a) h k (fails fault) Grows.failed = Grows.failed
by_lacked more w ws (lacks v vs) h k (fails fault) Grows.failed = Grows.failed
by_lacked more w ws (has a) h (has b) _ Grows.found = Grows.lacked h
by_lacked more w ws (lacks v vs) h (has b) _ Grows.found = Grows.lacked h
by_lacked more w ws (has a) h (lacks x xs) (fails fault) (Grows.lacked k) = Grows.failed
by_lacked more w ws (lacks v vs) h (lacks x xs) (fails fault) (Grows.lacked k) = Grows.failed
by_lacked more w ws (has a) h (lacks x xs) (has b) (Grows.lacked k) =
    Grows.lacked (joined more [] (w ∷ ws) (x ∷ xs) h k)
by_lacked more w ws (has a) h (lacks x xs) (lacks y ys) (Grows.lacked k) =
    Grows.lacked (joined more (y ∷ ys) (w ∷ ws) (x ∷ xs) (no_lack more (y ∷ ys) (w ∷ ws) h) k)
by_lacked more w ws (lacks v vs) h (lacks x xs) (has b) (Grows.lacked k) =
    Grows.lacked (joined more (v ∷ vs) (w ∷ ws) (x ∷ xs) h (no_lack more (v ∷ vs) (x ∷ xs) k))
by_lacked more w ws (lacks v vs) h (lacks x xs) (lacks y ys) (Grows.lacked k) =
    Grows.lacked (joined more ((v ∷ vs) ++ y ∷ ys) (w ∷ ws) (x ∷ xs)
    (more_lack more (v ∷ vs) ((v ∷ vs) ++ y ∷ ys) (w ∷ ws) (λ want. has_left want (v ∷ vs) (y ∷ ys)) h)
    (more_lack more (y ∷ ys) ((v ∷ vs) ++ y ∷ ys) (x ∷ xs) (λ want. has_right want (v ∷ vs) (y ∷ ys)) k))

grows_beside : {A B : Type 0} (more : Sight) (old new : Need A) (k now : Need B) → Grows more old new
    → Grows more k now → Grows more (beside old k) (beside new now)
grows_beside more (has a) _ k now Grows.found h = by_found more a k now h
grows_beside more old (fails fault) k now Grows.failed h = left_fails more (beside old k) fault now
grows_beside more (lacks w ws) new k now (Grows.lacked g) h = by_lacked more w ws new g k now h

-- What was heard ------------------------------------------------------------------------------------------------------

module _ (sight more : Sight) (on : HearsOn sight more) where
  stands : (question : Question) (found : Found) (now : Option Found) → found_from 0 sight.asked question ≡ Some found
      → found_from 0 more.asked question ≡ now → now ≡ Some found
  stands question found now is are = sym are ∙ on.replies question found is

  must_again : (found : Found) → Grows more (must_by found.place found.replied) (must_by found.place found.replied)
  must_again found = by found.replied
    where
      by : (replied : Replied) → Grows more (must_by found.place replied) (must_by found.place replied)
      by (an_answer answer) = Grows.found
      by (an_error code) = Grows.failed

  must_first : (question : Question) (found : Found) → found_from 0 more.asked question ≡ Some found
      → Grows more (lacks (Want.Must question) []) (must_by found.place found.replied)
  must_first question found are = by found.replied
    where
      by : (replied : Replied) → Grows more (lacks (Want.Must question) []) (must_by found.place replied)
      by (an_answer answer) = Grows.lacked (inl (found, are), tt)
      by (an_error code) = Grows.failed

  grows_must : (question : Question) (before now : Option Found) → found_from 0 sight.asked question ≡ before
      → found_from 0 more.asked question ≡ now → Grows more (must_hear question before) (must_hear question now)
  grows_must question None None is are = Grows.lacked (inr (inl refl), tt)
  grows_must question None (Some found) is are = must_first question found are
  grows_must question (Some found) now is are =
      subst (λ (o : Option Found). Grows more (must_by found.place found.replied) (must_hear question o))
      (sym (stands question found now is are)) (must_again found)

  grows_may : (question : Question) (before now : Option Found) → found_from 0 sight.asked question ≡ before
      → found_from 0 more.asked question ≡ now → Grows more (may_hear question before) (may_hear question now)
  grows_may question None None is are = Grows.lacked (inr (inl refl), tt)
  grows_may question None (Some found) is are = Grows.lacked (inl (found, are), tt)
  grows_may question (Some found) now is are =
      subst (λ (o : Option Found). Grows more (has (answer_in found.replied)) (may_hear question o))
      (sym (stands question found now is are)) Grows.found

  grows_try : (question : Question) (before now : Option Found) → found_from 0 sight.asked question ≡ before
      → found_from 0 more.asked question ≡ now → Grows more (try_hear question before) (try_hear question now)
  grows_try question None None is are = Grows.lacked (inr (inl refl), tt)
  grows_try question None (Some found) is are = Grows.lacked (inl (found, are), tt)
  grows_try question (Some found) now is are =
      subst (λ (o : Option Found). Grows more (has (tried_of question found.replied)) (try_hear question o))
      (sym (stands question found now is are)) Grows.found

  replied_fact : (question : Question) (found : Found) (known : Option (Option Answer))
      → fact_known sight.classes question ≡ None → found_from 0 sight.asked question ≡ Some found
      → fact_known more.classes question ≡ known
      → Grows more (has (fact_of question (answer_in found.replied))) (fact_heard question known (Some found))
  replied_fact question found None none is are = Grows.found
  replied_fact question found (Some heard) none is are =
      subst (λ (h : Option Answer). Grows more (has (fact_of question (answer_in found.replied))) (has h))
      (sym (on.learns question found heard none is are)) Grows.found

  grows_fact : (question : Question) (known known_now : Option (Option Answer)) (before now : Option Found)
      → fact_known sight.classes question ≡ known → fact_known more.classes question ≡ known_now
      → found_from 0 sight.asked question ≡ before → found_from 0 more.asked question ≡ now
      → Grows more (fact_heard question known before) (fact_heard question known_now now)
  grows_fact question (Some heard) known_now before now knows knows_now is are =
      subst (λ (k : Option (Option Answer)). Grows more (has heard) (fact_heard question k now))
      (sym (on.facts question heard knows) ∙ knows_now) Grows.found
  grows_fact question None None None None knows knows_now is are = Grows.lacked (inr (inl refl), tt)
  grows_fact question None None None (Some found) knows knows_now is are =
      Grows.lacked (inl (inl (found, are)), tt)
  grows_fact question None (Some heard) None now knows knows_now is are =
      Grows.lacked (inl (inr (heard, knows_now)), tt)
  grows_fact question None known_now (Some found) now knows knows_now is are =
      subst (λ (o : Option Found). Grows more (has (fact_of question (answer_in found.replied)))
      (fact_heard question known_now o))
      (sym (stands question found now is are)) (replied_fact question found known_now knows is knows_now)

  grows_heard : (want : Want) → Grows more (heard_of sight want) (heard_of more want)
  grows_heard (Want.Must question) =
      grows_must question (found_from 0 sight.asked question) (found_from 0 more.asked question) refl refl
  grows_heard (Want.May question) =
      grows_may question (found_from 0 sight.asked question) (found_from 0 more.asked question) refl refl
  grows_heard (Want.Fact question) =
      grows_fact question (fact_known sight.classes question) (fact_known more.classes question)
      (found_from 0 sight.asked question) (found_from 0 more.asked question) refl refl refl refl

  -- what a plan lacks it lacks on, until it is heard or the plan fails
  pub lacks_on : {A : Type 0} (plan : Plan A) → Grows more (need sight plan) (need more plan)
  unfolding need
  lacks_on (gives a) = Grows.found
  lacks_on (wants want rest) =
      grows_after more (heard_of sight want) (heard_of more want) (λ heard. need sight (rest heard))
      (λ heard. need more (rest heard)) (grows_heard want) (λ heard. lacks_on (rest heard))
  lacks_on (tries question rest) =
      grows_after more (try_hear question (found_from 0 sight.asked question))
      (try_hear question (found_from 0 more.asked question)) (λ heard. need sight (rest heard))
      (λ heard. need more (rest heard))
      (grows_try question (found_from 0 sight.asked question) (found_from 0 more.asked question) refl refl)
      (λ heard. lacks_on (rest heard))
  lacks_on (pairs p q rest) =
      grows_after more (beside (need sight p) (need sight q)) (beside (need more p) (need more q))
      (λ two. need sight (rest two)) (λ two. need more (rest two))
      (grows_beside more (need sight p) (need more p) (need sight q) (need more q) (lacks_on p) (lacks_on q))
      (λ two. lacks_on (rest two))

-- What comes of it ----------------------------------------------------------------------------------------------------

-- what has failed fails
pub failed_on : {A : Type 0} {more : Sight} {old new : Need A} {fault : Fault} → Grows more old new → old ≡ fails fault
    → (now : Fault) × (new ≡ fails now)
failed_on Grows.found is = absurd cc
failed_on (Grows.failed {fault = now}) is = (now, refl)
failed_on (Grows.lacked h) is = absurd cc

-- what was found stays, or fails
pub found_on : {A : Type 0} {more : Sight} {old new : Need A} {a : A} → Grows more old new → old ≡ has a
    → (new ≡ has a) ⊎ ((now : Fault) × (new ≡ fails now))
found_on Grows.found is = inl is
found_on (Grows.failed {fault = now}) is = inr (now, refl)
found_on (Grows.lacked h) is = absurd cc
