-- How a plan is read by the replies so far: it has its value, fails by its first error, or lacks what is open.
use Rattle.std.proofs.Common.{◌≡◌, ◌≤◌, inl, inr, ℕ, zero, suc, Bool, true, false, cond, List, [], ◌∷◌, ◌++◌, Option}
use Rattle.std.proofs.Common.{Some, None, refl, sym, ap, subst, ◌∙◌, arith, nat_le, Contains, ⊎_elim, ◌+◌}
use Rattle.std.specs.Prelude.{Result as Tried}
use Rattle.std.proofs.lemmas.List.Elements.{Contains-append_cases, Contains-append_left, Contains-append_right}
use Rattle.std.proofs.lemmas.List.Elements.{Contains-push, Contains-push_cases}
use Rattle.machine_model.specs.Facts.{fact_known}
use Rattle.machine_model.specs.PlanLaws.{FailsFirst, Gives, HasMet, HasNoReply, Hears, IsMissing, IsOpen, IsRefused}
use Rattle.machine_model.specs.PlanLaws.{IsReply, IsUnheard, LacksOpen, Reaches, RepliedAt}
use Rattle.machine_model.specs.Plans.{Fault, Found, Need, Plan, Sight, after, asks_for, beside, earlier, fact_heard}
use Rattle.machine_model.specs.Plans.{fact_replied, fails, found_at, found_from, gives, has, heard_of, lacks, may_hear}
use Rattle.machine_model.specs.Plans.{must_by, must_hear, need, pairs, Refusal, tried_of, tries, try_hear, wants}
use Rattle.machine_steps.specs.Names.{Answer, Question, Replied, Sent, Want, an_answer, an_error}

-- What was heard ------------------------------------------------------------------------------------------------------

at_place : (one other : ℕ) (replied : Replied) → one ≡ other
    → found_at one (Some replied) ≡ found_at other (Some replied)
at_place one other replied is = ap (λ (n : ℕ). found_at n (Some replied)) is

-- a reply is found where it stands
found_there : (start place : ℕ) (asked : List Sent) (question : Question) (replied : Replied)
    → RepliedAt place asked question replied → found_from start asked question ≡ found_at (place + start) (Some replied)
found_there start place [] question replied h = absurd h
found_there start zero (sent ∷ asked) question replied h =
    rw (h.0, h.1) (at_place start (0 + start) replied (omega arith))
found_there start (suc place) (sent ∷ asked) question replied h =
    rw h.0 (found_there (suc start) place asked question replied h.1
    ∙ at_place (place + suc start) (suc place + start) replied (omega arith))

-- a reply that was found stands there
stands_there : (start : ℕ) (asked : List Sent) (question : Question) (found : Found)
    → found_from start asked question ≡ Some found
    → (place : ℕ) × (place + start ≡ found.place) × RepliedAt place asked question found.replied
stands_there start [] question found is = cc
stands_there start (sent ∷ asked) question found is =
    by_test (asks_for sent question) sent.reply refl refl is (stands_there (suc start) asked question found)
  where
    by_test : (asks : Bool) (reply : Option Replied) → asks_for sent question ≡ asks → sent.reply ≡ reply
        → cond asks (found_at start reply) (found_from (suc start) asked question) ≡ Some found
        → (found_from (suc start) asked question ≡ Some found
        → (place : ℕ) × (place + suc start ≡ found.place) × RepliedAt place asked question found.replied)
        → (place : ℕ) × (place + start ≡ found.place) × RepliedAt place (sent ∷ asked) question found.replied
    by_test true None e r is later = cc
    by_test true (Some replied) e r is later =
        let same : record { place = start; replied = replied } ≡ found = cc in
        subst (λ (one : Found). (place : ℕ) × (place + start ≡ one.place)
        × RepliedAt place (sent ∷ asked) question one.replied) same (0, omega arith, (e, r))
    by_test false reply e r is later = let s = later is in (suc s.0, grind (arith, s.1), (e, s.2))

replied_at : (asked : List Sent) (question : Question) (found : Found) → found_from 0 asked question ≡ Some found
    → RepliedAt found.place asked question found.replied
replied_at asked question found is = let s = stands_there 0 asked question found is in
    subst (λ (n : ℕ). RepliedAt n asked question found.replied) (grind (arith, s.1)) s.2

no_reply : (asked : List Sent) (question : Question) → HasNoReply asked question → found_from 0 asked question ≡ None
no_reply asked question h = by_found (found_from 0 asked question) refl
  where
    by_found : (found : Option Found) → found_from 0 asked question ≡ found → found_from 0 asked question ≡ None
    by_found None is = is
    by_found (Some found) is = absurd (h found.place found.replied (replied_at asked question found is))

hears_has : (sight : Sight) (want : Want) (heard : Option Answer) → Hears sight want heard
    → heard_of sight want ≡ has heard
hears_has sight (Want.Must question) None h = absurd h
hears_has sight (Want.Must question) (Some answer) h =
    ap (must_hear question) (found_there 0 h.place sight.asked question (an_answer answer) h.stands)
hears_has sight (Want.May question) heard h =
    ap (may_hear question) (found_there 0 h.1.place sight.asked question h.0 h.1.stands) ∙ ap has h.2
hears_has sight (Want.Fact question) heard h =
    ⊎_elim (λ known. ap (λ fact. fact_heard question fact (found_from 0 sight.asked question)) known)
    (λ told. ap (λ fact. fact_heard question fact (found_from 0 sight.asked question)) told.0
    ∙ ap (fact_replied question) (found_there 0 told.2.place sight.asked question told.1 told.2.stands)
    ∙ ap has told.3) h

refused_fails : (sight : Sight) (fault : Fault) (want : Want) → IsRefused sight fault want
    → heard_of sight want ≡ fails fault
refused_fails sight fault (Want.Must question) h =
    ap (must_hear question) (found_there 0 fault.place sight.asked question (an_error fault.code) h)
    ∙ ap (λ (n : ℕ). fails (record { place = n; code = fault.code })) (omega arith)
refused_fails sight fault _ h = absurd h

unheard_lacks : (sight : Sight) (want : Want) → IsUnheard sight want → heard_of sight want ≡ lacks want []
unheard_lacks sight (Want.Must question) h = ap (must_hear question) (no_reply sight.asked question h)
unheard_lacks sight (Want.May question) h = ap (may_hear question) (no_reply sight.asked question h)
unheard_lacks sight (Want.Fact question) h =
    ap (λ fact. fact_heard question fact (found_from 0 sight.asked question)) h.0
    ∙ ap (fact_replied question) (no_reply sight.asked question h.1)

-- What a plan comes to is so ------------------------------------------------------------------------------------------

-- this holds of the value, of the error, or of what is lacking
abbrev pub IsSo : {A : Type 0} → (A → Type 0) → (Fault → Type 0) → (List Want → Type 0) → Need A → Type 0
IsSo Value Error Lack (has a) = Value a
IsSo Value Error Lack (fails fault) = Error fault
IsSo Value Error Lack (lacks first others) = Lack (first ∷ others)

abbrev pub Each : (Want → Type 0) → List Want → Type 0
Each Lack ones = (want : Want) → Contains ones want → Lack want

pub after_so : {A B : Type 0} (V : A → Type 0) (E E' : Fault → Type 0) (L L' : List Want → Type 0) (V' : B → Type 0)
    (n : Need A) (go : A → Need B) → IsSo V E L n → ((a : A) → V a → IsSo V' E' L' (go a))
    → ((fault : Fault) → E fault → E' fault) → ((ones : List Want) → L ones → L' ones) → IsSo V' E' L' (after n go)
after_so V E E' L L' V' (has a) go h v e l = v a h
after_so V E E' L L' V' (fails fault) go h v e l = e fault h
after_so V E E' L L' V' (lacks want others) go h v e l = l (want ∷ others) h

one_of : (Error : Fault → Type 0) (fault other : Fault) → Error fault → Error other → Error (earlier fault other)
one_of Error fault other h k = by_test (nat_le fault.place other.place)
  where
    by_test : (first : Bool) → Error (cond first fault other)
    by_test true = h
    by_test false = k

pub beside_so : {A B : Type 0} (V : A → Type 0) (W : B → Type 0) (E : Fault → Type 0) (L : Want → Type 0) (n : Need A)
    (m : Need B) → IsSo V E (Each L) n → IsSo W E (Each L) m
    → IsSo (λ (two : A × B). V two.0 × W two.1) E (Each L) (beside n m)
beside_so V W E L (has a) (has b) h k = (h, k)
beside_so V W E L (fails fault) (has b) h k = h
beside_so V W E L (fails fault) (fails other) h k = one_of E fault other h k
beside_so V W E L (fails fault) (lacks want others) h k = h
beside_so V W E L (lacks want others) (has b) h k = h
beside_so V W E L (lacks first others) (lacks other more) h k = λ want i.
    ⊎_elim (h want) (k want) (Contains-append_cases (first ∷ others) (other ∷ more) want i)
beside_so V W E L _ _ h k = k

-- what was heard of a want is so
abbrev pub HeardSo : Sight → Want → Need (Option Answer) → Type 0
HeardSo sight want n = IsSo (Hears sight want) (λ fault. IsRefused sight fault want)
    (λ ones. (ones ≡ want ∷ []) × IsUnheard sight want) n

pub heard_so : (sight : Sight) (want : Want) → HeardSo sight want (heard_of sight want)
heard_so sight want = by_want want
  where
    none : (question : Question) → found_from 0 sight.asked question ≡ None → HasNoReply sight.asked question
    none question is place replied h = let there = found_there 0 place sight.asked question replied h in cc

    by_reply : (question : Question) (place : ℕ) (replied : Replied) → RepliedAt place sight.asked question replied
        → HeardSo sight (Want.Must question) (must_by place replied)
    by_reply question place (an_answer answer) h = record { place = place; stands = h }
    by_reply question place (an_error code) h = h

    by_found : (question : Question) (found : Option Found) → found_from 0 sight.asked question ≡ found
        → HeardSo sight (Want.Must question) (must_hear question found)
        × HeardSo sight (Want.May question) (may_hear question found)
    by_found question None is = ((refl, none question is), (refl, none question is))
    by_found question (Some found) is = let h = replied_at sight.asked question found is in (
      by_reply question found.place found.replied h,
      (found.replied, record { place = found.place; stands = h }, refl),
    )

    by_known : (question : Question) (known : Option (Option Answer)) (found : Option Found)
        → fact_known sight.classes question ≡ known → found_from 0 sight.asked question ≡ found
        → HeardSo sight (Want.Fact question) (fact_heard question known found)
    by_known question None None is there = (refl, (is, none question there))
    by_known question None (Some found) is there = inr (
      is,
      found.replied,
      record { place = found.place; stands = replied_at sight.asked question found there },
      refl,
    )
    by_known question (Some fact) found is there = inl is

    by_want : (want : Want) → HeardSo sight want (heard_of sight want)
    by_want (Want.Must question) = (by_found question (found_from 0 sight.asked question) refl).0
    by_want (Want.May question) = (by_found question (found_from 0 sight.asked question) refl).1
    by_want (Want.Fact question) =
        by_known question (fact_known sight.classes question) (found_from 0 sight.asked question) refl refl

only_one : (sight : Sight) (want : Want) (ones : List Want) → (ones ≡ want ∷ []) × IsUnheard sight want
    → Each (λ other. IsMissing sight other want) ones
only_one sight want ones h other i = (
  ⊎_elim (λ none. absurd (omega (arith, none.1))) (λ e. sym e)
      (Contains-push_cases [] want other (subst (λ (ones : List Want). Contains ones other) h.0 i)),
  h.1,
)

-- what was heard of a question that is tried
abbrev pub Tries : Sight → Question → Tried Answer Refusal → Type 0
Tries sight question heard =
    (replied : Replied) × IsReply sight.asked question replied × (tried_of question replied ≡ heard)

-- or nothing was: it is lacking
abbrev pub IsUntried : Sight → Question → List Want → Type 0
IsUntried sight question ones = (ones ≡ Want.May question ∷ []) × HasNoReply sight.asked question

pub tried_so : (sight : Sight) (question : Question) → IsSo (Tries sight question) (λ fault. ⊥)
    (IsUntried sight question) (try_hear question (found_from 0 sight.asked question))
tried_so sight question = by_found (found_from 0 sight.asked question) refl
  where
    by_found : (found : Option Found) → found_from 0 sight.asked question ≡ found → IsSo (Tries sight question)
        (λ fault. ⊥) (IsUntried sight question) (try_hear question found)
    by_found None is =
        (refl, λ place replied h. let there = found_there 0 place sight.asked question replied h in cc)
    by_found (Some found) is = (
      found.replied,
      record { place = found.place; stands = replied_at sight.asked question found is },
      refl,
    )

tried_has : (sight : Sight) (question : Question) (replied : Replied) → IsReply sight.asked question replied
    → try_hear question (found_from 0 sight.asked question) ≡ has (tried_of question replied)
tried_has sight question replied h =
    ap (try_hear question) (found_there 0 h.place sight.asked question replied h.stands)

-- its value, an error that it has met, or what is open
pub need_so : {A : Type 0} (sight : Sight) (p : Plan A) (V : A → Type 0) (E : Fault → Type 0) (L : Want → Type 0)
    → ((a : A) → Gives sight p a → V a) → ((fault : Fault) → HasMet sight p fault → E fault)
    → ((want : Want) → IsOpen sight p want → L want) → IsSo V E (Each L) (need sight p)
unfolding need
need_so sight (gives a) V E L v e l = v a refl
need_so sight (wants want rest) V E L v e l =
    after_so _ _ E _ (Each L) V (heard_of sight want) (λ heard. need sight (rest heard)) (heard_so sight want)
    (λ heard h. need_so sight (rest heard) V E L (λ a g. v a (heard, h, g)) (λ fault m. e fault (inr (heard, h, m)))
    (λ other o. l other (inr (heard, h, o))))
    (λ fault m. e fault (inl m)) (λ ones h other i. l other (inl (only_one sight want ones h other i)))
need_so sight (tries question rest) V E L v e l =
    after_so (Tries sight question) (λ fault. ⊥) E _ (Each L) V (try_hear question (found_from 0 sight.asked question))
    (λ heard. need sight (rest heard)) (tried_so sight question)
    (λ heard h. need_so sight (rest heard) V E L
    (λ a g. v a (h.0, h.1, subst (λ (one : Tried Answer Refusal). Gives sight (rest one) a) (sym h.2) g))
    (λ fault m. e fault (inr (
      h.0,
      h.1,
      subst (λ (one : Tried Answer Refusal). HasMet sight (rest one) fault) (sym h.2) m,
    )))
    (λ other o. l other (inr (
      h.0,
      h.1,
      subst (λ (one : Tried Answer Refusal). IsOpen sight (rest one) other) (sym h.2) o,
    ))))
    (λ fault no. absurd no)
    (λ ones h other i. l other (inl (only_one sight (Want.May question) ones h other i)))
need_so sight (pairs p q rest) V E L v e l =
    after_so _ E E (Each L) (Each L) V (beside (need sight p) (need sight q)) (λ two. need sight (rest two))
    (beside_so (Gives sight p) (Gives sight q) E L (need sight p) (need sight q)
    (need_so sight p (Gives sight p) E L (λ a g. g) (λ fault m. e fault (inl (inl m))) (λ want o. l want (inl (inl o))))
    (need_so sight q (Gives sight q) E L (λ a g. g) (λ fault m. e fault (inl (inr m))) (λ want o. l want (inl
    (inr o)))))
    (λ two h. need_so sight (rest two) V E L (λ a g. v a (two, h.0, h.1, g))
    (λ fault m. e fault (inr (two, h.0, h.1, m))) (λ want o. l want (inr (two, h.0, h.1, o))))
    (λ fault h. h) (λ ones h. h)

-- What is so is what a plan comes to ----------------------------------------------------------------------------------

-- what a plan gives by all that was heard it has
gives_has : {A : Type 0} (sight : Sight) (p : Plan A) (value : A) → Gives sight p value → need sight p ≡ has value
unfolding need
gives_has sight (gives a) value g = ap has g
gives_has sight (wants want rest) value g = rw (hears_has sight want g.0 g.1) (gives_has sight (rest g.0) value g.2)
gives_has sight (tries question rest) value g =
    rw (tried_has sight question g.0 g.1) (gives_has sight (rest (tried_of question g.0)) value g.2)
gives_has sight (pairs p q rest) value g =
    rw (gives_has sight p g.0.0 g.1, gives_has sight q g.0.1 g.2) (gives_has sight (rest g.0) value g.3)

-- what holds of an error, or of what is lacking, holds beside others
record Joins (E : Fault → Type 0) (L : List Want → Type 0) : Type 0 where
  left : (fault other : Fault) → E fault → E (earlier fault other)
  right : (fault other : Fault) → E other → E (earlier fault other)
  front : (ones others : List Want) → L ones → L (ones ++ others)
  back : (ones others : List Want) → L others → L (ones ++ others)
  over : (ones : List Want) (fault : Fault) → L ones → E fault

-- it has no value, but fails or lacks something so
abbrev pub Shows : {A : Type 0} → (Fault → Type 0) → (List Want → Type 0) → Need A → Type 0
Shows E L n = IsSo (λ a. ⊥) E L n

left_shows : {A B : Type 0} (E : Fault → Type 0) (L : List Want → Type 0) (n : Need A) (m : Need B) → Joins E L
    → Shows E L n → Shows E L (beside n m)
left_shows E L (has a) m j h = absurd h
left_shows E L (fails fault) (fails other) j h = j.left fault other h
left_shows E L (lacks first others) (fails fault) j h = j.over (first ∷ others) fault h
left_shows E L (lacks first others) (lacks other more) j h = j.front (first ∷ others) (other ∷ more) h
left_shows E L _ _ j h = h

right_shows : {A B : Type 0} (E : Fault → Type 0) (L : List Want → Type 0) (n : Need A) (m : Need B) → Joins E L
    → Shows E L m → Shows E L (beside n m)
right_shows E L n (has b) j h = absurd h
right_shows E L (fails fault) (fails other) j h = j.right fault other h
right_shows E L (fails fault) (lacks first others) j h = j.over (first ∷ others) fault h
right_shows E L (lacks first others) (lacks other more) j h = j.back (first ∷ others) (other ∷ more) h
right_shows E L _ _ j h = h

try_shows : (E : Fault → Type 0) (L : List Want → Type 0) (question : Question) (found : Option Found)
    → Shows E L (may_hear question found) → Shows E L (try_hear question found)
try_shows E L question None h = h
try_shows E L question (Some found) h = h

-- what a plan has come to shows in what it comes to
shows : {A : Type 0} (sight : Sight) (Kind : Want → Type 0) (E : Fault → Type 0) (L : List Want → Type 0) → Joins E L
    → ((want : Want) → Kind want → Shows E L (heard_of sight want)) → (p : Plan A) → Reaches sight Kind p
    → Shows E L (need sight p)
unfolding need
shows sight Kind E L j k (gives a) r = absurd r
shows sight Kind E L j k (wants want rest) (inl h) = after_so (λ a. ⊥) E E L L (λ a. ⊥) (heard_of sight want)
    (λ heard. need sight (rest heard)) (k want h) (λ a no. absurd no) (λ fault h. h) (λ ones h. h)
shows sight Kind E L j k (wants want rest) (inr r) =
    rw (hears_has sight want r.0 r.1) (shows sight Kind E L j k (rest r.0) r.2)
shows sight Kind E L j k (tries question rest) (inl h) =
    after_so (λ a. ⊥) E E L L (λ a. ⊥) (try_hear question (found_from 0 sight.asked question))
    (λ heard. need sight (rest heard))
    (try_shows E L question (found_from 0 sight.asked question) (k (Want.May question) h)) (λ a no. absurd no)
    (λ fault h. h) (λ ones h. h)
shows sight Kind E L j k (tries question rest) (inr r) =
    rw (tried_has sight question r.0 r.1) (shows sight Kind E L j k (rest (tried_of question r.0)) r.2)
shows sight Kind E L j k (pairs p q rest) (inl r) =
    after_so (λ a. ⊥) E E L L (λ a. ⊥) (beside (need sight p) (need sight q)) (λ two. need sight (rest two))
    (⊎_elim (λ r. left_shows E L (need sight p) (need sight q) j (shows sight Kind E L j k p r))
    (λ r. right_shows E L (need sight p) (need sight q) j (shows sight Kind E L j k q r)) r)
    (λ a no. absurd no) (λ fault h. h) (λ ones h. h)
shows sight Kind E L j k (pairs p q rest) (inr r) =
    rw (gives_has sight p r.0.0 r.1, gives_has sight q r.0.1 r.2) (shows sight Kind E L j k (rest r.0) r.3)

-- The laws ------------------------------------------------------------------------------------------------------------

abbrev pub Both : {A : Type 0} → Sight → Plan A → Need A → Type 0
Both sight p n = FailsFirst sight p n × LacksOpen sight p n

both_of : {A : Type 0} (sight : Sight) (p : Plan A) (n : Need A)
    → IsSo (Gives sight p) (HasMet sight p) (Each (IsOpen sight p)) n
    → ((fault : Fault) → HasMet sight p fault → Shows (λ first. first.place ≤ fault.place) (λ ones. ⊥) n)
    → ((want : Want) → IsOpen sight p want → Shows (λ fault. Unit {0}) (λ ones. Contains ones want) n) → Both sight p n
both_of sight p (has a) so met all = (met, (so, all))
both_of sight p (fails fault) so met all = (record { met = so; first = met }, tt)
both_of sight p (lacks first others) so met all = (met, record { each = so; all = all })

pub both : {A : Type 0} (sight : Sight) (p : Plan A) → Both sight p (need sight p)
both sight p = both_of sight p (need sight p)
    (need_so sight p (Gives sight p) (HasMet sight p) (IsOpen sight p) (λ a g. g) (λ fault m. m) (λ want o. o))
    (λ fault. shows sight (IsRefused sight fault) (λ first. first.place ≤ fault.place) (λ ones. ⊥) (record {
      left = λ one other h. grind (arith, h);
      right = λ one other h. grind (arith, h);
      front = λ ones others h. h;
      back = λ ones others h. h;
      over = λ ones one h. absurd h;
    }) (λ want h. rw (refused_fails sight fault want h) (omega arith)) p)
    (λ want. shows sight (IsMissing sight want) (λ fault. Unit {0}) (λ ones. Contains ones want) (record {
      left = λ one other h. tt;
      right = λ one other h. tt;
      front = λ ones others h. Contains-append_left ones others want h;
      back = λ ones others h. Contains-append_right ones others want h;
      over = λ ones one h. tt;
    }) (λ other h. rw (unheard_lacks sight other h.1, h.0) (Contains-push [] other)) p)
