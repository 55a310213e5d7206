-- The errors that a plan comes to, asked of a world.
use Rattle.std.proofs.Common.{◌≡◌, ◌⊎◌, ℕ, List, [], ◌∷◌, Option, Some, None, inl, inr, refl, sym, ap, ◌∙◌, subst}
use Rattle.std.proofs.Common.{⊎_elim}
use Rattle.std.specs.Prelude.{Result as Tried}
use Rattle.jdwp_commands.specs.declared.answer.Answer.{Answer}
use Rattle.jdwp_commands.specs.declared.asked.Replied.{Replied}
use Rattle.jdwp_commands.specs.declared.asked.Replied.TheVariants.{Answer as an_answer, Error as an_error}
use Rattle.jdwp_commands.specs.declared.question.Question.{Question}
use Rattle.machine_model.specs.Facts.{fact_of}
use Rattle.machine_model.specs.PlanLaws.{Gives, HasMet, Hears, IsOf, IsRefused, IsReply}
use Rattle.machine_model.specs.Plans.{Fault, Plan, Refusal, Sight, answer_in, asking, both, chained, each, gives}
use Rattle.machine_model.specs.Plans.{made_with, must_say, of_world, pairs, said_of, tried_of, tries, two_of, wants}
use Rattle.machine_model.specs.declared.acts.Want.{Want}

-- the world refuses what can't be done without, with this code
abbrev pub Refuses : (Question → Replied) → ℕ → Want → Type 0
Refuses world code (Want.Must question) = world question ≡ an_error code
Refuses world code _ = ⊥

-- a plan comes to such an error: what stands before it is told
abbrev pub Errs : {A : Type 0} → (Question → Replied) → ℕ → Plan A → Type 0
Errs world code (gives a) = ⊥
Errs world code (wants want rest) =
    Refuses world code want ⊎ ((heard : Option Answer) × (said_of world want ≡ Some heard) × Errs world code (rest heard))
Errs world code (tries question rest) = Errs world code (rest (tried_of question (world question)))
Errs world code (pairs p q rest) = (Errs world code p ⊎ Errs world code q)
    ⊎ ((two : _) × (of_world world p ≡ Some two.0) × (of_world world q ≡ Some two.1) × Errs world code (rest two))

-- What was heard ------------------------------------------------------------------------------------------------------

said_alike : (replied there : Replied) → answer_in replied ≡ answer_in there → must_say there ≡ must_say replied
said_alike (an_answer answer) (an_answer other) is = ap Some (sym is)
said_alike (an_error code) (an_error other) is = refl
said_alike _ _ is = cc

-- what was heard the world says
hears_said : (world : Question → Replied) (sight : Sight) (want : Want) (heard : Option Answer) → IsOf world sight
    → Hears sight want heard → said_of world want ≡ Some heard
hears_said world sight (Want.Must question) None w h = absurd h
hears_said world sight (Want.Must question) (Some answer) w h =
    said_alike (an_answer answer) (world question) (w.replies question (an_answer answer) h)
hears_said world sight (Want.May question) heard w h = ap Some (sym (w.replies question h.0 h.1) ∙ h.2)
hears_said world sight (Want.Fact question) heard w h =
    ⊎_elim (λ known. ap Some (sym (w.facts question heard known)))
    (λ told. ap Some (ap (fact_of question) (sym (w.replies question told.1 told.2)) ∙ told.3)) h

gives_there : {A : Type 0} (world : Question → Replied) (sight : Sight) (p : Plan A) (value : A) → IsOf world sight
    → Gives sight p value → of_world world p ≡ Some value
unfolding of_world
gives_there world sight (gives a) value w g = ap Some g
gives_there world sight (wants want rest) value w g =
    rw (hears_said world sight want g.0 w g.1) (gives_there world sight (rest g.0) value w g.2)
gives_there world sight (tries question rest) value w g =
    rw (sym (w.refusals question g.0 g.1)) (gives_there world sight (rest (tried_of question g.0)) value w g.2)
gives_there world sight (pairs p q rest) value w g =
    rw (gives_there world sight p g.0.0 w g.1, gives_there world sight q g.0.1 w g.2)
    (gives_there world sight (rest g.0) value w g.3)

-- what was replied is what the world replies
abbrev pub Says : (Question → Replied) → Sight → Type 0
Says world sight =
    (question : Question) (replied : Replied) → IsReply sight.asked question replied → replied ≡ world question

refused_there : (world : Question → Replied) (sight : Sight) (fault : Fault) (want : Want) → Says world sight
    → IsRefused sight fault want → Refuses world fault.code want
refused_there world sight fault (Want.Must question) says h =
    sym (says question (an_error fault.code) (record { place = fault.place; stands = h }))
refused_there world sight fault _ says h = absurd h

-- an error that was met the world has
pub met_there : {A : Type 0} (world : Question → Replied) (sight : Sight) (fault : Fault) (p : Plan A)
    → IsOf world sight → Says world sight → HasMet sight p fault → Errs world fault.code p
met_there world sight fault (gives a) w says m = m
met_there world sight fault (wants want rest) w says m =
    ⊎_elim (λ here. inl (refused_there world sight fault want says here)) (λ more. inr (
      more.0,
      hears_said world sight want more.0 w more.1,
      met_there world sight fault (rest more.0) w says more.2,
    )) m
met_there world sight fault (tries question rest) w says m =
    ⊎_elim (λ here. absurd here) (λ more.
    subst (λ (one : Tried Answer Refusal). Errs world fault.code (rest one)) (w.refusals question more.0 more.1)
    (met_there world sight fault (rest (tried_of question more.0)) w says more.2)) m
met_there world sight fault (pairs p q rest) w says m =
    ⊎_elim (λ either. inl (⊎_elim (λ one. inl (met_there world sight fault p w says one))
    (λ other. inr (met_there world sight fault q w says other)) either)) (λ more. inr (
      more.0,
      gives_there world sight p more.0.0 w more.1,
      gives_there world sight q more.0.1 w more.2,
      met_there world sight fault (rest more.0) w says more.3,
    )) m

-- Plans by their parts ------------------------------------------------------------------------------------------------

refused_none : (world : Question → Replied) (code : ℕ) (want : Want) → Refuses world code want
    → said_of world want ≡ None
refused_none world code (Want.Must question) h = ap must_say h
refused_none world code _ h = absurd h

none_beside : {A B : Type 0} (here : Option A) (there : Option B) → there ≡ None → two_of here there ≡ None
none_beside None there is = refl
none_beside (Some a) there is = rw is refl

-- what comes to an error gives nothing
pub errs_none : {A : Type 0} (world : Question → Replied) (code : ℕ) (p : Plan A) → Errs world code p
    → of_world world p ≡ None
unfolding of_world
errs_none world code (gives a) h = absurd h
errs_none world code (wants want rest) h =
    ⊎_elim (λ here. rw (refused_none world code want here) refl)
    (λ more. rw more.1 (errs_none world code (rest more.0) more.2)) h
errs_none world code (tries question rest) h = errs_none world code (rest (tried_of question (world question))) h
errs_none world code (pairs p q rest) h =
    ⊎_elim (λ either. ⊎_elim (λ one. rw (errs_none world code p one) refl)
    (λ other. rw (none_beside (of_world world p) (of_world world q) (errs_none world code q other)) refl) either)
    (λ more. rw (more.1, more.2) (errs_none world code (rest more.0) more.3)) h

-- what depends on a value
pub errs_chained : {A B : Type 0} (world : Question → Replied) (code : ℕ) (p : Plan A) (go : A → Plan B)
    → Errs world code (chained p go)
    → Errs world code p ⊎ ((a : A) × (of_world world p ≡ Some a) × Errs world code (go a))
unfolding of_world chained
errs_chained world code (gives a) go h = inr (a, refl, h)
errs_chained world code (wants want rest) go h =
    ⊎_elim (λ here. inl (inl here)) (λ more. ⊎_elim (λ one. inl (inr (more.0, more.1, one)))
    (λ behind. inr (behind.0, rw more.1 behind.1, behind.2)) (errs_chained world code (rest more.0) go more.2)) h
errs_chained world code (tries question rest) go h =
    errs_chained world code (rest (tried_of question (world question))) go h
errs_chained world code (pairs p q rest) go h =
    ⊎_elim (λ here. inl (inl here)) (λ more. ⊎_elim (λ one. inl (inr (more.0, more.1, more.2, one)))
    (λ behind. inr (behind.0, rw (more.1, more.2) behind.1, behind.2))
    (errs_chained world code (rest more.0) go more.3)) h

-- what depends on what depends on a value
pub errs_over : {A B C : Type 0} (world : Question → Replied) (code : ℕ) (p : Plan A) (f : A → Plan B)
    (go : B → Plan C)
    → Errs world code (chained (chained p f) go) → Errs world code (chained p (λ a. chained (f a) go))
unfolding chained
errs_over world code (gives a) f go h = h
errs_over world code (wants want rest) f go h =
    ⊎_elim (λ here. inl here) (λ more. inr (more.0, more.1, errs_over world code (rest more.0) f go more.2)) h
errs_over world code (tries question rest) f go h =
    errs_over world code (rest (tried_of question (world question))) f go h
errs_over world code (pairs p q rest) f go h =
    ⊎_elim (λ here. inl here) (λ more. inr (
      more.0,
      more.1,
      more.2,
      errs_over world code (rest more.0) f go more.3,
    )) h

pub errs_made : {A B : Type 0} (world : Question → Replied) (code : ℕ) (f : A → B) (p : Plan A)
    → Errs world code (made_with f p) → Errs world code p
unfolding made_with
errs_made world code f (gives a) h = h
errs_made world code f (wants want rest) h =
    ⊎_elim (λ here. inl here) (λ more. inr (more.0, more.1, errs_made world code f (rest more.0) more.2)) h
errs_made world code f (tries question rest) h =
    errs_made world code f (rest (tried_of question (world question))) h
errs_made world code f (pairs p q rest) h =
    ⊎_elim (λ here. inl here)
    (λ more. inr (more.0, more.1, more.2, errs_made world code f (rest more.0) more.3)) h

pub errs_both : {A B : Type 0} (world : Question → Replied) (code : ℕ) (p : Plan A) (q : Plan B)
    → Errs world code (both p q) → Errs world code p ⊎ Errs world code q
errs_both world code p q h = ⊎_elim (λ either. either) (λ more. absurd more.3) h

pub errs_each : {A B : Type 0} (world : Question → Replied) (code : ℕ) (f : A → Plan B)
    → ((a : A) → Errs world code (f a) → ⊥) → (items : List A) → Errs world code (each f items) → ⊥
unfolding each
errs_each world code f none [] h = h
errs_each world code f none (a ∷ others) h =
    ⊎_elim (λ either. ⊎_elim (none a) (errs_each world code f none others) either) (λ more. absurd more.3) h

-- a fact of a class may be absent
pub errs_fact : {A : Type 0} (world : Question → Replied) (code : ℕ) (read : Option Answer → A) (question : Question)
    → Errs world code (asking read (Want.Fact question)) → ⊥
errs_fact world code read question h = ⊎_elim (λ here. here) (λ more. more.2) h

pub errs_must : {A : Type 0} (world : Question → Replied) (code : ℕ) (read : Option Answer → A) (question : Question)
    → Errs world code (asking read (Want.Must question)) → world question ≡ an_error code
errs_must world code read question h = ⊎_elim (λ here. here) (λ more. absurd more.2) h
