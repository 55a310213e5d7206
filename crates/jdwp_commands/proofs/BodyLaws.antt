-- What was read is all of a body.
use Rattle.std.proofs.Common.{◌≡◌, ℕ, Bool, true, false, cond, eqb, List, [], ◌++◌, length, Result, Ok, Err, refl, sym}
use Rattle.std.proofs.Common.{ap, ◌∙◌}
use Rattle.std.specs.Prelude.{IfOk}
use Rattle.std.proofs.lemmas.Bool.{eqb-true}
use Rattle.std.proofs.lemmas.List.{append-nil, nil_from_length}
use Rattle.jdwp_values.specs.declared.fault.RowFault.{RowFault}
use Rattle.jdwp_values.specs.declared.sizes.IdSizes.{IdSizes}
use Rattle.jdwp_values.specs.Reading.{Place, behind, offset}
use Rattle.jdwp_values.specs.Rows.{◌>>=◌}
use Rattle.jdwp_values.proofs.RowLaws.{bind_ok, TakesPlace}
use Rattle.jdwp_commands.specs.declared.fault.BodyFault.{BodyFault}
use Rattle.jdwp_commands.specs.declared.fault.BodyFault.TheVariants.{Trailing}
use Rattle.jdwp_commands.specs.Bodies.{in_body, ended, start, whole, IsRead}

in_body_ok : {A : Type 0} (r : Result A RowFault) (x : A) → in_body r ≡ Ok x → r ≡ Ok x
in_body_ok {A} (Ok y) x e = let is : y ≡ x = cc in ap (λ (z : A). Ok z) is
in_body_ok (Err d) x e = absurd cc

ended_ok : {A : Type 0} (b : Bool) (d : BodyFault) (x y : A) → cond b (Ok x) (Err d) ≡ Ok y → (b ≡ true) × (x ≡ y)
ended_ok true d x y e = (refl, cc)
ended_ok false d x y e = absurd cc

pub record IsWhole {A : Type 0} (read : Place → Result (A × Place) RowFault) (sizes : IdSizes) (body : List ℕ) (x : A) :
    Type 0 where
  pub found : A × Place
  pub reads : read (start sizes body) ≡ Ok found
  pub is : found.0 ≡ x
  pub nothing : found.1.rest ≡ []

pub whole_found : {A : Type 0} (read : Place → Result (A × Place) RowFault) (sizes : IdSizes) (body : List ℕ) (x : A)
    → whole read sizes body ≡ Ok x → IsWhole read sizes body x
whole_found {A} read sizes body x e =
    let a = bind_ok (in_body (read (start sizes body))) (λ y. ended y) x e in
    let g = ended_ok (eqb (length a.0.1.rest) 0) (Trailing (offset a.0.1)) a.0.0 x a.2 in
    record {
      found = a.0;
      reads = in_body_ok (read (start sizes body)) a.0 a.1;
      is = g.1;
      nothing = nil_from_length
          a.0.1.rest (eqb-true _ _ g.0);
    }

pub whole_again : {A : Type 0} (read : Place → Result (A × Place) RowFault) (sizes : IdSizes) (body : List ℕ) (x : A)
    → read (start sizes body) ≡ Ok (x, behind (start sizes body) []) → whole read sizes body ≡ Ok x
whole_again {A} read sizes body x e = ap (λ (r : Result (A × Place) RowFault). in_body r >>= λ y. ended y) e

-- what was taken from a whole body is the body
pub all_taken : (sizes : IdSizes) (body text : List ℕ) (new : Place) → TakesPlace (start sizes body) text new
    → new.rest ≡ [] → body ≡ text
all_taken sizes body text new t nothing =
    let rest_is : t.rest ≡ new.rest = ap (λ (p : Place). p.rest) (sym t.new_is) in
    t.takes.parts ∙ ap (λ (r : List ℕ). text ++ r) (rest_is ∙ nothing) ∙ append-nil text

pub of_read : {A : Type 0} (P : A → Type 0) (read r : Result A BodyFault) → ((x : A) → read ≡ Ok x → P x)
    → IsRead read r → IfOk r P
of_read P read (Ok x) holds given = holds x given
of_read P read (Err d) holds given = tt
