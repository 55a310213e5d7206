-- The sign that a text begins with.
use Rattle.std.proofs.Common.{◌≡◌, ℕ, Bool, true, false, List, [], ◌∷◌, ◌++◌, ap, subst, ◌∙◌, refl}
use Rattle.std.proofs.Common.{Option, Some, None}
use Rattle.std.specs.Prelude.{◌==◌, if◌then◌else◌}
use Rattle.std.specs.List.{AllByRecursion}
use Rattle.std.proofs.lemmas.Bool.{eqb-true}
use Rattle.break_rules.specs.Parsing.{behind_sign, sign_in, sign_or}

-- what is behind a sign stands there
pub behind_from : (sign text rest : List ℕ) → behind_sign sign text ≡ Some rest → text ≡ sign ++ rest
behind_from [] text rest found = cc
behind_from (byte ∷ bytes) [] rest found = absurd cc
behind_from (byte ∷ bytes) (first ∷ text) rest found =
    by (first == byte) refl (behind_from bytes text rest) found
  where
    by : (b : Bool) → (first == byte) ≡ b → (behind_sign bytes text ≡ Some rest → text ≡ bytes ++ rest)
        → (if b then behind_sign bytes text else None) ≡ Some rest → first ∷ text ≡ byte ∷ (bytes ++ rest)
    by false e others none = absurd cc
    by true e others some =
        ap (λ (n : ℕ). n ∷ text) (eqb-true first byte e) ∙ ap (λ (l : List ℕ). byte ∷ l) (others some)

-- a sign that was found stands at the front, as it is written
pub sign_from : {A : Type 0} (write : A → List ℕ) (signs : List (List ℕ × A))
    → AllByRecursion (λ (sign : List ℕ × A). sign.0 ≡ write sign.1) signs → (text : List ℕ) (found : A × List ℕ)
    → sign_in signs text ≡ Some found → text ≡ write found.0 ++ found.1
sign_from write [] written text found is = absurd cc
sign_from {A} write (sign ∷ signs) written text found is =
    by (behind_sign sign.0 text) refl (sign_from write signs written.1 text found) is
  where
    by : (behind : Option (List ℕ)) → behind_sign sign.0 text ≡ behind
        → (sign_in signs text ≡ Some found → text ≡ write found.0 ++ found.1)
        → sign_or sign.1 behind (sign_in signs text) ≡ Some found → text ≡ write found.0 ++ found.1
    by None e more others = more others
    by (Some rest) e more some =
        let same : (sign.1, rest) ≡ found = cc in
        subst (λ (f : A × List ℕ). text ≡ write f.0 ++ f.1) same
        (behind_from sign.0 text rest e ∙ ap (λ (l : List ℕ). l ++ rest) written.0)
