-- The brackets of an array's dimensions.
use Rattle.std.proofs.Common.{◌≡◌, ℕ, zero, suc, ◌+◌, Bool, true, false, cond, List, [], ◌∷◌, ◌++◌, Some, None, length}
use Rattle.std.proofs.Common.{sym, ap, ◌∙◌, refl, append_assoc, add-one}
use Rattle.std.specs.Prelude.{◌==◌, codes}
use Rattle.value_views.specs.Names.{brackets, plain_name, element_in, class_name}

last_pair : (n : ℕ) → brackets n ++ codes "[]" ≡ brackets (suc n)
last_pair zero = refl
last_pair (suc n) = ap (λ (l : List ℕ). 91 ∷ 93 ∷ l) (last_pair n)

-- a pair is written behind those before it
pub pair_written : (name text new : List ℕ) (n : ℕ) → text ≡ name ++ brackets n → new ≡ text ++ codes "[]"
    → new ≡ name ++ brackets (n + 1)
pair_written name text new n before written =
    written ∙ ap (λ (l : List ℕ). l ++ codes "[]") before ∙ append_assoc name (brackets n) (codes "[]")
    ∙ ap (λ (l : List ℕ). name ++ l) (last_pair n ∙ ap brackets (sym (add-one n)))

-- an array's name is that of its elements, and a pair
pub pair_seen : (signature element rest : List ℕ) (n : ℕ) → class_name signature ≡ class_name element ++ brackets n
    → Some rest ≡ element_in element
    → (class_name signature ≡ class_name rest ++ brackets (n + 1)) × (length element ≡ suc (length rest))
pair_seen signature [] rest n before there = absurd cc
pair_seen signature (byte ∷ bytes) rest n before there = by (byte == 91) before there
  where
    by : (b : Bool)
        → class_name signature ≡ cond b (class_name bytes ++ codes "[]") (plain_name (byte ∷ bytes)) ++ brackets n
        → Some rest ≡ cond b (Some bytes) None
        → (class_name signature ≡ class_name rest ++ brackets (n + 1)) × (suc (length bytes) ≡ suc (length rest))
    by true before there =
        let same : rest ≡ bytes = cc in (
          before ∙ append_assoc (class_name bytes) (codes "[]") (brackets n)
              ∙ ap (λ (m : ℕ). class_name bytes ++ brackets m) (sym (add-one n))
              ∙ ap (λ (l : List ℕ). class_name l ++ brackets (n + 1)) (sym same),
          ap (λ (l : List ℕ). suc (length l)) (sym same),
        )
    by false before there = absurd cc

-- what is no array has no pair
pub no_pair : (element : List ℕ) → None ≡ element_in element → class_name element ≡ plain_name element
no_pair [] there = refl
no_pair (byte ∷ bytes) there = by (byte == 91) there
  where
    by : (b : Bool) → None ≡ cond b (Some bytes) None
        → cond b (class_name bytes ++ codes "[]") (plain_name (byte ∷ bytes)) ≡ plain_name (byte ∷ bytes)
    by true there = absurd cc
    by false there = refl
