-- Names that are digits between brackets.
use Rattle.std.proofs.Common.{◌≡◌, ◌≢◌, ◌&&◌, ◌++◌, ◌-◌, ◌∷◌, ℕ, Bool, true, false, List, [], refl, ap, ◌∙◌, arith}
use Rattle.std.proofs.Common.{Option, Some, bytes_eq, codes, length, nat_lt, rules, take, ◌==◌}
use Rattle.std.proofs.Math.Seq.{take-append_seam}
use Rattle.std.proofs.lemmas.List.{length-append}
use Rattle.std.proofs.lemmas.Slice.Eq.{bytes_eq-Decides}
use Rattle.std.specs.Bool.{Decides}
use Rattle.std.specs.Char.{is_ascii_digit}
use Rattle.std.specs.List.{list_all}
use Rattle.std.specs.Str.Parse.{digits_value}
use Rattle.std.proofs.lemmas.Str.Parse.{IsNumeralModel, numerals_by_value}
use Rattle.machine_model.specs.Children.{Child, Place}
use Rattle.machine_model.specs.declared.parts.Store.{Store}
use Rattle.machine_model.specs.Plans.{made_with}
use Rattle.machine_model.specs.Values.{Declared, declared_plan}
use Rattle.machine_model.specs.Writing.{Writing, child_written, digits_of, is_index_name, value_for, write_with}

-- a child is written where it stands, by what is declared of it
pub child_is : (w : Writing) (store_in : Place → Option Store) (child : Child) (store : Option Store)
    (declared : Declared) (place : Place) → child.declared ≡ declared → child.place ≡ place → store ≡ store_in place
    → made_with (λ signature. write_with w store signature (value_for signature w.text)) (declared_plan declared)
    ≡ child_written w store_in (Some child)
child_is w store_in child store declared place of at stands = rw (of, at, stands) refl

-- texts of decimal digits, in the library's words for numbers that are parsed
pub own : IsNumeralModel (λ ds. list_all is_ascii_digit ds ≡ true) (digits_value 10)
own = numerals_by_value _ (search rules)

-- what stands between the brackets
pub digits_inside : (inside : List ℕ) → digits_of (91 ∷ (inside ++ 93 ∷ [])) ≡ inside
digits_inside inside = ap (λ n. take n (inside ++ 93 ∷ [])) (count inside) ∙ take-append_seam inside (93 ∷ [])
  where
    count : (inside : List ℕ) → length (91 ∷ (inside ++ 93 ∷ [])) - 2 ≡ length inside
    count inside = let long = length-append inside (93 ∷ []) in omega (arith, long)

equal : (a b : List ℕ) → a ≡ b → bytes_eq a b ≡ true
equal a b same = (bytes_eq-Decides a b).1 same

pub some_digits : (digits : List ℕ) → (length digits == 0) ≡ false → nat_lt 0 (length digits) ≡ true
some_digits [] is = cc
some_digits (digit ∷ digits) is = grind arith

-- a name that is something between brackets is one where that is digits
pub index_some : (name inside : List ℕ) → name ≡ 91 ∷ (inside ++ 93 ∷ [])
    → (is_index_name name ≡ (nat_lt 0 (length inside) && list_all is_ascii_digit inside)) × (digits_of name ≡ inside)
index_some name inside is = (
  ap (λ digits. bytes_eq name (codes "[" ++ digits ++ codes "]") && nat_lt 0 (length digits)
      && list_all is_ascii_digit digits) same ∙ rw (equal name (91 ∷ (inside ++ 93 ∷ [])) is) refl,
  same,
)
  where
    same : digits_of name ≡ inside
    same = ap digits_of is ∙ digits_inside inside

-- another name is none
pub index_none : (name : List ℕ) → ((inside : List ℕ) → name ≢ 91 ∷ (inside ++ 93 ∷ [])) → is_index_name name ≡ false
index_none name other = by_test (bytes_eq name (codes "[" ++ digits_of name ++ codes "]"))
    (bytes_eq-Decides name (codes "[" ++ digits_of name ++ codes "]"))
  where
    by_test : (is : Bool) → Decides is (name ≡ codes "[" ++ digits_of name ++ codes "]")
        → (is && nat_lt 0 (length (digits_of name)) && list_all is_ascii_digit (digits_of name)) ≡ false
    by_test true same = absurd (other (digits_of name) (same.0 refl))
    by_test false same = refl
