-- The bytes of a name, and how much of `content-length` it is.
use Rattle.std.proofs.Common.{◌≡◌, ℕ, suc, ◌+◌, ◌-◌, ◌<◌, ◌≤◌, Bool, true, false, ◌&&◌, not, cond, ltb, leb, eqb, List}
use Rattle.std.proofs.Common.{[], ◌∷◌, ◌++◌, length, map, get_or, drop, Option, Some, None, refl, sym, ap, ◌∙◌, arith}
use Rattle.std.specs.Char.{to_ascii_lowercase}
use Rattle.std.proofs.lemmas.Bool.{and_parts, and_from, le-leb, leb-true, lt-ltb, ltb-true, eqb-true, eqb-false, eq-eqb}
use Rattle.std.proofs.lemmas.Bool.{ne_eqb, not-true}
use Rattle.std.proofs.lemmas.List.{drop_more, length-drop}
use Rattle.dap_frames.specs.declared.header.TheConstants.{LENGTH_NAME}
use Rattle.dap_frames.specs.Reading.{is_name_byte, next_match, is_length_name}
use Rattle.dap_frames.specs.Frames.{IsNameByte, IsLengthName}

pub name-byte-true : (b : ℕ) → IsNameByte b → is_name_byte b ≡ true
name-byte-true b is =
    and_from (leb 33 b && leb b 126) (not (eqb b 58))
    (and_from (leb 33 b) (leb b 126) (le-leb 33 b is.0) (le-leb b 126 is.1))
    (ap not (ne_eqb b 58 is.2))

pub name-byte-is : (b : ℕ) → is_name_byte b ≡ true → IsNameByte b
name-byte-is b e =
    let parts = and_parts (leb 33 b && leb b 126) (not (eqb b 58)) e in
    let range = and_parts (leb 33 b) (leb b 126) parts.0 in
    (leb-true 33 b range.0, leb-true b 126 range.1, eqb-false b 58 (not-true (eqb b 58) parts.1))

-- what a whole name is of `content-length`
abbrev pub matched : Option ℕ → List ℕ → Option ℕ
matched m [] = m
matched m (b ∷ bs) = matched (next_match m b) bs

pub matched-none : (bs : List ℕ) → matched None bs ≡ None
matched-none [] = refl
matched-none (b ∷ bs) = matched-none bs

pub matched-more : (m : Option ℕ) (bs : List ℕ) (b : ℕ) → matched m (bs ++ b ∷ []) ≡ next_match (matched m bs) b
matched-more m [] b = refl
matched-more m (c ∷ bs) b = matched-more (next_match m c) bs b

-- a name that is the rest of `content-length`, from its k-th byte on, ends the match
pub ends-match : (name : List ℕ) (k : ℕ) → k ≤ 14 → map to_ascii_lowercase name ≡ drop k LENGTH_NAME
    → is_length_name (matched (Some k) name) ≡ true
ends-match [] k le e = eq-eqb k 14 (omega (arith, ap length e, length-drop k LENGTH_NAME))
ends-match (b ∷ bs) k le e =
    let size : suc (length (map to_ascii_lowercase bs)) ≡ 14 - k = ap length e ∙ length-drop k LENGTH_NAME in
    let inside : k < 14 = omega arith in
    let split : to_ascii_lowercase b ∷ map to_ascii_lowercase bs ≡ get_or LENGTH_NAME k 0 ∷ drop (k + 1) LENGTH_NAME =
    e ∙ drop_more LENGTH_NAME k 0 inside in
    let first : get_or LENGTH_NAME k 0 ≡ to_ascii_lowercase b = cc in
    let rest : map to_ascii_lowercase bs ≡ drop (k + 1) LENGTH_NAME = cc in
    let goes : next_match (Some k) b ≡ Some (k + 1) =
    ap (λ (t : Bool). cond t (Some (k + 1)) None)
    (and_from (ltb k 14) (eqb (get_or LENGTH_NAME k 0) (to_ascii_lowercase b)) (lt-ltb k 14 inside)
    (eq-eqb (get_or LENGTH_NAME k 0) (to_ascii_lowercase b) first)) in
    ap (λ (m : Option ℕ). is_length_name (matched m bs)) goes ∙ ends-match bs (k + 1) (omega arith) rest

pub match-ends : (name : List ℕ) (k : ℕ) → k ≤ 14 → is_length_name (matched (Some k) name) ≡ true
    → map to_ascii_lowercase name ≡ drop k LENGTH_NAME
match-ends [] k le e = ap (λ (j : ℕ). drop j LENGTH_NAME) (sym (eqb-true k 14 e))
match-ends (b ∷ bs) k le e =
    by (ltb k 14 && eqb (get_or LENGTH_NAME k 0) (to_ascii_lowercase b)) refl e (match-ends bs (k + 1))
  where
    by : (here : Bool) → (ltb k 14 && eqb (get_or LENGTH_NAME k 0) (to_ascii_lowercase b)) ≡ here
        → is_length_name (matched (cond here (Some (k + 1)) None) bs) ≡ true
        → (k + 1 ≤ 14 → is_length_name (matched (Some (k + 1)) bs) ≡ true
        → map to_ascii_lowercase bs ≡ drop (k + 1) LENGTH_NAME)
        → to_ascii_lowercase b ∷ map to_ascii_lowercase bs ≡ drop k LENGTH_NAME
    by true here e rest =
        let parts = and_parts (ltb k 14) (eqb (get_or LENGTH_NAME k 0) (to_ascii_lowercase b)) here in
        let inside : k < 14 = ltb-true k 14 parts.0 in
        let first : get_or LENGTH_NAME k 0 ≡ to_ascii_lowercase b =
        eqb-true (get_or LENGTH_NAME k 0) (to_ascii_lowercase b) parts.1 in
        ap (λ (c : ℕ). c ∷ map to_ascii_lowercase bs) (sym first)
        ∙ ap (λ (l : List ℕ). get_or LENGTH_NAME k 0 ∷ l) (rest (omega arith) e) ∙ sym
        (drop_more LENGTH_NAME k 0 inside)
    by false here e rest =
        absurd (none (sym (ap is_length_name (matched-none bs)) ∙ e))
      where
        none : false ≡ true → ⊥
        none e = cc

pub length-name-true : (name : List ℕ) → IsLengthName name → is_length_name (matched (Some 0) name) ≡ true
length-name-true name e = ends-match name 0 (omega arith) e

pub length-name-is : (name : List ℕ) → is_length_name (matched (Some 0) name) ≡ true → IsLengthName name
length-name-is name e = match-ends name 0 (omega arith) e
