-- The package of a signature, said of its parts.
use Rattle.std.proofs.Common.{◌≡◌, ℕ, zero, suc, ◌+◌, ◌-◌, ◌<◌, Bool, true, false, cond, List, [], ◌∷◌}
use Rattle.std.proofs.Common.{◌++◌, length, take}
use Rattle.std.proofs.Common.{drop, get_or, None, Some, option_map, refl, sym, ap, ◌∙◌, arith}
use Rattle.std.proofs.Common.{append_assoc}
use Rattle.std.proofs.Common.{length-append}
use Rattle.std.specs.Prelude.{◌==◌, ◌&&◌, nat_eq, codes}
use Rattle.std.specs.List.{starts_with, ends_with}
use Rattle.std.specs.Cmp.Lexicographic.{bytes_decides}
use Rattle.std.proofs.Math.Seq.{drop-append_seam, take-append_seam, get_or-append_seam, get_or-append_right}
use Rattle.std.proofs.lemmas.List.{take-append-drop}
use Rattle.std.proofs.lemmas.Bool.{cond-true, eqb-true}
use Rattle.class_tables.specs.Signatures.{class_path, package_of, package_in, HasNoSlash}
use Rattle.class_tables.proofs.PackageLaws.{cut_at_last, cut_at_none, HasNoneFrom}

-- a signature of a path
abbrev with_path : List ℕ → List ℕ
with_path path = 76 ∷ (path ++ 59 ∷ [])

ends_so : (path : List ℕ) → ends_with nat_eq (with_path path) (codes ";") ≡ true
ends_so path =
    let size = length-append path (59 ∷ []) in
    let before : length (with_path path) - length (codes ";") ≡ length (76 ∷ path) = omega arith in
    (bytes_decides (codes ";") (drop (length (with_path path) - length (codes ";")) (with_path path))).1
    (sym (ap (λ (n : ℕ). drop n (with_path path)) before ∙ drop-append_seam (76 ∷ path) (59 ∷ [])))

path_is : (path : List ℕ) → class_path (with_path path) ≡ Some path
path_is path =
    let size = length-append path (59 ∷ []) in
    let whole : length (with_path path) - 2 ≡ length path = omega arith in
    cond-true (ends_with nat_eq (with_path path) (codes ";"))
    (Some (take (length (with_path path) - 2) (path ++ 59 ∷ []))) None (ends_so path)
    ∙ ap (λ (n : ℕ). Some (take n (path ++ 59 ∷ []))) whole
    ∙ ap (λ (l : List ℕ). Some l) (take-append_seam path (59 ∷ []))

-- no byte of a name is a slash, by place
no_slash_at : (name : List ℕ) → HasNoSlash name → (k : ℕ) → k < length name → (get_or name k 0 == 47) ≡ false
no_slash_at [] none k within = absurd (omega arith)
no_slash_at (byte ∷ name) none zero within = by (byte == 47) refl
  where
    by : (b : Bool) → (byte == 47) ≡ b → b ≡ false
    by true e = absurd (none.0 (eqb-true byte 47 e))
    by false e = refl
no_slash_at (byte ∷ name) none (suc k) within = no_slash_at name none.1 k (omega arith)

none_behind : (above name : List ℕ) → HasNoSlash name → HasNoneFrom (above ++ 47 ∷ name) (length above + 1)
none_behind above name none k from within =
    let size = length-append above (47 ∷ name) in
    let place : k - length above ≡ suc (k - length above - 1) = omega arith in
    let there = get_or-append_right above (47 ∷ name) k 0 (omega arith)
    ∙ ap (λ (n : ℕ). get_or (47 ∷ name) n 0) place in
    ap (λ (n : ℕ). n == 47) there ∙ no_slash_at name none (k - length above - 1) (omega arith)

pub package_is : (above name : List ℕ) → HasNoSlash name → package_of (above ++ 47 ∷ name) ≡ above
package_is above name none =
    let size = length-append above (47 ∷ name) in
    let end : length above + 1 - 1 ≡ length above = omega arith in
    let slash : (get_or (above ++ 47 ∷ name) (length above + 1 - 1) 0 == 47) ≡ true =
    ap (λ (n : ℕ). get_or (above ++ 47 ∷ name) n 0 == 47) end
    ∙ ap (λ (n : ℕ). n == 47) (get_or-append_seam above 47 name 0) in
    sym (cut_at_last (above ++ 47 ∷ name) (length above + 1) (omega arith) (omega arith) slash
    (none_behind above name none))
    ∙ ap (λ (n : ℕ). take n (above ++ 47 ∷ name)) end ∙ take-append_seam above (47 ∷ name)

no_package : (name : List ℕ) → HasNoSlash name → package_of name ≡ []
no_package name none = sym (cut_at_none name (λ k from within. no_slash_at name none k within))

pub in_package : (above name : List ℕ) → HasNoSlash name
    → package_in (codes "L" ++ above ++ codes "/" ++ name ++ codes ";") ≡ Some above
in_package above name none =
    ap (option_map package_of) (path_is ((above ++ codes "/") ++ name))
    ∙ ap (λ (l : List ℕ). Some (package_of l)) (append_assoc above (codes "/") name)
    ∙ ap (λ (l : List ℕ). Some l) (package_is above name none)

pub in_default_package : (name : List ℕ) → HasNoSlash name → package_in (codes "L" ++ name ++ codes ";") ≡ Some []
in_default_package name none =
    ap (option_map package_of) (path_is name) ∙ ap (λ (l : List ℕ). Some l) (no_package name none)

-- what begins and ends so has a path between
has_path : (signature : List ℕ) → starts_with nat_eq signature (codes "L") ≡ true
    → ends_with nat_eq signature (codes ";") ≡ true → (path : List ℕ) × (signature ≡ with_path path)
has_path [] begins ends = absurd cc
has_path (byte ∷ []) begins ends =
    absurd (let first = (bytes_decides (codes "L") (byte ∷ [])).0 begins in
    let last = (bytes_decides (codes ";") (byte ∷ [])).0 ends in
    let one : 76 ≡ byte = cc in
    let other : 59 ≡ byte = cc in
    omega arith)
has_path (byte ∷ next ∷ more) begins ends =
    let signature : List ℕ = byte ∷ next ∷ more in
    let first = (bytes_decides (codes "L") (byte ∷ [])).0 begins in
    let is : 76 ≡ byte = cc in
    let last = (bytes_decides (codes ";") (drop (length signature - length (codes ";")) signature)).0 ends in
    let place : length signature - length (codes ";") ≡ suc (length more) = omega arith in
    let end : drop (length more) (next ∷ more) ≡ 59 ∷ [] =
    sym (last ∙ ap (λ (n : ℕ). drop n signature) place) in (
      take (length more) (next ∷ more),
      ap (λ (b : ℕ). b ∷ next ∷ more) (sym is)
          ∙ ap (λ (l : List ℕ). 76 ∷ l)
          (sym (take-append-drop (length more) (next ∷ more))
          ∙ ap (λ (l : List ℕ). take (length more) (next ∷ more) ++ l) end),
    )

pub has_none : (signature : List ℕ) → package_in signature ≡ None
    → (path : List ℕ) → ¬ (signature ≡ codes "L" ++ path ++ codes ";")
has_none signature none path is =
    let some : package_in signature ≡ Some (package_of path) =
    ap package_in is ∙ ap (option_map package_of) (path_is path) in
    absurd cc

pub none_has : (signature : List ℕ) → ((path : List ℕ) → ¬ (signature ≡ codes "L" ++ path ++ codes ";"))
    → package_in signature ≡ None
none_has signature never =
    by (starts_with nat_eq signature (codes "L")) refl (ends_with nat_eq signature (codes ";")) refl
  where
    by : (b : Bool) → starts_with nat_eq signature (codes "L") ≡ b → (c : Bool)
        → ends_with nat_eq signature (codes ";") ≡ c
        → option_map package_of (cond (b && c) (Some (take (length signature - 2) (drop 1 signature))) None) ≡ None
    by true e true f = let found = has_path signature e f in absurd (never found.0 found.1)
    by true e false f = refl
    by false e c f = refl
