-- Two ways to part one list, where each byte of a part passes a test and the one behind it doesn't.
use Rattle.std.proofs.Common.{◌≡◌, ℕ, ◌<◌, Bool, true, false, List, [], ◌∷◌, ◌++◌, length}
use Rattle.std.proofs.Common.{sym, ap, subst, ◌∙◌, refl, arith, ◌⊎◌, inl, inr}
use Rattle.std.specs.List.{AllByRecursion}
use Rattle.std.proofs.lemmas.Bool.{true≢false}
use Rattle.field_exprs.specs.Reading.{Stops}

-- each byte passes
abbrev pub AllPassing : (ℕ → Bool) → List ℕ → Type 0
AllPassing test bytes = AllByRecursion (λ byte. test byte ≡ true) bytes

never : {A : Type 0} (b : Bool) → b ≡ true → b ≡ false → A
never b passed failed = absurd (true≢false (sym passed ∙ failed))

pub same_head : (b c : ℕ) (bs cs : List ℕ) → b ∷ bs ≡ c ∷ cs → b ≡ c
same_head b c bs cs e = cc

-- what passes up to where it stops is one part
pub same_span : (test : ℕ → Bool) (xs ys u v : List ℕ) → AllPassing test xs → AllPassing test ys → Stops test u
    → Stops test v → xs ++ u ≡ ys ++ v → (xs ≡ ys) × (u ≡ v)
same_span test [] [] u v all others stop end e = (refl, e)
same_span test [] (y ∷ ys) u v all others stop end e =
    never (test y) others.0 (subst (Stops test) e stop)
same_span test (x ∷ xs) [] u v all others stop end e =
    never (test x) all.0 (subst (Stops test) (sym e) end)
same_span test (x ∷ xs) (y ∷ ys) u v all others stop end e =
    let first : x ≡ y = cc in
    let rest : xs ++ u ≡ ys ++ v = cc in
    let same = same_span test xs ys u v all.1 others.1 stop end rest in (
      ap (λ (n : ℕ). n ∷ xs) first ∙ ap (λ (l : List ℕ). y ∷ l) same.0,
      same.1,
    )

-- what passes before a byte is all that passes before one that doesn't, or the start of it
pub parts_before : (P : ℕ → Type 0) (xs ys u v : List ℕ) (b c : ℕ) → AllByRecursion P xs → AllByRecursion P ys → ¬ P c
    → xs ++ b ∷ u ≡ ys ++ c ∷ v
    → ((xs ≡ ys) × (b ≡ c) × (u ≡ v)) ⊎ ((zs : List ℕ) × (ys ≡ xs ++ b ∷ zs))
parts_before P [] [] u v b c all others stop e = inl (refl, cc, cc)
parts_before P [] (y ∷ ys) u v b c all others stop e =
    let first : b ≡ y = cc in inr (ys, ap (λ (n : ℕ). n ∷ ys) (sym first))
parts_before P (x ∷ xs) [] u v b c all others stop e = let first : x ≡ c = cc in absurd (stop (subst P first all.0))
parts_before P (x ∷ xs) (y ∷ ys) u v b c all others stop e =
    let first : x ≡ y = cc in
    let rest : xs ++ b ∷ u ≡ ys ++ c ∷ v = cc in
    elim (parts_before P xs ys u v b c all.1 others.1 stop rest) [
      | inl same ↦ inl (ap (λ (n : ℕ). n ∷ xs) first ∙ ap (λ (l : List ℕ). y ∷ l) same.0, same.1, same.2)
      | inr more ↦ inr (more.0, ap (λ (l : List ℕ). y ∷ l) more.1 ∙ ap (λ (n : ℕ). n ∷ (xs ++ b ∷ more.0)) (sym first))
    ]

-- of two fronts of a list the longer one goes on with the byte behind the shorter
pub longer_front : (xs ys u v : List ℕ) → xs ++ u ≡ ys ++ v → length xs < length ys
    → (b : ℕ) × (zs : List ℕ) × (ys ≡ xs ++ b ∷ zs) × (u ≡ b ∷ (zs ++ v))
longer_front [] [] u v e longer = absurd (omega arith)
longer_front [] (y ∷ ys) u v e longer = (y, ys, refl, e)
longer_front (x ∷ xs) [] u v e longer = absurd (omega arith)
longer_front (x ∷ xs) (y ∷ ys) u v e longer =
    let first : x ≡ y = cc in
    let rest : xs ++ u ≡ ys ++ v = cc in
    let more = longer_front xs ys u v rest (omega arith) in (
      more.0,
      more.1,
      ap (λ (l : List ℕ). y ∷ l) more.2 ∙ ap (λ (n : ℕ). n ∷ (xs ++ more.0 ∷ more.1)) (sym first),
      more.3,
    )

-- two lists begin alike, or both are empty
abbrev pub SameFirst : List ℕ → List ℕ → Type 0
SameFirst [] [] = Unit {0}
SameFirst [] (c ∷ cs) = ⊥
SameFirst (b ∷ bs) [] = ⊥
SameFirst (b ∷ bs) (c ∷ cs) = b ≡ c

pub same_first : (bytes : List ℕ) → SameFirst bytes bytes
same_first [] = tt
same_first (byte ∷ bytes) = refl

pub same_front : (front : List ℕ) (byte : ℕ) (u v : List ℕ) → SameFirst (front ++ byte ∷ u) (front ++ byte ∷ v)
same_front [] byte u v = refl
same_front (first ∷ front) byte u v = refl

pub stops_alike : (test : ℕ → Bool) (u v : List ℕ) → SameFirst u v → Stops test u → Stops test v
stops_alike test [] [] same stop = tt
stops_alike test [] (c ∷ cs) same stop = absurd same
stops_alike test (b ∷ bs) [] same stop = absurd same
stops_alike test (b ∷ bs) (c ∷ cs) same stop = subst (λ (n : ℕ). test n ≡ false) same stop
