-- The beginning of the usual header, and reading on in it.
use Rattle.std.proofs.Common.{◌≡◌, ℕ, zero, suc, ◌+◌, ◌<◌, ◌≤◌, List, ◌++◌, length, take, drop, None, Some, arith}
use Rattle.std.proofs.Common.{refl, sym, ap, subst, ◌∙◌, inl, inr}
use Rattle.std.proofs.lemmas.Bool.{cases_lt}
use Rattle.std.proofs.lemmas.List.{take-append-drop, length-take}
use Rattle.std.proofs.Math.Seq.{take-add}
use Rattle.dap_frames.specs.declared.header.Reading.{Reading}
use Rattle.dap_frames.specs.declared.header.Reading.TheVariants.{Line, Name, Digits}
use Rattle.dap_frames.specs.declared.header.Head.{Head}
use Rattle.dap_frames.specs.declared.header.Head.TheVariants as heads
use Rattle.dap_frames.specs.declared.usual.TheConstants.{USUAL_LINE}
use Rattle.dap_frames.specs.Reading.{head, later, onward}
use Rattle.dap_frames.proofs.Heads.{head-append}

-- what holds of each number below n
abbrev EachBelow : (ℕ → Type 0) → ℕ → Type 0
EachBelow P zero = Unit {0}
EachBelow P (suc n) = P n × EachBelow P n

each-below : (P : ℕ → Type 0) (n : ℕ) → EachBelow P n → (k : ℕ) → k < n → P k
each-below P zero all k less = absurd (omega arith)
each-below P (suc n) all k less =
    elim (cases_lt k n) [
      | inl below ↦ each-below P n all.1 k below
      | inr last ↦ let same : n ≡ k = omega arith in subst P same all.0
    ]

-- within the name
pub in-name : (k : ℕ) → 0 < k → k ≤ 14 → head (Line None) (take k USUAL_LINE) ≡ heads.Reads (Name None (Some k))
in-name zero some few = absurd (omega arith)
in-name (suc k) some few =
    each-below (λ k. head (Line None) (take (suc k) USUAL_LINE) ≡ heads.Reads (Name None (Some (suc k)))) 14
    (refl, (refl, (refl, (refl, (refl, (refl, (refl, (refl, (refl, (refl, (refl, (refl, (refl, (refl, tt))))))))))))))
    k (omega arith)

-- behind the colon, and behind the blank
pub behind-name : (k : ℕ) → 14 < k → k ≤ 16 → head (Line None) (take k USUAL_LINE) ≡ heads.Reads (Digits 0 0)
behind-name k some few =
    elim (cases_lt k 16) [
      | inl less ↦ let e : k ≡ 15 = omega arith in rw e refl
      | inr more ↦ let e : k ≡ 16 = omega arith in rw e refl
    ]

-- where a place is only moved, the reading is the same
reads-later : (k : ℕ) (h : Head) (s : Reading) → later k h ≡ heads.Reads s → h ≡ heads.Reads s
reads-later k (heads.Reads t) s e = e
reads-later k (heads.Ends n h) s e = absurd cc
reads-later k (heads.Refused f p) s e = absurd cc

-- The first k bytes of a line lead to r, and its first k + n to s: so n bytes that go on with it lead from r to s.
pub read-line : (line bytes : List ℕ) (k n : ℕ) (r s : Reading) → k ≤ length line
    → head (Line None) (take k line) ≡ heads.Reads r → head (Line None) (take (k + n) line) ≡ heads.Reads s
    → take n bytes ≡ take n (drop k line) → n ≤ length bytes
    → later n (head s (drop n bytes)) ≡ head r bytes
read-line line bytes k n r s inside before behind same within =
    let on : later (length (take k line)) (head r (take n bytes)) ≡ heads.Reads s =
    ap (λ (h : Head). onward (length (take k line)) h (take n bytes)) (sym before)
    ∙ sym (head-append (Line None) (take k line) (take n bytes))
    ∙ ap (λ (l : List ℕ). head (Line None) (take k line ++ l)) same
    ∙ ap (head (Line None)) (sym (take-add k n line)) ∙ behind in
    let first : head r (take n bytes) ≡ heads.Reads s =
    reads-later (length (take k line)) (head r (take n bytes)) s on in
    let len : length (take n bytes) ≡ n = omega (arith, length-take n bytes) in
    sym (
    ap (head r) (sym (take-append-drop n bytes)) ∙ head-append r (take n bytes) (drop n bytes)
    ∙ ap (λ (h : Head). onward (length (take n bytes)) h (drop n bytes)) first
    ∙ ap (λ (m : ℕ). later m (head s (drop n bytes))) len
    )
