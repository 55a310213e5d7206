-- Reading a header byte by byte, and on behind what was read.
use Rattle.std.proofs.Common.{◌≡◌, ℕ, suc, ◌+◌, ◌<◌, ◌≤◌, List, [], ◌∷◌, ◌++◌, length, refl, sym, ap, ◌∙◌}
use Rattle.std.proofs.Common.{arith}
use Rattle.dap_frames.specs.declared.fault.FrameFault.{FrameFault}
use Rattle.dap_frames.specs.declared.header.Reading.{Reading}
use Rattle.dap_frames.specs.declared.header.Step.{Step}
use Rattle.dap_frames.specs.declared.header.Step.TheVariants.{Goes, Ends, Refused}
use Rattle.dap_frames.specs.declared.header.Head.{Head}
use Rattle.dap_frames.specs.declared.header.Head.TheVariants as heads
use Rattle.dap_frames.specs.Reading.{step, after_step, head, later, onward}

pub later-later : (j k : ℕ) (h : Head) → later j (later k h) ≡ later (j + k) h
later-later j k (heads.Reads r) = refl
later-later j k (heads.Ends n h) = ap (λ (m : ℕ). heads.Ends n m) (omega arith)
later-later j k (heads.Refused f p) = ap (λ (m : ℕ). heads.Refused f m) (omega arith)

pub later-zero : (h : Head) → later 0 h ≡ h
later-zero (heads.Reads r) = refl
later-zero (heads.Ends n h) = ap (λ (m : ℕ). heads.Ends n m) (omega arith)
later-zero (heads.Refused f p) = ap (λ (m : ℕ). heads.Refused f m) (omega arith)

-- What is said of bytes in two parts is what the first says, read on.
pub head-append : (r : Reading) (xs ys : List ℕ) → head r (xs ++ ys) ≡ onward (length xs) (head r xs) ys
head-append r [] ys = sym (later-zero (head r ys))
head-append r (x ∷ xs) ys = by (step r x) (λ t. head-append t xs ys)
  where
    through : (h : Head) → later 1 (onward (length xs) h ys) ≡ onward (suc (length xs)) (later 1 h) ys
    through (heads.Reads t) = later-later 1 (length xs) (head t ys) ∙ ap (λ (k : ℕ). later k (head t ys)) (omega arith)
    through (heads.Ends n h) = refl
    through (heads.Refused f p) = refl

    by : (s : Step) → ((t : Reading) → head t (xs ++ ys) ≡ onward (length xs) (head t xs) ys)
        → after_step s (λ t. head t (xs ++ ys)) ≡ onward (suc (length xs)) (after_step s (λ t. head t xs)) ys
    by (Goes t) rest = ap (later 1) (rest t) ∙ through (head t xs)
    by (Ends n) rest = refl
    by (Refused f) rest = refl

-- a header lies within its bytes
pub head-within : (r : Reading) (xs : List ℕ) (n h : ℕ) → head r xs ≡ heads.Ends n h → (0 < h) × (h ≤ length xs)
head-within r [] n h e = absurd cc
head-within r (x ∷ xs) n h e = by (step r x) (λ t m k. head-within t xs m k) e
  where
    through : (rest : Head) → ((m k : ℕ) → rest ≡ heads.Ends m k → (0 < k) × (k ≤ length xs))
        → later 1 rest ≡ heads.Ends n h
        → (0 < h) × (h ≤ suc (length xs))
    through (heads.Reads t) inside e = absurd cc
    through (heads.Ends m k) inside e =
        let same : 1 + k ≡ h = cc in
        let below = inside m k refl in
        (omega arith, omega (arith, below.1))
    through (heads.Refused f p) inside e = absurd cc

    by : (s : Step) → ((t : Reading) (m k : ℕ) → head t xs ≡ heads.Ends m k → (0 < k) × (k ≤ length xs))
        → after_step s (λ t. head t xs) ≡ heads.Ends n h → (0 < h) × (h ≤ suc (length xs))
    by (Goes t) inside e = through (head t xs) (inside t) e
    by (Ends m) inside e = let same : 1 ≡ h = cc in (omega arith, omega arith)
    by (Refused f) inside e = absurd cc

-- and a refused byte is one of them
pub head-refused : (r : Reading) (xs : List ℕ) (f : FrameFault) (p : ℕ) → head r xs ≡ heads.Refused f p → p < length xs
head-refused r [] f p e = absurd cc
head-refused r (x ∷ xs) f p e = by (step r x) (λ t g q. head-refused t xs g q) e
  where
    through : (rest : Head) → ((g : FrameFault) (q : ℕ) → rest ≡ heads.Refused g q → q < length xs)
        → later 1 rest ≡ heads.Refused f p → p < suc (length xs)
    through (heads.Reads t) inside e = absurd cc
    through (heads.Ends n h) inside e = absurd cc
    through (heads.Refused g q) inside e =
        let same : 1 + q ≡ p = cc in
        omega (arith, inside g q refl)

    by : (s : Step) → ((t : Reading) (g : FrameFault) (q : ℕ) → head t xs ≡ heads.Refused g q → q < length xs)
        → after_step s (λ t. head t xs) ≡ heads.Refused f p → p < suc (length xs)
    by (Goes t) inside e = through (head t xs) (inside t) e
    by (Ends m) inside e = absurd cc
    by (Refused g) inside e = let same : 0 ≡ p = cc in omega arith
