-- What the first numbers that are kept say of all stops.
use Rattle.std.proofs.Common.{◌≡◌, ℕ, zero, suc, ◌+◌, ◌-◌, ◌<◌, ◌≤◌, cond, List, [], ◌∷◌, ◌++◌, length}
use Rattle.std.proofs.Common.{get_or, refl, sym, ap, ◌∙◌, arith}
use Rattle.std.specs.Prelude.{replicate, nat_le}
use Rattle.std.proofs.lemmas.List.{append_assoc, append-nil, length-append, length-replicate}
use Rattle.std.specs.List.Sorted.{IsNonDecreasingBy}
use Rattle.std.proofs.lemmas.List.Sums.{sum_by-cons, sum_by-append}
use Rattle.stop_refs.specs.declared.start.Start.{Start}
use Rattle.stop_refs.specs.Numbers.{stop_with}
use Rattle.stop_refs.specs.Starts.{firsts_of, AreKept}

-- one more of the same stands behind the others
replicate-suc : (n x : ℕ) → replicate (suc n) x ≡ replicate n x ++ x ∷ []
replicate-suc zero x = refl
replicate-suc (suc n) x = ap (λ (l : List ℕ). x ∷ l) (replicate-suc n x)

one_more : (behind last x : ℕ) → behind ≤ last
    → replicate (last + 1 - behind) x ≡ replicate (last - behind) x ++ x ∷ []
one_more behind last x below =
    let n : last + 1 - behind ≡ suc (last - behind) = omega arith in
    ap (λ (n : ℕ). replicate n x) n ∙ replicate-suc (last - behind) x

-- where nothing was told in the stop behind the last one
pub firsts-untold : (behind low last first : ℕ) (starts : List Start) → AreKept behind low last first starts
    → firsts_of behind (last + 1) first starts ≡ firsts_of behind last first starts ++ first ∷ []
firsts-untold behind low last first [] kept = one_more behind last first kept.0
firsts-untold behind low last first (s ∷ starts) kept =
    ap (λ (l : List ℕ). replicate (s.stop - behind) s.first ++ l)
    (firsts-untold s.stop s.first last first starts kept.2)
    ∙ sym (append_assoc (replicate (s.stop - behind) s.first) (firsts_of s.stop last first starts) (first ∷ []))

pub kept-untold : (behind low last first : ℕ) (starts : List Start) → AreKept behind low last first starts
    → AreKept behind low (last + 1) first starts
kept-untold behind low last first [] kept = let k = kept.0 in (omega arith, kept.1)
kept-untold behind low last first (s ∷ starts) kept =
    (kept.0, kept.1, kept-untold s.stop s.first last first starts kept.2)

-- where something was told in it, its start is put behind the others
pub firsts-told : (behind low last first next : ℕ) (starts : List Start) → AreKept behind low last first starts
    → firsts_of behind (last + 1) next (starts ++ record { stop = last + 1; first = first } ∷ [])
    ≡ firsts_of behind last first starts ++ first ∷ []
firsts-told behind low last first next [] kept =
    let none : last + 1 - (last + 1) ≡ 0 = omega arith in
    ap (λ (n : ℕ). replicate (last + 1 - behind) first ++ replicate n next) none
    ∙ append-nil (replicate (last + 1 - behind) first)
    ∙ one_more behind last first kept.0
firsts-told behind low last first next (s ∷ starts) kept =
    ap (λ (l : List ℕ). replicate (s.stop - behind) s.first ++ l)
    (firsts-told s.stop s.first last first next starts kept.2)
    ∙ sym (append_assoc (replicate (s.stop - behind) s.first) (firsts_of s.stop last first starts) (first ∷ []))

pub kept-told : (behind low last first next : ℕ) (starts : List Start) → AreKept behind low last first starts
    → first ≤ next → AreKept behind low (last + 1) next (starts ++ record { stop = last + 1; first = first } ∷ [])
kept-told behind low last first next [] kept rises =
    let k = kept.0 in
    (omega arith, kept.1, (omega arith, rises))
kept-told behind low last first next (s ∷ starts) kept rises =
    (kept.0, kept.1, kept-told s.stop s.first last first next starts kept.2 rises)

-- each stop has its first number
pub length-firsts : (behind low last next : ℕ) (starts : List Start) → AreKept behind low last next starts
    → length (firsts_of behind last next starts) + behind ≡ last
length-firsts behind low last next [] kept =
    let k = kept.0 in
    omega (arith, length-replicate (last - behind) next)
length-firsts behind low last next (s ∷ starts) kept =
    let others = length-firsts s.stop s.first last next starts kept.2 in
    let k = kept.0 in
    omega (
      arith,
      length-append (replicate (s.stop - behind) s.first) (firsts_of s.stop last next starts),
      length-replicate (s.stop - behind) s.first,
    )

count-∷ : (n first : ℕ) (others : List ℕ)
    → stop_with (first ∷ others) n ≡ cond (nat_le first n) 1 0 + stop_with others n
count-∷ n first others = sum_by-cons (λ first. cond (nat_le first n) 1 0) first others

-- no stop counts that began behind a number
all_above : (n x times : ℕ) → n < x → stop_with (replicate times x) n ≡ 0
all_above n x zero above = refl
all_above n x (suc times) above =
    let others : stop_with (replicate times x) n ≡ 0 = all_above n x times above in
    let first : cond {A = ℕ} (nat_le x n) 1 0 ≡ 0 = grind arith in
    count-∷ n x (replicate times x) ∙ omega arith

all_below : (n x times : ℕ) → x ≤ n → stop_with (replicate times x) n ≡ times
all_below n x zero below = refl
all_below n x (suc times) below =
    let others : stop_with (replicate times x) n ≡ times = all_below n x times below in
    let first : cond {A = ℕ} (nat_le x n) 1 0 ≡ 1 = grind arith in
    count-∷ n x (replicate times x) ∙ omega arith

count-append : (n : ℕ) (xs ys : List ℕ) → stop_with (xs ++ ys) n ≡ stop_with xs n + stop_with ys n
count-append n xs ys = sum_by-append (λ first. cond (nat_le first n) 1 0) xs ys

none_above : (n behind low last next : ℕ) (starts : List Start) → AreKept behind low last next starts → n < low
    → stop_with (firsts_of behind last next starts) n ≡ 0
none_above n behind low last next [] kept above =
    let rises = kept.1 in
    all_above n next (last - behind) (omega arith)
none_above n behind low last next (s ∷ starts) kept above =
    let rises = kept.1 in
    let first = all_above n s.first (s.stop - behind) (omega arith) in
    let others = none_above n s.stop s.first last next starts kept.2 (omega arith) in
    omega (arith, count-append n (replicate (s.stop - behind) s.first) (firsts_of s.stop last next starts))

-- the stop in front of a place, where the one behind which all stand is known
abbrev pub stop_before : ℕ → List Start → ℕ → ℕ
stop_before behind starts zero = behind
stop_before behind starts (suc i) = (get_or starts i (record { stop = 0; first = 0 })).stop

stop_before-∷ : (behind : ℕ) (s : Start) (starts : List Start) (i : ℕ)
    → stop_before s.stop starts i ≡ stop_before behind (s ∷ starts) (suc i)
stop_before-∷ behind s starts zero = refl
stop_before-∷ behind s starts (suc i) = refl

-- all that began with a number or below it stand in front of a place
pub record IsSplit (n i : ℕ) (starts : List Start) : Type 0 where
  pub within : i ≤ length starts
  pub below : (k : ℕ) (d : Start) → k < i → (get_or starts k d).first ≤ n
  pub above : (k : ℕ) (d : Start) → i ≤ k → k < length starts → n < (get_or starts k d).first

split_behind : (n i : ℕ) (s : Start) (starts : List Start) → IsSplit n (suc i) (s ∷ starts) → IsSplit n i starts
split_behind n i s starts split = record {
  within = let w = split.within in omega arith;
  below = λ k d before. split.below (suc k) d (omega arith);
  above = λ k d behind inside. split.above (suc k) d (omega arith) (omega arith);
}

-- the stop that gave a number is the one in front of that place
pub counted : (n behind low last next i : ℕ) (starts : List Start) → AreKept behind low last next starts → n < next
    → IsSplit n i starts → stop_with (firsts_of behind last next starts) n + behind ≡ stop_before behind starts i
counted n behind low last next zero [] kept above split =
    let none = all_above n next (last - behind) above in
    omega arith
counted n behind low last next (suc i) [] kept above split = absurd (let w = split.within in omega arith)
counted n behind low last next zero (s ∷ starts) kept above split =
    let none = none_above n behind s.first last next (s ∷ starts) (kept.0, omega arith, kept.2)
    (split.above zero s (omega arith) (omega arith)) in
    omega arith
counted n behind low last next (suc i) (s ∷ starts) kept above split =
    let first = all_below n s.first (s.stop - behind) (split.below zero s (omega arith)) in
    let others = counted n s.stop s.first last next i starts kept.2 above (split_behind n i s starts split) in
    let rises = kept.0 in
    let whole = count-append n (replicate (s.stop - behind) s.first) (firsts_of s.stop last next starts) in
    let sum : stop_with (firsts_of behind last next (s ∷ starts)) n + behind ≡ stop_before s.stop starts i =
    omega arith in
    sum ∙ stop_before-∷ behind s starts i

low_below : (behind low last next : ℕ) (starts : List Start) → AreKept behind low last next starts
    → (k : ℕ) (d : Start) → k < length starts → low ≤ (get_or starts k d).first
low_below behind low last next [] kept k d inside = absurd (omega arith)
low_below behind low last next (s ∷ starts) kept zero d inside = kept.1
low_below behind low last next (s ∷ starts) kept (suc k) d inside =
    let others = low_below s.stop s.first last next starts kept.2 k d (omega arith) in
    let rises = kept.1 in
    omega arith

pub firsts_rise : (behind low last next : ℕ) (starts : List Start) → AreKept behind low last next starts
    → IsNonDecreasingBy (λ (start : Start). start.first) starts
firsts_rise behind low last next [] kept i j d order inside = absurd (omega arith)
firsts_rise behind low last next (s ∷ starts) kept zero zero d order inside = omega arith
firsts_rise behind low last next (s ∷ starts) kept zero (suc j) d order inside =
    low_below s.stop s.first last next starts kept.2 j d (omega arith)
firsts_rise behind low last next (s ∷ starts) kept (suc i) zero d order inside = absurd (omega arith)
firsts_rise behind low last next (s ∷ starts) kept (suc i) (suc j) d order inside =
    firsts_rise s.stop s.first last next starts kept.2 i j d (omega arith) (omega arith)
