-- The last slash of a path.
use Rattle.std.proofs.Common.{◌≡◌, ℕ, ◌-◌, ◌<◌, ◌≤◌, Bool, true, false, List, [], length, take, get_or, sym, ap}
use Rattle.std.proofs.Common.{arith}
use Rattle.std.specs.Prelude.{not, ◌==◌}
use Rattle.std.proofs.lemmas.List.Sums.{suffix_len_is}
use Rattle.std.specs.List.{suffix_len}
use Rattle.class_tables.specs.Signatures.{package_of}

abbrev is_other : ℕ → Bool
is_other byte = not (byte == 47)

-- the last slash stands before this place
abbrev pub HasNoneFrom : List ℕ → ℕ → Type 0
HasNoneFrom path end = (k : ℕ) → end ≤ k → k < length path → (get_or path k 0 == 47) ≡ false

pub cut_at_last : (path : List ℕ) (end : ℕ) → 0 < end → end ≤ length path → (get_or path (end - 1) 0 == 47) ≡ true
    → HasNoneFrom path end → take (end - 1) path ≡ package_of path
cut_at_last path end some within slash none =
    let others : suffix_len is_other path ≡ length path - end =
    suffix_len_is is_other path end 0 within (λ k from below. ap not (none k from below)) (λ positive. ap not slash) in
    let place : length path - suffix_len is_other path - 1 ≡ end - 1 = omega arith in
    ap (λ n. take n path) (sym place)

pub cut_at_none : (path : List ℕ) → HasNoneFrom path 0 → [] ≡ package_of path
cut_at_none path none =
    let others : suffix_len is_other path ≡ length path - 0 =
    suffix_len_is is_other path 0 0 (omega arith) (λ k from below. ap not (none k from below))
    (λ positive. absurd (omega arith)) in
    let place : length path - suffix_len is_other path - 1 ≡ 0 = omega arith in
    ap (λ n. take n path) (sym place)
