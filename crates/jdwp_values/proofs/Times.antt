-- Reading one row after the other, as a loop does.
use Rattle.std.proofs.Common.{◌≡◌, ℕ, suc, ◌-◌, ◌+◌, ◌≤◌, ◌<◌, List, [], ◌∷◌, ◌++◌, Result, Ok, Err, refl, sym, ap, ◌∙◌}
use Rattle.std.proofs.Common.{append_assoc, arith}
use Rattle.std.proofs.lemmas.List.{append-nil}
use Rattle.jdwp_values.specs.declared.fault.RowFault.{RowFault}
use Rattle.jdwp_values.specs.declared.fault.RowFault.TheVariants as faults
use Rattle.jdwp_values.specs.Reading.{Place}
use Rattle.jdwp_values.specs.Rows.{◌>>=◌, Tells, times_at}

-- what was read before, and what is still read
abbrev pub with_front : {A : Type 0} → List A → Result (List A × Place) RowFault → Result (List A × Place) RowFault
with_front front read = read >>= λ x. Ok (front ++ x.0, x.1)

regroup : {A : Type 0} (front : List A) (n : A) (read : Result (List A × Place) RowFault)
    → with_front front (read >>= λ x. Ok (n ∷ x.0, x.1)) ≡ with_front (front ++ n ∷ []) read
regroup {A} front n (Ok x) = ap (λ (ns : List A). Ok (ns, x.1)) (simp append_assoc)
regroup front n (Err f) = refl

pub goes_on : {A : Type 0} (read : Place → Result (A × Place) RowFault) (front : List A) (count i : ℕ) (place : Place)
    (n : A) (after : Place) (total : Result (List A × Place) RowFault) → i < count → read place ≡ Ok (n, after)
    → with_front front (times_at (count - i) read place) ≡ total
    → with_front (front ++ n ∷ []) (times_at (count - (i + 1)) read after) ≡ total
unfolding times_at
goes_on read front count i place n after total lt h so_far =
    let k : count - i ≡ suc (count - (i + 1)) = omega arith in
    let one : with_front front (times_at (count - i) read place) ≡ with_front (front ++ n ∷ [])
    (times_at (count - (i + 1)) read after) =
    rw (k, h) (regroup front n (times_at (count - (i + 1)) read after)) in
    sym one ∙ so_far

-- what a loop returns where a row can't be read
pub fails : {A : Type 0} (read : Place → Result (A × Place) RowFault) (fault : RowFault) (front : List A) (count i : ℕ)
    (place new last : Place) (total : Result (List A × Place) RowFault) → i < count
    → Tells {X = A} (λ x. x) (read place) new (Err fault) → with_front front (times_at (count - i) read place) ≡ total
    → Tells {X = List A} (λ x. x) total last (Err fault)
unfolding times_at
fails read faults.NoMemory front count i place new last total lt h so_far = tt
fails read (faults.Part trouble) front count i place new last total lt h so_far =
    let k : count - i ≡ suc (count - (i + 1)) = omega arith in
    let one : with_front front (times_at (count - i) read place) ≡ Err (faults.Part trouble) = rw (k, h) refl in
    sym so_far ∙ one
fails read (faults.BadKind at) front count i place new last total lt h so_far =
    let k : count - i ≡ suc (count - (i + 1)) = omega arith in
    let one : with_front front (times_at (count - i) read place) ≡ Err (faults.BadKind at) = rw (k, h) refl in
    sym so_far ∙ one

pub is_done : {A : Type 0} (read : Place → Result (A × Place) RowFault) (front : List A) (count i : ℕ) (place : Place)
    (total : Result (List A × Place) RowFault) → count ≤ i → with_front front (times_at (count - i) read place) ≡ total
    → total ≡ Ok (front, place)
unfolding times_at
is_done {A} read front count i place total le so_far =
    let k : count - i ≡ 0 = omega arith in
    let one : with_front front (times_at (count - i) read place) ≡ Ok (front, place) =
    rw k (ap (λ (ns : List A). Ok (ns, place)) (append-nil front)) in
    sym so_far ∙ one
