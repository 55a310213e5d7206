-- A byte that means something is read and spelled in one way.
use Rattle.std.proofs.Common.{◌≡◌, ℕ, ◌<◌, ◌^◌, List, ◌++◌, Option, Some, None, Ok, sym, ap, subst, ◌∙◌}
use Rattle.std.specs.Int.{bytes_high_first}
use Rattle.jdwp_values.specs.declared.fault.RowFault.{RowFault}
use Rattle.jdwp_values.specs.Bytes.{IsBytes}
use Rattle.jdwp_values.specs.Parts.{byte}
use Rattle.jdwp_values.specs.Reading.{Place, behind, part_at}
use Rattle.jdwp_values.specs.Rows.{in_row}
use Rattle.jdwp_values.proofs.RowLaws.{bind_ok, bind_is, ok_is, in_row_ok, TakesPlace, part_at_takes, part_at_again}
use Rattle.jdwp_commands.specs.Regions.{meant_at, meaning_at}

meant_ok : {A : Type 0} (o : Option A) (place rest : Place) (x : A × Place) → meant_at o place rest ≡ Ok x
    → (o ≡ Some x.0) × (rest ≡ x.1)
meant_ok {A} (Some y) place rest x e =
    let here : A × Place = (y, rest) in
    let is : here ≡ x = ok_is {E = RowFault} here x e in
    (ap (λ (z : A × Place). Some z.0) is, ap (λ (z : A × Place). z.1) is)
meant_ok None place rest x e = absurd cc

-- what was taken, and that its byte means it
pub meaning_takes : {A : Type 0} (byte_of : A → ℕ) (of_byte : ℕ → Option A)
    → ((n : ℕ) (x : A) → of_byte n ≡ Some x → byte_of x ≡ n) → (place : Place) (x : A × Place) → IsBytes place.rest
    → meaning_at of_byte place ≡ Ok x
    → TakesPlace place (bytes_high_first 1 (byte_of x.0)) x.1 × (of_byte (byte_of x.0) ≡ Some x.0)
meaning_takes {A} byte_of of_byte back place x fits e =
    let b = bind_ok (in_row (part_at byte place)) (λ b. meant_at (of_byte b.0) place b.1) x e in
    let t = part_at_takes byte place b.0 fits (in_row_ok (part_at byte place) b.0 b.1) in
    let m = meant_ok (of_byte b.0.0) place b.0.1 x b.2 in
    let same : b.0.0 ≡ byte_of x.0 = sym (back b.0.0 x.0 m.0) in
    let here : TakesPlace place (bytes_high_first 1 b.0.0) x.1 =
    subst (λ (z : Place). TakesPlace place (bytes_high_first 1 b.0.0) z) m.1 t.0 in
    subst (λ (n : ℕ). TakesPlace place (bytes_high_first 1 n) x.1 × (of_byte n ≡ Some x.0)) same (here, m.0)

pub meaning_again : {A : Type 0} (byte_of : A → ℕ) (of_byte : ℕ → Option A) (place : Place) (x : A) (rest : List ℕ)
    → of_byte (byte_of x) ≡ Some x → byte_of x < 256 ^ 1 → place.rest ≡ bytes_high_first 1 (byte_of x) ++ rest
    → meaning_at of_byte place ≡ Ok (x, behind place rest)
meaning_again {A} byte_of of_byte place x rest means small e =
    let next = behind place rest in
    bind_is (in_row (part_at byte place)) (λ b. meant_at (of_byte b.0) place b.1) (byte_of x, next)
    (ap in_row (part_at_again byte place (byte_of x) rest tt small tt e))
    ∙ ap (λ (o : Option A). meant_at o place next) means
