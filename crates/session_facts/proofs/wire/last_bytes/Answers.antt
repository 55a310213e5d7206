use Rattle.std.proofs.Common.{◌≡◌, ◌≤◌, ◌-◌, ◌∙◌, ℕ, List, ap, arith, drop, subst, take, IfOk}
use Rattle.std.proofs.lemmas.List.{take_all}
use Rattle.std.specs.Int.{bytes_high_first}
use Rattle.jdwp_values.proofs.Numbers.{drop_to_size, length-bytes_high_first}
use Rattle.session_facts.proofs.wire.last_bytes.Goals as goal

-- the bytes from there to the end are all that are left
last : (size number : ℕ) (bytes : List ℕ) → size ≤ 8 → bytes ≡ bytes_high_first 8 number
    → take (8 - (8 - size)) (drop (8 - size) bytes) ≡ bytes_high_first size number
last size number bytes few is =
    ap (λ (l : List ℕ). take (8 - (8 - size)) (drop (8 - size) l)) is
    ∙ ap (λ (l : List ℕ). take (8 - (8 - size)) l) (drop_to_size size number few)
    ∙ take_all (8 - (8 - size)) (bytes_high_first size number) (omega (arith, length-bytes_high_first size number))

pub returns : goal.returns
returns c = subst (λ l. IfOk c.from_slice.result (λ bytes. bytes ≡ l))
    (last c.args.size c.args.number c.to_be_bytes-bytes.result c.requires c.to_be_bytes-bytes.ensures) c.from_slice.ensures
