-- The bit of static fields, by division and by itself.
use Rattle.std.proofs.Common.{◌≡◌, ◌∙◌, ℕ, zero, suc, pos, negsuc, refl, arith, ap, sym}
use Rattle.std.specs.Prelude.{◌*◌, ◌/◌, ◌%◌, ◌==◌, ◌<◌, ◌-◌, not}
use Rattle.std.specs.Int.Bits.{bit_and}
use Rattle.std.proofs.lemmas.Nat.Bits.{and_pow, bit_at-lt}
use Rattle.edge_examples.specs.Laws.{AgreesOnStatic}

-- of two numbers below 2 the one that isn't 0 is 1
one_of : (bit : ℕ) → bit < 2 → not (bit * 8 == 0) ≡ (bit == 1)
one_of zero fits = refl
one_of (suc zero) fits = refl
one_of (suc (suc more)) fits = absurd (omega arith)

-- a number has the bit of 8 where its eighth is odd
bit_of_eight : (n : ℕ) → not (bit_and n 8 == 0) ≡ ((n / 8) % 2 == 1)
bit_of_eight n = ap (λ (it : ℕ). not (it == 0)) (and_pow n 3) ∙ one_of ((n / 8) % 2) (bit_at-lt n 3)

other_bit : (bit other : ℕ) → bit < 2 → other ≡ 1 - bit → (bit == 0) ≡ (other == 1)
other_bit zero other fits is = ap (λ (it : ℕ). it == 1) (sym is)
other_bit (suc zero) other fits is = ap (λ (it : ℕ). it == 1) (sym is)
other_bit (suc (suc more)) other fits is = absurd (omega arith)

-- and a negative one of 32 bits where that of the number below its opposite is even
below_zero : (n : ℕ) → n < 2147483648 → ((n / 8) % 2 == 0) ≡ (((4294967296 - suc n) / 8) % 2 == 1)
below_zero n fits = other_bit ((n / 8) % 2) (((4294967296 - suc n) / 8) % 2) (omega arith) (omega arith)

pub agrees_on_static : AgreesOnStatic
agrees_on_static (pos n) fits = sym (bit_of_eight n)
agrees_on_static (negsuc n) fits = below_zero n (fits.sfits) ∙ sym (bit_of_eight (4294967296 - suc n))
