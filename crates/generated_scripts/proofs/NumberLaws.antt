-- The numbers of a generated script stay below 2^31.
use Rattle.std.proofs.Common.{◌≡◌, ℕ, zero, suc, ◌+◌, ◌*◌, ◌%◌, ◌<◌, ◌≤◌, ◌^◌, arith}
use Rattle.generated_scripts.specs.Numbers.{next_number, number_behind}

pub next_small : (x : ℕ) → next_number x < 2 ^ 31
unfolding next_number
next_small x = omega arith

pub numbers_small : (number i : ℕ) → number ≤ 1000 → number_behind number i < 2 ^ 31
numbers_small number zero h = omega (arith, h)
numbers_small number (suc i) h = next_small (number_behind number i)
