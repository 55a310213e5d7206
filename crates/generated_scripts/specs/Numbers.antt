-- The numbers of a generated script.
use Rattle.std.specs.Prelude.{ℕ, zero, suc, ◌+◌, ◌*◌, ◌%◌, ◌^◌, List, [], ◌++◌}

-- the number behind a number: a linear congruential generator
unfoldable pub next_number : ℕ → ℕ
next_number x = (x * 1103515245 + 12345) % 2 ^ 31

-- the number so many places behind a number
abbrev pub number_behind : ℕ → ℕ → ℕ
number_behind number zero = number
number_behind number (suc i) = next_number (number_behind number i)

-- what is made for each number from 1 to this one, in order and joined
abbrev pub for_each_to : {A : Type 0} → (ℕ → List A) → ℕ → List A
for_each_to make zero = []
for_each_to make (suc n) = for_each_to make n ++ make (suc n)
