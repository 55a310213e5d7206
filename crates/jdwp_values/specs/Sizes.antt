-- The sizes of ids (JDWP, VirtualMachine command set, IDSizes).
use Rattle.std.specs.Prelude.{ℕ, ◌≤◌, Bool, nat_lt, ◌==◌, ◌||◌}

-- an id takes 1 to 8 bytes
abbrev pub IsSize : ℕ → Type 0
IsSize n = (1 ≤ n) × (n ≤ 8)

-- a number of bytes that no id takes
abbrev pub is_no_size : ℕ → Bool
is_no_size n = n == 0 || nat_lt 8 n
