-- The counts that a place allows.
use Rattle.std.specs.Prelude.{ℕ, Bool, true, false, ◌==◌, nat_le}
use Rattle.jdwp_values.specs.declared.limit.Limit.{Limit}
use Rattle.jdwp_values.specs.declared.limit.Limit.TheVariants.{Any, Exactly, AtMost, Never}

-- whether the place allows this count
abbrev pub allows : Limit → ℕ → Bool
allows Any count = true
allows (Exactly asked) count = count == asked
allows (AtMost most) count = nat_le count most
allows Never count = false
