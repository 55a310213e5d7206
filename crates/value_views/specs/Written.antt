-- The values that a client can write.
use Rattle.std.specs.Prelude.{◌≡◌, ◌<◌, ◌^◌, FitsSigned}
use Rattle.std.specs.Int.{w8, w16, w32, w64}
use Rattle.jdwp_values.specs.declared.value.Value.{Value}
use Rattle.jdwp_values.specs.declared.value.Value.TheVariants as values

-- a whole number in its kind's range, a char, a truth value by 0 or 1, or null (JDWP, Constants, Tag)
abbrev pub IsWritten : Value → Type 0
IsWritten (values.Byte n) = FitsSigned w8 n
IsWritten (values.Char n) = n < 2 ^ 16
IsWritten (values.Double bits) = ⊥
IsWritten (values.Float bits) = ⊥
IsWritten (values.Int n) = FitsSigned w32 n
IsWritten (values.Long n) = FitsSigned w64 n
IsWritten (values.Short n) = FitsSigned w16 n
IsWritten (values.Boolean byte) = byte < 2
IsWritten values.Void = ⊥
IsWritten (values.Object o) = o.0 ≡ 0
IsWritten (values.Array o) = o.0 ≡ 0
IsWritten (values.String o) = o.0 ≡ 0
IsWritten (values.Thread o) = o.0 ≡ 0
IsWritten (values.ThreadGroup o) = o.0 ≡ 0
IsWritten (values.ClassLoader o) = o.0 ≡ 0
IsWritten (values.ClassObject o) = o.0 ≡ 0
