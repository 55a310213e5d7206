-- The bytes at which texts of rules are cut are ASCII.
use Rattle.std.proofs.Common.{◌≡◌, ◌<◌, ℕ, false, arith}
use Rattle.std.proofs.lemmas.Bool.Decides.{nat_tests}
use Rattle.break_rules.specs.Parsing.{no_sign, not_closed, not_open}

pub sign_is_low : (byte : ℕ) → no_sign byte ≡ false → byte < 128
sign_is_low byte e = grind (arith, nat_tests)

pub close_is_low : (byte : ℕ) → not_closed byte ≡ false → byte < 128
close_is_low byte e = grind (arith, nat_tests)

pub open_is_low : (byte : ℕ) → not_open byte ≡ false → byte < 128
open_is_low byte e = grind (arith, nat_tests)
