use Rattle.std.proofs.Common.{◌≡◌, drop}
use Rattle.line_elements.specs.Bits.{number_on}
use Rattle.line_elements.proofs.bits.number_in.Given as goal

-- what was read so far goes on with the digits that are left
abbrev pub invariant-loop-digit : goal.invariant-loop-digit
invariant-loop-digit l = number_on 0 l.digits ≡ number_on l.number (drop l.digit-index l.digits)
