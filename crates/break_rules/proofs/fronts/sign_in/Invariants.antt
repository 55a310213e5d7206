use Rattle.std.proofs.Common.{◌≡◌, drop}
use Rattle.std.specs.Prelude.{map}
use Rattle.break_rules.specs.Parsing.{sign_in}
use Rattle.break_rules.proofs.fronts.sign_in.Given as goal

-- the signs so far don't begin the text
abbrev pub invariant-loop-sign : goal.invariant-loop-sign
invariant-loop-sign g l =
    sign_in (map (λ sign. (sign.0.now, sign.1)) (drop l.sign-index l.signs)) l.text
    ≡ sign_in (map (λ sign. (sign.0.now, sign.1)) l.signs) l.text
