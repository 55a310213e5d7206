use Rattle.std.proofs.Common.{None, ap, refl, arith, ◌≡◌, ◌≢◌, ℕ, false, List, [], ◌∷◌, eqb}
use Rattle.std.proofs.lemmas.Bool.{eqb-true, false_from_ne_true}
use Rattle.std.proofs.lemmas.Str.Pattern.{strip_prefix_char}
use Rattle.std.specs.Str.Parse.{starts_with_minus}
use Rattle.value_views.proofs.reading.whole_in.Goals as goal

-- a text that doesn't begin with `-`
plain : (text : List ℕ) → ((rest : List ℕ) → text ≢ 45 ∷ rest) → starts_with_minus text ≡ false
plain [] h = refl
plain (byte ∷ bytes) h =
    false_from_ne_true (eqb byte 45) (λ same. h bytes (ap (λ b. b ∷ bytes) (eqb-true byte 45 same)))

pub returns-in-None : goal.returns-in-None
returns-in-None c =
    let at = strip_prefix_char 45 c.args.text.now None c.in-None.ensures.cases (omega arith) in
    rw (plain c.args.text.now at) c.positive_in.ensures
