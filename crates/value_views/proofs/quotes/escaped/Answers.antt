use Rattle.std.proofs.Common.{◌∙◌, ◌∷◌, List, ℕ, ap}
use Rattle.value_views.proofs.Hexadecimals.{padded_hexadecimal}
use Rattle.value_views.proofs.quotes.escaped.Goals as goal

pub returns : goal.returns
returns c =
    let written = rw (c.laid_out.ensures, c.in_radix.ensures) at c.in_ok-format.ensures.ok in
    written ∙ ap (λ (l : List ℕ). 92 ∷ 117 ∷ l) (padded_hexadecimal 4 c.args.code)
