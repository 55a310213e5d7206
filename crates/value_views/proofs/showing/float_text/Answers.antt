use Rattle.std.proofs.Common.{◌∙◌, ◌++◌, List, ℕ, ap, codes}
use Rattle.value_views.proofs.Hexadecimals.{padded_hexadecimal}
use Rattle.value_views.proofs.showing.float_text.Goals as goal

pub returns : goal.returns
returns c =
    let written = rw (c.laid_out.ensures, c.in_radix.ensures) at c.in_ok-format.ensures.ok in
    c.from_string.ensures ∙ written
    ∙ ap (λ (l : List ℕ). codes "float:0x" ++ l) (padded_hexadecimal 8 c.args.bits)
