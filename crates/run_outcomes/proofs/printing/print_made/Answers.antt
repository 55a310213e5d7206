use Rattle.std.proofs.Common.{◌≡◌, ◌∙◌, refl}
use Rattle.std.specs.String.{string_bytes}
use Rattle.run_outcomes.specs.Lines.{Prints}
use Rattle.run_outcomes.proofs.printing.print_made.Goals as goal

pub returns-in-Ok : goal.returns-in-Ok
returns-in-Ok g c = λ wanted is.
    let made : string_bytes c.in-Ok.line ≡ wanted = rw c.in-Ok.is at is in
    rw (c.as_str.ensures.value ∙ made) at c.print_line.ensures

pub returns-in-Err : goal.returns-in-Err
returns-in-Err g c = λ wanted is. Prints.forgets refl
