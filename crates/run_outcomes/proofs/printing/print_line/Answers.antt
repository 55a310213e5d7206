use Rattle.run_outcomes.proofs.printing.print_line.Goals as goal

pub returns : goal.returns
returns g c = rw c.as_bytes.ensures.value at c.print.ensures
