use Rattle.std.proofs.Common.{Ok, sym, subst}
use Rattle.run_outcomes.specs.FileRuns.{ShowsLog}
use Rattle.run_outcomes.specs.declared.printing.Outcome.TheVariants.{Logged}
use Rattle.run_outcomes.proofs.file_runs.show.Goals as goal

pub returns-in-Ok-print_log : goal.returns-in-Ok-print_log
returns-in-Ok-print_log c =
    rw c.in-Ok.is (subst (λ text. ShowsLog (Ok c.in-Ok.log) (Logged text)) (sym c.in-Ok-print_log.ensures) ShowsLog.shows)

pub returns-in-Ok : goal.returns-in-Ok
returns-in-Ok c = ShowsLog.forgets

pub returns : goal.returns
returns c = ShowsLog.forgets
