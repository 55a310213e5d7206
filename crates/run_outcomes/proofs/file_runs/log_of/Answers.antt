use Rattle.std.proofs.Common.{◌∙◌, ap, refl, Some}
use Rattle.run_outcomes.specs.Lines.{status_of_ending}
use Rattle.run_outcomes.proofs.file_runs.log_of.Goals as goal

pub returns : goal.returns
returns c = record {
  limits_are = refl;
  runs_are = c.in_ok-runs.ensures;
  ending_told = ap Some c.status_of_ending-status.ensures;
  remembers = λ is. c.if-status-eq-OUT_OF_MEMORY.false (c.status_of_ending-status.ensures ∙ ap status_of_ending is);
}
