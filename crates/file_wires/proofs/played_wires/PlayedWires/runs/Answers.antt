use Rattle.std.proofs.Common.{◌∙◌, sym}
use Rattle.file_wires.proofs.PlayedLaws.{log_of_over}
use Rattle.file_wires.proofs.played_wires.PlayedWires.runs.Goals as goal

pub returns-clause-played : goal.returns-clause-played
returns-clause-played c = λ script over both.
    log_of_over script c.args.self.now.wires _ over (sym c.refused.ensures ∙ c.if-refused.false) both c.runs.ensures.log
