use Rattle.std.proofs.Common.{◌≡◌, ◌++◌, drop}
use Rattle.serde_json.specs.View.{items_view}
use Rattle.dump_client.specs.Answers.{lines_among}
use Rattle.dump_client.proofs.answers.lines_among.Given as goal

abbrev pub invariant-loop-variable : goal.invariant-loop-variable
invariant-loop-variable l =
    lines_among (items_view l.variables)
    ≡ l.lines ++ lines_among (items_view (drop l.variable-index l.variables))
