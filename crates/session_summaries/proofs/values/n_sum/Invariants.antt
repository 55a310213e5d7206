use Rattle.std.proofs.Common.{◌≡◌, ◌+◌, drop}
use Rattle.serde_json.specs.View.{items_view}
use Rattle.session_summaries.specs.Told.{n_sum}
use Rattle.session_summaries.proofs.values.n_sum.Given as goal

abbrev pub invariant-loop-variable : goal.invariant-loop-variable
invariant-loop-variable l =
    n_sum (items_view l.variables) ≡ l.sum + n_sum (items_view (drop l.variable-index l.variables))
