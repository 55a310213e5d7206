use Rattle.std.proofs.Common.{◌≡◌, drop}
use Rattle.machine_model.specs.Rows.{has_response}
use Rattle.talk_rows.proofs.rows.has_response.Given as goal

abbrev pub invariant-loop-place : goal.invariant-loop-place
invariant-loop-place l = has_response l.parts.items ≡ has_response (drop l.place l.parts.items)
