use Rattle.std.proofs.Common.{◌≡◌, map, take}
use Rattle.serde_json.specs.View.{view}
use Rattle.dap_messages.specs.Bodies.{variable_data}
use Rattle.dap_messages.proofs.variable_bodies.variables_value.Given as goal

abbrev pub invariant-loop-variable : goal.invariant-loop-variable
invariant-loop-variable l = map view l.items.items ≡ map variable_data (take l.variable-index l.variables)
