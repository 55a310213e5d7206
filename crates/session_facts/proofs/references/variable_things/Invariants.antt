use Rattle.std.proofs.Common.{◌≡◌, ◌++◌, drop, filter_map}
use Rattle.machine_model.specs.declared.parts.ShownVariable.{ShownVariable}
use Rattle.session_facts.proofs.references.variable_things.Given as goal

abbrev pub invariant-loop-shown : goal.invariant-loop-shown
invariant-loop-shown l =
    l.things ++ filter_map (λ (one : ShownVariable). one.seen.thing) (drop l.shown-index l.variables)
    ≡ filter_map (λ (one : ShownVariable). one.seen.thing) l.variables
