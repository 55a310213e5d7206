use Rattle.std.proofs.Common.{◌≡◌, ◌++◌, drop, map}
use Rattle.machine_model.specs.Variables.{variable_told}
use Rattle.session_facts.proofs.variable_numbers.each_told.Given as goal

abbrev pub invariant-loop-shown : goal.invariant-loop-shown
invariant-loop-shown l =
    l.told ++ map (variable_told l.stop) (drop l.shown-index l.variables) ≡ map (variable_told l.stop) l.variables
