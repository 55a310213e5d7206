use Rattle.std.proofs.Common.{◌↔◌, drop}
use Rattle.std.specs.List.{AllByRecursion}
use Rattle.jdwp_commands.specs.Regions.{FitsElement}
use Rattle.target_server.proofs.answers.elements_fit.Given as goal

-- all have a spelling just where each that is left has one
abbrev pub invariant-loop-value : goal.invariant-loop-value
invariant-loop-value l =
    AllByRecursion (FitsElement l.tag l.sizes) l.values
    ↔ AllByRecursion (FitsElement l.tag l.sizes) (drop l.value-index l.values)
