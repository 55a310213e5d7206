use Rattle.std.proofs.Common.{◌↔◌, drop}
use Rattle.std.specs.List.{AllByRecursion}
use Rattle.target_server.proofs.fits.each_fits.Given as goal

-- all have a spelling just where each that is left has one
abbrev pub invariant-loop-item : goal.invariant-loop-item
invariant-loop-item g l =
    AllByRecursion (g.T.Row.Fits l.sizes) l.items ↔ AllByRecursion (g.T.Row.Fits l.sizes) (drop l.item-index l.items)
