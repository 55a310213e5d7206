use Rattle.std.proofs.Common.{◌≡◌, ◌++◌, drop}
use Rattle.std.specs.Prelude.{filter_map}
use Rattle.jdwp_values.specs.declared.class.Method.{Method}
use Rattle.class_tables.specs.Lookups.{found_in}
use Rattle.class_tables.specs.Views.{location_in}
use Rattle.class_tables.proofs.classes.Classes.locations_among.Given as goal

-- the locations in all methods are those found so far, and those in the methods that are left
abbrev pub invariant-loop-method : goal.invariant-loop-method
invariant-loop-method l =
    let at = λ (method : Method). location_in (found_in l.self) l.class l.tag l.line method.id in
    l.found ++ filter_map at (drop l.method-index l.methods) ≡ filter_map at l.methods
