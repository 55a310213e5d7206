-- What is shown is what is found.
use Rattle.class_tables.specs.Lookups.{found_in}
use Rattle.class_tables.specs.Views.{facts_shown}
use Rattle.wish_sets.proofs.AlikeLaws.{found_so}
use Rattle.wish_sets.proofs.same.is_found.Goals as goal

pub returns-in-Some : goal.returns-in-Some
returns-in-Some c =
    λ yes. found_so (found_in c.args.classes.now) c.args.class (facts_shown c.in-Some.view) c.args.known.now
    c.in-Some.ensures (c.is_shown.ensures yes)
