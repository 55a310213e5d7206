-- What is known so is put in vain.
use Rattle.std.proofs.Common.{◌∙◌, ap}
use Rattle.class_tables.specs.Facts.{same_class}
use Rattle.wish_sets.specs.Wanted.{put_known}
use Rattle.wish_sets.proofs.TakenLaws.{put_again}
use Rattle.wish_sets.proofs.known.is_known.Goals as goal

pub returns-in-Some : goal.returns-in-Some
returns-in-Some c =
    λ yes. ap (λ found. put_known c.args.class found c.args.known.now.entries) (c.is_found.ensures yes)
    ∙ put_again same_class c.args.class c.in-Some.facts.now c.args.known.now.entries c.in-Some.ensures.value
