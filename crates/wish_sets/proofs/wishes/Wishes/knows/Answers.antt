-- What is known so is made known in vain.
use Rattle.std.proofs.Common.{◌++◌, ◌∙◌, ap, sym}
use Rattle.class_tables.specs.Lookups.{found_in}
use Rattle.wish_sets.specs.Kept.{wanted_by, wishes_by}
use Rattle.wish_sets.specs.Wishes.{rewished}
use Rattle.wish_sets.proofs.FormedKept.{nothing_else}
use Rattle.wish_sets.proofs.TakenLaws.{known_is}
use Rattle.wish_sets.proofs.wishes.Wishes.knows.Goals as goal

pub returns : goal.returns
returns c =
    let before = wishes_by c.self.inside.wants (c.self.inside.slots.items ++ c.self.inside.fixed) in
    λ yes. rw (← c.self.view_is)
    (ap (λ wanted. rewished wanted before)
    (known_is (found_in c.args.classes.now) c.args.those.now (wanted_by c.self.inside.wants))
    ∙ (ap (λ classes. rewished (record (wanted_by c.self.inside.wants) { classes = classes }) before)
    (c.are_known.ensures yes)
    ∙ sym (nothing_else c.self.inside.wants c.self.inside.slots.items c.self.inside.fixed c.self.invariant.0)))
