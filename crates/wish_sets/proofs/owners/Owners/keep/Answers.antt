-- The one that was changed is found, and so are the others.
use Rattle.std.proofs.Common.{ap}
use Rattle.wish_sets.specs.Owners.{is_other}
use Rattle.wish_sets.proofs.OwnerLaws.{all_found}
use Rattle.wish_sets.proofs.owners.Owners.keep.Goals as goal

pub returns-in_default : goal.returns-in_default
returns-in_default c =
    λ before whole place. before whole place (ap (λ changed. is_other changed place) c.in_default.is)

pub returns-then-self : goal.returns-then-self
returns-then-self c =
    λ before yes. all_found c.args.self.now.places c.add-self.new.places c.args.slots.now c.args.changed c.in-Some.at
    c.in-Some.is (c.add-self.ensures.here yes) (c.add-self.ensures.kept yes) (before c.if-self.true)
