-- What is wanted is what is kept.
use Rattle.std.proofs.Common.{ap}
use Rattle.wish_sets.specs.Wishes.{Wishes}
use Rattle.wish_sets.proofs.VerifiedLaws.{ok_verified}
use Rattle.wish_sets.proofs.wishes.Wishes.verified.Goals as goal

pub returns : goal.returns
returns c =
    ok_verified c.args.self.now (ap (λ (w : Wishes). w.wanted) c.self.view_is)
    c.verified_entries.result c.verified_entries.ensures
