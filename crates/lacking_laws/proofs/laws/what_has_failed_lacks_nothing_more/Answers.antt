use Rattle.lacking_laws.proofs.Growing.{failed_on, lacks_on}
use Rattle.lacking_laws.proofs.laws.what_has_failed_lacks_nothing_more.Goals as goal
use Rattle.machine_model.specs.Lookups.{plan}

pub returns : goal.returns
returns c = λ state lookup sight more fault on is.
    failed_on (lacks_on sight more on (plan lookup state)) is
