use Rattle.lacking_laws.proofs.Growing.{found_on, lacks_on}
use Rattle.lacking_laws.proofs.laws.what_was_found_stays.Goals as goal
use Rattle.machine_model.specs.Lookups.{plan}

pub returns : goal.returns
returns c = λ state lookup sight more finding on is.
    found_on (lacks_on sight more on (plan lookup state)) is
