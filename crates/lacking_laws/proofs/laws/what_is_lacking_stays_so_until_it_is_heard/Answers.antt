use Rattle.lacking_laws.proofs.Growing.{lacks_on}
use Rattle.lacking_laws.proofs.laws.what_is_lacking_stays_so_until_it_is_heard.Goals as goal
use Rattle.machine_model.specs.Lookups.{plan}

pub returns : goal.returns
returns c = λ state lookup sight more on. lacks_on sight more on (plan lookup state)
