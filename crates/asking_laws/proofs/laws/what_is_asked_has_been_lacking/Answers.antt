use Rattle.asking_laws.proofs.Asking.{asks_what_lacks}
use Rattle.asking_laws.proofs.laws.what_is_asked_has_been_lacking.Goals as goal

pub returns : goal.returns
returns c = asks_what_lacks
