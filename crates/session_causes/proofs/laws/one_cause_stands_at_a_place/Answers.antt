use Rattle.session_causes.proofs.Deciding.{one_decides, outside_last}
use Rattle.session_causes.proofs.laws.one_cause_stands_at_a_place.Goals as goal
use Rattle.session_laws.proofs.AlikeLaws.{read_alike}
use Rattle.std.proofs.Common.{refl}

pub returns-clause-one : goal.returns-clause-one
returns-clause-one c = λ limits log messages turns s one other g first second.
    one_decides (λ limits log messages turns s g. read_alike g) g first second

pub returns-clause-outside : goal.returns-clause-outside
returns-clause-outside c = λ limits turns s ending entry entries taken cause. outside_last cause refl
