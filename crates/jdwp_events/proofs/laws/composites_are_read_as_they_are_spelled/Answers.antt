use Rattle.jdwp_events.proofs.CompositeLaws.{composite_again, composite_takes}
use Rattle.jdwp_events.proofs.laws.composites_are_read_as_they_are_spelled.Goals as goal

pub returns-clause-found : goal.returns-clause-found
returns-clause-found c = λ sizes body composite bytes is. composite_takes sizes body composite bytes is

pub returns-clause-back : goal.returns-clause-back
returns-clause-back c = λ sizes composite fits range. composite_again sizes composite fits range
