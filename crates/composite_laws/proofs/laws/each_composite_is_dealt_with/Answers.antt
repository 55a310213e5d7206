use Rattle.composite_laws.proofs.DealingLaws.{deals_with_all, deals_with_each}
use Rattle.composite_laws.proofs.laws.each_composite_is_dealt_with.Goals as goal

pub returns-clause-each : goal.returns-clause-each
returns-clause-each c = deals_with_each

pub returns-clause-all : goal.returns-clause-all
returns-clause-all c = deals_with_all
