-- A change is new by the search that found it.
use Rattle.wish_sets.proofs.NextLaws.{new_set, surplus_clear, installed_clear}
use Rattle.wish_sets.proofs.laws.the_next_change_is_new.Goals as goal

pub returns-clause-set : goal.returns-clause-set
returns-clause-set c = new_set

pub returns-clause-clear : goal.returns-clause-clear
returns-clause-clear c = surplus_clear

pub returns-clause-installed : goal.returns-clause-installed
returns-clause-installed c = installed_clear
