-- Each change keeps what stands tidy.
use Rattle.wish_sets.proofs.TidyLaws.{new_is_tidy, rewished_is_tidy, settled_is_tidy}
use Rattle.wish_sets.proofs.laws.what_stands_is_tidy.Goals as goal

pub returns-clause-begins : goal.returns-clause-begins
returns-clause-begins c = new_is_tidy

pub returns-clause-wanted : goal.returns-clause-wanted
returns-clause-wanted c = rewished_is_tidy

pub returns-clause-settled : goal.returns-clause-settled
returns-clause-settled c = settled_is_tidy
