-- The refusals that are kept are those that pass.
use Rattle.wish_sets.proofs.TidyLaws.{kept_refusals}
use Rattle.wish_sets.proofs.laws.a_refusal_is_kept_while_it_is_wished.Goals as goal

pub returns-clause-refused : goal.returns-clause-refused
returns-clause-refused c = kept_refusals
