-- No other wish is one of a package.
use Rattle.wish_sets.proofs.WatchLaws.{watched_is_wished}
use Rattle.wish_sets.proofs.laws.a_package_is_watched_where_it_is_wished.Goals as goal

pub returns : goal.returns
returns c = watched_is_wished
