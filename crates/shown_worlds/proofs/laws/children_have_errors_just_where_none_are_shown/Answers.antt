use Rattle.shown_worlds.proofs.ChildErrors.{fails_just}
use Rattle.shown_worlds.proofs.laws.children_have_errors_just_where_none_are_shown.Goals as goal

pub returns : goal.returns
returns c = fails_just
