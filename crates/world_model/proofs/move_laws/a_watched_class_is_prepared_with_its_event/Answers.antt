use Rattle.world_model.proofs.WatchLaws.{told_to_watches}
use Rattle.world_model.proofs.move_laws.a_watched_class_is_prepared_with_its_event.Goals as goal

pub returns : goal.returns
returns c = λ w now next told class h was is. told_to_watches w now next told class h was is
