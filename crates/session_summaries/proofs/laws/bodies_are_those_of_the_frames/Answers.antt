use Rattle.session_summaries.proofs.BodyLaws.{all_bodies}
use Rattle.session_summaries.proofs.laws.bodies_are_those_of_the_frames.Goals as goal

pub returns : goal.returns
returns c = all_bodies
