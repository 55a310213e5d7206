use Rattle.joint_model.proofs.HandLaws.{shows_the_world}
use Rattle.joint_model.proofs.laws.a_look_up_shows_the_world_as_it_stands.Goals as goal

pub returns : goal.returns
returns c = shows_the_world
