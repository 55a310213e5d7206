use Rattle.joint_facts.proofs.SeenLaws.{shows_as_it_stands}
use Rattle.joint_facts.proofs.laws.a_look_up_beside_a_held_target_shows_its_world.Goals as goal

pub returns : goal.returns
returns c = shows_as_it_stands
