use Rattle.joint_facts.proofs.SeenLaws.{look_ups_show}
use Rattle.joint_facts.proofs.laws.look_ups_beside_a_target_show_its_world.Goals as goal

pub returns : goal.returns
returns c = look_ups_show
