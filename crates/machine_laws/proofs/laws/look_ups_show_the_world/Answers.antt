use Rattle.machine_laws.proofs.WorldLaws.{worlds as law}
use Rattle.machine_laws.proofs.laws.look_ups_show_the_world.Goals as goal

pub returns : goal.returns
returns c = law
