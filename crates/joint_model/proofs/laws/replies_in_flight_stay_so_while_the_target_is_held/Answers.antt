use Rattle.joint_model.proofs.FlightLaws.{replies_stay}
use Rattle.joint_model.proofs.laws.replies_in_flight_stay_so_while_the_target_is_held.Goals as goal

pub returns : goal.returns
returns c = replies_stay
