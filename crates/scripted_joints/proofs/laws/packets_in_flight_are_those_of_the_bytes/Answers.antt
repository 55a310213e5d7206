use Rattle.scripted_joints.proofs.SessionLaws.{session_sends}
use Rattle.scripted_joints.proofs.laws.packets_in_flight_are_those_of_the_bytes.Goals as goal

pub returns : goal.returns
returns c = session_sends
