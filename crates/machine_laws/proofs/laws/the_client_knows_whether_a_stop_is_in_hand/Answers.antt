use Rattle.machine_laws.proofs.ShownStops.{shows_stops}
use Rattle.machine_laws.proofs.laws.the_client_knows_whether_a_stop_is_in_hand.Goals as goal

pub returns : goal.returns
returns c = shows_stops
