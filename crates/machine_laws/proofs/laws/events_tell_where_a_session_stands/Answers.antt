-- Each move keeps what is owed.
use Rattle.machine_laws.proofs.EventLaws.{events_are}
use Rattle.machine_laws.proofs.laws.events_tell_where_a_session_stands.Goals as goal

pub returns : goal.returns
returns c = events_are
