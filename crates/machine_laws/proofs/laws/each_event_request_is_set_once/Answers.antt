-- What is sent is due, and so it is new.
use Rattle.machine_laws.proofs.StandLaws.{is_sent_once}
use Rattle.machine_laws.proofs.laws.each_event_request_is_set_once.Goals as goal

pub returns : goal.returns
returns c = is_sent_once
