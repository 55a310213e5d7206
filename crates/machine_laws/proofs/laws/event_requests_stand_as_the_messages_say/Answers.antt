-- What stands is counted message by message.
use Rattle.machine_laws.proofs.StandLaws.{are_standing}
use Rattle.machine_laws.proofs.laws.event_requests_stand_as_the_messages_say.Goals as goal

pub returns : goal.returns
returns c = are_standing
