use Rattle.machine_laws.proofs.KnowingLaws.{is_known}
use Rattle.machine_laws.proofs.laws.what_is_known_is_what_messages_say.Goals as goal

pub returns : goal.returns
returns c = is_known
