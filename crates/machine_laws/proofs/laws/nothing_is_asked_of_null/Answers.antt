-- What is asked was lacking, and nothing that is lacking asks of null.
use Rattle.machine_laws.proofs.HarmlessLaws.{harmless}
use Rattle.machine_laws.proofs.laws.nothing_is_asked_of_null.Goals as goal

pub returns : goal.returns
returns c = harmless
