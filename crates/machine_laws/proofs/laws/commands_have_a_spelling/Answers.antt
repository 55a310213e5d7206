use Rattle.machine_steps.proofs.SpellLaws.{are_spelled}
use Rattle.machine_laws.proofs.laws.commands_have_a_spelling.Goals as goal

pub returns : goal.returns
returns c = are_spelled
