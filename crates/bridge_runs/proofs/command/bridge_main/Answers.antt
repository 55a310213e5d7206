use Rattle.command_words.proofs.WordLaws.{usage_taken}
use Rattle.bridge_runs.proofs.command.bridge_main.Goals as goal

pub returns-clause-usage : goal.returns-clause-usage
returns-clause-usage g c = usage_taken
