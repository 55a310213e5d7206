use Rattle.generated_scripts.proofs.FitLaws.{generated_fit}
use Rattle.generated_scripts.proofs.laws.a_generated_script_is_fit_for_a_target.Goals as goal

pub returns : goal.returns
returns c = λ number above few. generated_fit number
