use Rattle.target_scripts.proofs.SoundLaws.{whole_fit}
use Rattle.target_scripts.proofs.laws.a_script_without_a_fault_is_fit_for_a_target.Goals as goal

pub returns : goal.returns
returns c = whole_fit
