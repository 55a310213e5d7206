use Rattle.script_files.proofs.ReadLaws.{read_fit}
use Rattle.script_files.proofs.laws.a_script_that_was_read_is_fit_for_a_target.Goals as goal

pub returns : goal.returns
returns c = read_fit
