use Rattle.printed_scripts.proofs.AgainLaws.{printed_again}
use Rattle.printed_scripts.proofs.laws.a_printed_script_is_read_again.Goals as goal

pub returns : goal.returns
returns c = printed_again
