use Rattle.script_courses.proofs.Played.{one_log}
use Rattle.script_courses.proofs.laws.what_is_heard_is_determined_by_what_is_sent.Goals as goal

pub returns : goal.returns
returns c = λ script log other now last played again same. one_log played again same
