use Rattle.script_courses.proofs.Played.{one_course}
use Rattle.script_courses.proofs.laws.a_script_has_one_course.Goals as goal

pub returns : goal.returns
returns c = λ script alone also log other now last played again same. one_course played again same
