use Rattle.target_scripts.proofs.ShapeLaws.{null_faulty, one_faulty, none_fits, all_fits}
use Rattle.target_scripts.proofs.laws.what_no_target_tells_is_no_row.Goals as goal

pub returns-clause-null : goal.returns-clause-null
returns-clause-null c = null_faulty

pub returns-clause-one : goal.returns-clause-one
returns-clause-one c = one_faulty

pub returns-clause-none : goal.returns-clause-none
returns-clause-none c = none_fits

pub returns-clause-all : goal.returns-clause-all
returns-clause-all c = all_fits
