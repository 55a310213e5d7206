use Rattle.class_tables.proofs.LineLaws.{all_other, begins_nowhere, is_start, start_is}
use Rattle.class_tables.proofs.laws.a_line_begins_at_its_least_index.Goals as goal

pub returns-clause-found : goal.returns-clause-found
returns-clause-found c = λ line entries start. (is_start line entries start, start_is line entries start)

pub returns-clause-none : goal.returns-clause-none
returns-clause-none c = λ line entries. (all_other line entries, begins_nowhere line entries)
