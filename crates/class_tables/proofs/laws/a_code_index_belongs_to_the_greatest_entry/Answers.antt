use Rattle.class_tables.proofs.LineLaws.{all_above, none_reached, is_found, found_is}
use Rattle.class_tables.proofs.laws.a_code_index_belongs_to_the_greatest_entry.Goals as goal

pub returns-clause-found : goal.returns-clause-found
returns-clause-found c = λ index entries entry. (is_found index entries entry, found_is index entries entry)

pub returns-clause-none : goal.returns-clause-none
returns-clause-none c = λ index entries. (all_above index entries, none_reached index entries)
