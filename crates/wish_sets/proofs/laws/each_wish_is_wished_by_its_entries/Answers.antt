-- What is wished is counted.
use Rattle.wish_sets.proofs.ShareLaws.{places_counted, wished_counted}
use Rattle.wish_sets.proofs.laws.each_wish_is_wished_by_its_entries.Goals as goal

pub returns-clause-wished : goal.returns-clause-wished
returns-clause-wished c = wished_counted

pub returns-clause-stops : goal.returns-clause-stops
returns-clause-stops c = λ wanted at. places_counted at wanted
