use Rattle.session_laws.proofs.TurnLaws.{says_last}
use Rattle.session_laws.proofs.laws.last_words_are_those_of_the_ending.Goals as goal

pub returns : goal.returns
returns c = λ limits log messages turns e ended. says_last ended
