use Rattle.bridge_core.proofs.LeavingLaws.{says_word}
use Rattle.bridge_core.proofs.session.Core.last_words.Goals as goal

pub returns-in_ok-say-in-Some-clause-says : goal.returns-in_ok-say-in-Some-clause-says
returns-in_ok-say-in-Some-clause-says c =
    let next = rw c.in-Some.is at c.in_ok-next_word.ensures.some in
    says_word c.args.ending.now c.args.self.now c.next_word.new.self c.say.new.self _ _ _ next
    c.in_ok-say-in-Some.ensures.ok
