use Rattle.std.proofs.Common.{◌≡◌, ◌++◌, drop, map}
use Rattle.tap_model.specs.Questions.{unanswered}
use Rattle.tap_questions.proofs.asking.unanswered.Given as goal

-- what the questions so far have come to stands in front of what the others have
abbrev pub invariant-loop-ask : goal.invariant-loop-ask
invariant-loop-ask l = map (unanswered l.sizes) l.asks
    ≡ l.answers.items ++ map (unanswered l.sizes) (drop l.ask-index l.asks)
