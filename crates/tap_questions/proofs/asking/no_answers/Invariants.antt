use Rattle.std.proofs.Common.{◌≡◌, ◌++◌, drop, map}
use Rattle.tap_questions.specs.Names.{Ask, Never}
use Rattle.tap_questions.proofs.asking.no_answers.Given as goal

-- what the questions so far have come to stands in front of what the others have
abbrev pub invariant-loop-ask : goal.invariant-loop-ask
invariant-loop-ask l = map (λ (ask : Ask). Never) l.asks
    ≡ l.answers.items ++ map (λ (ask : Ask). Never) (drop l.ask-index l.asks)
