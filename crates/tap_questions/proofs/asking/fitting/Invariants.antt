use Rattle.std.proofs.Common.{◌≡◌, ◌++◌, drop}
use Rattle.tap_model.specs.Questions.{fitting}
use Rattle.tap_questions.proofs.asking.fitting.Given as goal

-- the numbers so far stand in front of those of the questions that are left
abbrev pub invariant-loop-n : goal.invariant-loop-n
invariant-loop-n l = fitting l.sizes 0 l.asks ≡ l.numbers.items ++ fitting l.sizes l.n (drop l.n l.asks)
