use Rattle.std.proofs.Common.{◌≡◌, ◌++◌, drop}
use Rattle.ask_texts.specs.Texts.{answers_text}
use Rattle.ask_texts.proofs.print.print_answers.Given as goal

-- the lines of the answers so far stand in front of those that are left
abbrev pub invariant-loop-n : goal.invariant-loop-n
invariant-loop-n l = answers_text 0 l.answers ≡ l.text ++ answers_text l.n (drop l.n l.answers)
