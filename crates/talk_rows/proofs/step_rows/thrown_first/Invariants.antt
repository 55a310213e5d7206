use Rattle.std.proofs.Common.{◌≡◌, ◌==◌, drop, find}
use Rattle.talk_rows.proofs.step_rows.thrown_first.Given as goal

abbrev pub invariant-loop-one : goal.invariant-loop-one
invariant-loop-one l =
    find (λ one. one.thread.0 == l.thread.0) l.thrown
    ≡ find (λ one. one.thread.0 == l.thread.0) (drop l.one-index l.thrown)
