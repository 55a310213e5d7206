use Rattle.std.proofs.Common.{◌≡◌, ◌++◌, take}
use Rattle.talk_state.proofs.notes.add_thrown.Given as goal

abbrev pub invariant-loop-one : goal.invariant-loop-one
invariant-loop-one l = l.thrown ≡ l.initial.thrown ++ take l.one-index l.more
