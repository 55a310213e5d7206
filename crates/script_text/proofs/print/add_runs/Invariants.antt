use Rattle.std.proofs.Common.{◌≡◌, ◌++◌, take}
use Rattle.std.specs.List.{flat_map}
use Rattle.script_text.specs.Texts.{run_text}
use Rattle.script_text.proofs.print.add_runs.Given as goal

-- the lines of the runs so far stand behind what was there
abbrev pub invariant-loop-run : goal.invariant-loop-run
invariant-loop-run l = l.text ≡ l.fn.text ++ flat_map run_text (take l.run-index l.runs)
