-- The script that a number stands for.
use Rattle.std.specs.Prelude.{ℕ, None}
use Rattle.script_rows.specs.declared.script.Script.{Script}
use Rattle.target_scripts.specs.Adding.{usual_quiet, usual_turns, usual_waiting}
use Rattle.generated_scripts.specs.Turns.{turns}
use Rattle.generated_scripts.specs.Worlds.{moves, world_at}

-- A thread comes to each line of a method that has as many lines as the number says, and an editor looks at it there.
abbrev pub generated : ℕ → Script
generated number = record {
  world = world_at number 0 0;
  program = moves number;
  begin = None;
  schedule = turns number;
  turns = usual_turns;
  quiet = usual_quiet;
  waiting = usual_waiting;
}
