-- A script that was read, and one of a number, has limits that a session can be served under.
use Rattle.std.proofs.Common.{◌≡◌, ℕ, List, Ok, subst, sym}
use Rattle.generated_scripts.specs.Generated.{generated}
use Rattle.generated_scripts.proofs.FitLaws.{generated_fit}
use Rattle.script_files.specs.Reading.{script_of}
use Rattle.script_files.proofs.ReadLaws.{read_fit}
use Rattle.script_rows.specs.declared.script.Script.{Script}
use Rattle.session_endings.specs.Limits.{AreLimits}
use Rattle.bridge_runs.specs.Command.{script_limits}

pub read_limits : (text : List ℕ) (script : Script) → script_of text ≡ Ok script → AreLimits (script_limits script)
read_limits text script is =
    let limits = (read_fit text script is).limits in
    record {
      some_turns = limits.some_turns;
      few_turns = limits.few_turns;
      some_quiet = limits.some_quiet;
      some_waiting = limits.some_waiting;
    }

number_limits : (number : ℕ) → AreLimits (script_limits (generated number))
number_limits number =
    let limits = (generated_fit number).limits in
    record {
      some_turns = limits.some_turns;
      few_turns = limits.few_turns;
      some_quiet = limits.some_quiet;
      some_waiting = limits.some_waiting;
    }

pub generated_limits : (number : ℕ) (script : Script) → script ≡ generated number → AreLimits (script_limits script)
generated_limits number script is =
    subst (λ script. AreLimits (script_limits script)) (sym is) (number_limits number)
