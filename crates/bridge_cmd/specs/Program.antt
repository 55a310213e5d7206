-- The program: the status that it ends with, over links and files of its own.
use Rattle.std.specs.Prelude.{ℕ, ◌≡◌, List, []}
use Rattle.bridge_runs.specs.Command.{Runs, Surroundings}
use Rattle.wire_core.specs.Outside.{Rose}

-- The status of a run on these words: over wires and files that were not used before; or not begun, since a standard
-- stream was found closed, which counts as a fault.
pub data IsRun : List (List ℕ) → ℕ → Type 0 where
  begun : {words : List (List ℕ)} {old new : Surroundings} {status : ℕ} → old.wires.asked ≡ [] → old.files.asked ≡ []
      → Runs words old new status → IsRun words status
  not_begun : {words : List (List ℕ)} {before after : ℕ} → Rose before after → IsRun words 9
