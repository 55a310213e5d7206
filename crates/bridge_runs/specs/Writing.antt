-- What becomes of the file that a text is written to.
use Rattle.std.specs.Prelude.{ℕ, ◌≡◌, List, Ok, Err}
use Rattle.run_outcomes.specs.declared.printing.Outcome.{Outcome}
use Rattle.run_outcomes.specs.declared.printing.Outcome.TheVariants.{Ended, NotUsed}
use Rattle.session_endings.specs.declared.ending.Ending.TheVariants.{NoMemory}
use Rattle.wire_core.specs.Files.{Asks, Store, Writes}
use Rattle.wire_core.specs.declared.files.FileRefusal.TheVariants.{Failed}

-- A text is put under a name, and the outcome is this one; or it can't be; or there is no memory for that, and the files
-- stay.
pub data IsWritten (wanted : Outcome) (name text : List ℕ) (old new : Store) : Outcome → Type 0 where
  is_written : Asks old new name → Writes old new name text (Ok (record {}))
      → IsWritten wanted name text old new wanted
  is_not_written : Asks old new name → Writes old new name text (Err Failed) → IsWritten wanted name text old new NotUsed
  forgets : new.files ≡ old.files → IsWritten wanted name text old new (Ended NoMemory)
