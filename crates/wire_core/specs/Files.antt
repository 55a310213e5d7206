-- The files of a run: what they tell of themselves, and what one call changes.
use Rattle.std.specs.Prelude.{ℕ, ◌≡◌, ◌<◌, ◌≤◌, List, [], ◌∷◌, length, find, bytes_eq, Option, Some, None, option_map}
use Rattle.std.specs.Prelude.{IfSome, MatchOption, Result, Ok, Err}
use Rattle.wire_core.specs.declared.files.FileRefusal.{FileRefusal}
use Rattle.wire_core.specs.declared.files.FileRefusal.TheVariants.{NoMemory, Failed, TooLong}
use Rattle.wire_core.specs.Outside.{Rose}

-- a name and the bytes under it
abbrev pub File : Type 0
File = List ℕ × List ℕ

-- the files, where they are told; the faults so far; the name that was asked for; how many bytes the call read
pub record Store : Type 0 where
  pub files : Option (List File)
  pub faults : ℕ
  pub asked : List (List ℕ)
  pub taken : ℕ

-- the bytes under a name; the first file of a repeated name counts
abbrev pub bytes_under : List ℕ → List File → Option (List ℕ)
bytes_under name files = option_map (λ file. file.1) (find (λ file. bytes_eq file.0 name) files)

-- a call asks for one name, and the count of faults doesn't fall
pub record Asks (old new : Store) (name : List ℕ) : Type 0 where
  pub asked : new.asked ≡ name ∷ []
  pub faults : old.faults ≤ new.faults

-- the file is longer than the limit; where no files are told, more bytes were read than that
abbrev pub IsLonger : Store → Store → List ℕ → ℕ → Type 0
IsLonger old new name limit =
    MatchOption old.files (limit < new.taken)
    (λ files. (bytes : List ℕ) × (bytes_under name files ≡ Some bytes) × (limit < length bytes))

-- why a file is not read
abbrev pub RefusesRead : Store → Store → List ℕ → ℕ → FileRefusal → Type 0
RefusesRead old new name limit NoMemory = Unit {0}
RefusesRead old new name limit Failed = Rose old.faults new.faults
RefusesRead old new name limit TooLong = IsLonger old new name limit

-- what a call that reads answers
abbrev pub Reads : Store → Store → List ℕ → ℕ → Result (List ℕ) FileRefusal → Type 0
Reads old new name limit (Ok bytes) =
    (length bytes ≤ limit) × IfSome old.files (λ files. bytes_under name files ≡ Some bytes)
Reads old new name limit (Err refusal) = RefusesRead old new name limit refusal

-- why a file is not written
abbrev pub RefusesWrite : Store → Store → FileRefusal → Type 0
RefusesWrite old new NoMemory = Unit {0}
RefusesWrite old new Failed = Rose old.faults new.faults
RefusesWrite old new TooLong = ⊥

-- what a call that writes answers: the file stands before all others
abbrev pub Writes : Store → Store → List ℕ → List ℕ → Result Unit FileRefusal → Type 0
Writes old new name bytes (Ok u) = new.files ≡ option_map (λ files. (name, bytes) ∷ files) old.files
Writes old new name bytes (Err refusal) = (new.files ≡ old.files) × RefusesWrite old new refusal

-- what a copy of the bytes under a name is: a missing file is a fault
abbrev pub Copies : Option (List ℕ) → ℕ → Result (List ℕ) FileRefusal → Type 0
Copies None limit result = result ≡ Err Failed
Copies (Some bytes) limit (Ok copy) = (copy ≡ bytes) × (length bytes ≤ limit)
Copies (Some bytes) limit (Err NoMemory) = length bytes ≤ limit
Copies (Some bytes) limit (Err Failed) = ⊥
Copies (Some bytes) limit (Err TooLong) = limit < length bytes
