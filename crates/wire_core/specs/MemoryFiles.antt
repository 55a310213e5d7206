-- Files in memory.
use Rattle.std.specs.Prelude.{ℕ, ◌≡◌, Bool, List, [], ◌∷◌, Some, Result, Ok, Err}
use Rattle.wire_core.specs.declared.files.FileRefusal.{FileRefusal}
use Rattle.wire_core.specs.declared.files.FileRefusal.TheVariants.{NoMemory, Failed, TooLong}
use Rattle.wire_core.specs.declared.memory_files.Call.{Call}
use Rattle.wire_core.specs.declared.memory_files.Call.TheVariants.{Nothing, Asked, Wrote}
use Rattle.wire_core.specs.declared.memory_files.MemoryFiles.{MemoryFiles}
use Rattle.wire_core.specs.Files.{File, Store}
use Rattle.wire_core.specs.Links.{raised}

-- a file that was written stands before all others
abbrev pub files_after : Call → List File → List File
files_after Nothing files = files
files_after (Asked name) files = files
files_after (Wrote name bytes) files = (name, bytes) ∷ files

-- the name that the call asked for, if there was one
abbrev pub asked_by : Call → List (List ℕ)
asked_by Nothing = []
asked_by (Asked name) = name ∷ []
asked_by (Wrote name bytes) = name ∷ []

-- all files, the first of a repeated name counting
abbrev pub files_of : MemoryFiles → List File
files_of m = files_after m.call m.files

-- what the files tell of themselves, their content among it
abbrev pub store_of : MemoryFiles → Store
store_of m = record { files = Some (files_of m); faults = m.faults; asked = asked_by m.call; taken = 0 }

-- the faults once a call has answered: one more exactly where the answer is a fault
abbrev pub faults_after : {T : Type 0} → Result T FileRefusal → ℕ → ℕ
faults_after (Ok answer) faults = faults
faults_after (Err NoMemory) faults = faults
faults_after (Err Failed) faults = raised faults
faults_after (Err TooLong) faults = faults

-- whether each call is a fault
abbrev pub is_failing : MemoryFiles → Bool
is_failing m = m.failing

-- nothing was asked for, and no call was a fault
abbrev pub IsNewStore : MemoryFiles → Type 0
IsNewStore m = ((store_of m).asked ≡ []) × ((store_of m).faults ≡ 0)
