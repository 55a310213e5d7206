-- The output of a run: what it tells of itself, and what one call changes.
use Rattle.std.specs.Prelude.{ℕ, ◌≡◌, List, ◌++◌, take, Option, option_map, Result, Ok, Err}
use Rattle.wire_core.specs.declared.output.OutRefusal.{OutRefusal}
use Rattle.wire_core.specs.declared.output.OutRefusal.TheVariants.{NoMemory, Failed}
use Rattle.wire_core.specs.Outside.{Rose}

-- the bytes written so far, where they are told, and the faults so far
pub record Printed : Type 0 where
  pub bytes : Option (List ℕ)
  pub faults : ℕ

-- these bytes were written behind all others, where they are told
abbrev pub Appends : Printed → Printed → List ℕ → Type 0
Appends old new bytes = new.bytes ≡ option_map (λ before. before ++ bytes) old.bytes

-- a fault of the output, after a prefix of the bytes
pub record FailsToWrite (old new : Printed) (bytes : List ℕ) : Type 0 where
  pub rose : Rose old.faults new.faults
  pub kept : ℕ
  pub prefix : Appends old new (take kept bytes)

-- why bytes are not written
abbrev pub RefusesBytes : Printed → Printed → List ℕ → OutRefusal → Type 0
RefusesBytes old new bytes NoMemory = new.bytes ≡ old.bytes
RefusesBytes old new bytes Failed = FailsToWrite old new bytes

-- what a call that writes answers
abbrev pub WritesOut : Printed → Printed → List ℕ → Result Unit OutRefusal → Type 0
WritesOut old new bytes (Ok u) = Appends old new bytes
WritesOut old new bytes (Err refusal) = RefusesBytes old new bytes refusal
