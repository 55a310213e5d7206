-- An output in memory.
use Rattle.std.specs.Prelude.{ℕ, ◌≡◌, List, [], Some, Result, Ok, Err}
use Rattle.wire_core.specs.declared.output.OutRefusal.{OutRefusal}
use Rattle.wire_core.specs.declared.output.OutRefusal.TheVariants.{NoMemory, Failed}
use Rattle.wire_core.specs.declared.memory_output.MemoryOutput.{MemoryOutput}
use Rattle.wire_core.specs.Output.{Printed}
use Rattle.wire_core.specs.Links.{raised}

-- what the output tells of itself, its bytes among it
abbrev pub printed_of : MemoryOutput → Printed
printed_of m = record { bytes = Some m.bytes; faults = m.faults }

-- the faults once a call has answered: one more exactly where the answer is a fault
abbrev pub faults_after : Result Unit OutRefusal → ℕ → ℕ
faults_after (Ok u) faults = faults
faults_after (Err NoMemory) faults = faults
faults_after (Err Failed) faults = raised faults

-- the numbers of the calls that are faults
abbrev pub failing_calls : MemoryOutput → List ℕ
failing_calls m = m.failing

-- how many calls there were
abbrev pub calls_of : MemoryOutput → ℕ
calls_of m = m.calls

-- an output with nothing written, and no call so far
pub record IsNewOutput (m : MemoryOutput) (failing : List ℕ) : Type 0 where
  pub bytes : (printed_of m).bytes ≡ Some []
  pub faults : (printed_of m).faults ≡ 0
  pub calls : calls_of m ≡ 0
  pub failing_is : failing_calls m ≡ failing
