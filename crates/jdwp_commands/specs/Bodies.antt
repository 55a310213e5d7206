-- The body of a command or of an answer: all of it is read, from left to right, and its fault is that of the first part
-- that can't be read.
use Rattle.std.specs.Prelude.{◌≡◌, ℕ, List, length, Result, Ok, Err, ◌==◌, if◌then◌else◌}
use Rattle.jdwp_values.specs.declared.fault.RowFault.{RowFault}
use Rattle.jdwp_values.specs.declared.fault.RowFault.TheVariants as faults
use Rattle.jdwp_values.specs.declared.fault.ValueFault.{ValueFault}
use Rattle.jdwp_values.specs.declared.fault.ValueFault.TheVariants as causes
use Rattle.jdwp_values.specs.declared.sizes.IdSizes.{IdSizes}
use Rattle.jdwp_values.specs.Reading.{Place, offset}
use Rattle.jdwp_values.specs.Rows.{◌>>=◌}
use Rattle.jdwp_commands.specs.declared.fault.BodyFault.{BodyFault}
use Rattle.jdwp_commands.specs.declared.fault.BodyFault.TheVariants.{NoMemory, UnknownCommand, Short, BadTag, BadCount}
use Rattle.jdwp_commands.specs.declared.fault.BodyFault.TheVariants.{Trailing}

-- a part's fault, in a body
abbrev pub fault_at : ValueFault → ℕ → BodyFault
fault_at causes.Short at = Short at
fault_at causes.BadTag at = BadTag at
fault_at causes.BadCount at = BadCount at

-- a row's fault, in a body
abbrev pub body_fault : RowFault → BodyFault
body_fault faults.NoMemory = NoMemory
body_fault (faults.Part trouble) = fault_at trouble.fault trouble.at
body_fault (faults.BadKind at) = BadTag at

-- what was read of a body, or the fault in it
abbrev pub in_body : {A : Type 0} → Result A RowFault → Result A BodyFault
in_body (Ok x) = Ok x
in_body (Err fault) = Err (body_fault fault)

-- all of the body was read
abbrev pub ended : {A : Type 0} → A × Place → Result A BodyFault
ended x = if length x.1.rest == 0 then Ok x.0 else Err (Trailing (offset x.1))

-- where the reading of a body begins
abbrev pub start : IdSizes → List ℕ → Place
start sizes body = record { sizes = sizes; body = body; rest = body }

-- what is read from a body's beginning, where nothing is left behind it
abbrev pub whole : {A : Type 0} → (Place → Result (A × Place) RowFault) → IdSizes → List ℕ → Result A BodyFault
whole read sizes body = in_body (read (start sizes body)) >>= λ x. ended x

-- what a function answers is what reading gives, unless memory ran out
abbrev pub IsRead : {A : Type 0} → Result A BodyFault → Result A BodyFault → Type 0
IsRead read (Ok x) = read ≡ Ok x
IsRead read (Err NoMemory) = Unit {0}
IsRead read (Err UnknownCommand) = read ≡ Err UnknownCommand
IsRead read (Err (Short at)) = read ≡ Err (Short at)
IsRead read (Err (BadTag at)) = read ≡ Err (BadTag at)
IsRead read (Err (BadCount at)) = read ≡ Err (BadCount at)
IsRead read (Err (Trailing at)) = read ≡ Err (Trailing at)
