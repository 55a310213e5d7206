-- What an expression comes to, as the code has it.
use Rattle.std.specs.Prelude.{Result, Ok, Err}
use Rattle.machine_model.specs.Names.{Failure}
use Rattle.machine_model.specs.declared.parts.Finding.{Finding}
use Rattle.machine_model.specs.declared.parts.Finding.TheVariants.{NoValue as no_value, Value as value_found}
use Rattle.machine_model.specs.declared.parts.Seen.{Seen}

-- the value of an expression as it is shown, or why there is none
abbrev pub value_said : Result Seen Failure → Finding
value_said (Ok seen) = value_found seen
value_said (Err failure) = no_value failure
