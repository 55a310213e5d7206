use Rattle.wire_core.specs.declared.outside.Entry.{Entry}
use Rattle.wire_core.specs.declared.outside.Entry.TheVariants.{In, Out, Shut, Failed, Quiet}

-- an entry with a copy of bytes, for which memory has to be asked
abbrev pub HasCopy : Entry → Type 0
HasCopy (In side bytes) = Unit {0}
HasCopy (Out side bytes) = Unit {0}
HasCopy (Shut side) = ⊥
HasCopy (Failed side) = ⊥
HasCopy Quiet = ⊥
