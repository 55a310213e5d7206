-- Where children stand, and what is written there, as the code has them.
use Rattle.std.specs.Prelude.{Result, Ok, Err}
use Rattle.machine_model.specs.Children as children
use Rattle.machine_model.specs.Names.{Failure}
use Rattle.machine_model.specs.declared.parts.Finding.{Finding}
use Rattle.machine_model.specs.declared.parts.Finding.TheVariants.{NoValue as no_value, Write as write_found}
use Rattle.machine_model.specs.declared.parts.Seen.{Seen}
use Rattle.machine_model.specs.declared.parts.Write.{Write}
use Rattle.machine_model.specs.Writing as writes
use Rattle.child_pages.specs.declared.writing.Writing.{Writing}
use Rattle.child_pages.specs.declared.children.Place.{Place}
use Rattle.child_pages.specs.declared.children.Place.TheVariants.{Known, Slot, Field, Index}

-- where a child's value stands
abbrev pub place_of : Place → children.Place
place_of (Known value) = children.is_known value
place_of (Slot slot) = children.in_slot slot.slot slot.tag
place_of (Field field) = children.in_field field
place_of (Index i) = children.at_index i

-- how a value is to be written
abbrev pub writing_of : Writing → writes.Writing
writing_of w = record { types = w.types; size = w.size; text = w.text.now }

-- what is written, and how it is shown; or why nothing is
abbrev pub write_said : Result (Write × Seen) Failure → Finding
write_said (Ok two) = write_found two.0 two.1
write_said (Err failure) = no_value failure
