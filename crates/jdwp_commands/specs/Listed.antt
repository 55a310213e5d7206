-- The rows that lists in commands and answers are made of.
use Rattle.std.specs.Prelude.{[], ◌∷◌}
use Rattle.jdwp_values.specs.Parts.{byte, int, class, frame, type_tag, text, location}
use Rattle.jdwp_values.specs.Rows.{RowOf}
use Rattle.jdwp_commands.specs.declared.listed.ClassStatus.{ClassStatus}
use Rattle.jdwp_commands.specs.declared.listed.LoadedClass.{LoadedClass}
use Rattle.jdwp_commands.specs.declared.listed.Frame.{Frame}
use Rattle.jdwp_commands.specs.declared.listed.Slot.{Slot}

-- a class of a signature (JDWP, VirtualMachine command set, ClassesBySignature)
abbrev pub class_status_row : RowOf ClassStatus
class_status_row = record {
  parts = type_tag ∷ class ∷ int ∷ [];
  make = λ tag class status. record { tag = tag; class = class; status = status };
  values = λ x. (x.tag, (x.class, (x.status, tt)));
}

-- a class that is loaded (JDWP, VirtualMachine command set, AllClasses)
abbrev pub loaded_class_row : RowOf LoadedClass
loaded_class_row = record {
  parts = type_tag ∷ class ∷ text ∷ int ∷ [];
  make = λ tag class signature status. record { tag = tag; class = class; signature = signature; status = status };
  values = λ x. (x.tag, (x.class, (x.signature, (x.status, tt))));
}

-- a frame and where it stands (JDWP, ThreadReference command set, Frames)
abbrev pub frame_row : RowOf Frame
frame_row = record {
  parts = frame ∷ location ∷ [];
  make = λ id at. record { id = id; at = at };
  values = λ x. (x.id, (x.at, tt));
}

-- a slot and the byte of its tag (JDWP, StackFrame command set, GetValues)
abbrev pub slot_row : RowOf Slot
slot_row = record {
  parts = int ∷ byte ∷ [];
  make = λ slot tag. record { slot = slot; tag = tag };
  values = λ x. (x.slot, (x.tag, tt));
}
