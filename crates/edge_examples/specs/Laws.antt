-- What two crates say of one thing.
use Rattle.std.specs.Prelude.{◌≡◌, ℤ, FitsSigned}
use Rattle.std.specs.Int.{w32}
use Rattle.machine_model.specs.Children.{is_static as is_no_field_of_objects}
use Rattle.world_model.specs.Kinds.{is_static as has_static_bit}

-- Look-ups pass over just the fields that a world takes for static: those whose flags, of 32 bits, have that of 8 (Java
-- Virtual Machine Specification, Fields, ACC_STATIC).
abbrev pub AgreesOnStatic : Type 0
AgreesOnStatic = (flags : ℤ) → FitsSigned w32 flags → is_no_field_of_objects flags ≡ has_static_bit flags
