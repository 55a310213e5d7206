-- The rows of lists are read and spelled in one way.
use Rattle.std.proofs.Common.{refl}
use Rattle.jdwp_values.proofs.RowLaws.{IsFormatBy, format_by}
use Rattle.jdwp_commands.specs.Listed.{class_status_row, loaded_class_row, frame_row, slot_row}

pub class_status_format : IsFormatBy class_status_row
class_status_format = format_by class_status_row (λ x. refl) (λ v. refl) (λ sizes v rest. (tt, (tt, (tt, tt))))

pub loaded_class_format : IsFormatBy loaded_class_row
loaded_class_format = format_by loaded_class_row (λ x. refl) (λ v. refl) (λ sizes v rest. (tt, (tt, (tt, (tt, tt)))))

pub frame_format : IsFormatBy frame_row
frame_format = format_by frame_row (λ x. refl) (λ v. refl) (λ sizes v rest. (tt, (tt, tt)))

pub slot_format : IsFormatBy slot_row
slot_format = format_by slot_row (λ x. refl) (λ v. refl) (λ sizes v rest. (tt, (tt, tt)))
