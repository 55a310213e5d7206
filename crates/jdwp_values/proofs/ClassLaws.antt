-- The rows that tell what a class is made of are read and spelled in one way.
use Rattle.std.proofs.Common.{refl}
use Rattle.jdwp_values.specs.Classes.{method_row, field_row, line_row, variable_row}
use Rattle.jdwp_values.proofs.RowLaws.{IsFormatBy, format_by}

pub method_format : IsFormatBy method_row
method_format = format_by method_row (λ x. refl) (λ v. refl) (λ sizes v rest. (tt, (tt, (tt, (tt, tt)))))

pub field_format : IsFormatBy field_row
field_format = format_by field_row (λ x. refl) (λ v. refl) (λ sizes v rest. (tt, (tt, (tt, (tt, tt)))))

pub line_format : IsFormatBy line_row
line_format = format_by line_row (λ x. refl) (λ v. refl) (λ sizes v rest. (tt, (tt, tt)))

pub variable_format : IsFormatBy variable_row
variable_format = format_by variable_row (λ x. refl) (λ v. refl) (λ sizes v rest. (tt, (tt, (tt, (tt, (tt, tt))))))
