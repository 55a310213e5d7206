use Rattle.class_tables.proofs.LocationLaws.{is_location, location_is}
use Rattle.class_tables.proofs.laws.a_location_of_a_line_is_its_start_in_a_method.Goals as goal

pub returns : goal.returns
returns c = λ known class line location. (is_location known class line location, location_is known class line location)
