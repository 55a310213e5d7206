use Rattle.field_exprs.proofs.Parsed.{parsed_is_read}
use Rattle.field_exprs.proofs.laws.a_text_is_read_as_it_is_parsed.Goals as goal

pub returns : goal.returns
returns c = parsed_is_read
