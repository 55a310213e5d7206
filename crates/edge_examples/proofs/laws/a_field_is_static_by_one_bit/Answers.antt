use Rattle.edge_examples.proofs.StaticLaws.{agrees_on_static}
use Rattle.edge_examples.proofs.laws.a_field_is_static_by_one_bit.Goals as goal

pub returns : goal.returns
returns c = agrees_on_static
