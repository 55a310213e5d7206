use Rattle.serde_json.specs.View.{view}
use Rattle.line_elements.specs.Parts.{truth}
use Rattle.line_elements.proofs.PartLaws.{tells_part}
use Rattle.line_elements.proofs.elements.Elements.truth.Goals as goal

pub returns : goal.returns
returns c =
    tells_part truth c.args.self.now c.next.new.self (view c.in-Some.value.now) c.as_bool.result c.ok_or.result
    c.ok_or.ensures.value c.in-Some.ensures c.as_bool.ensures
