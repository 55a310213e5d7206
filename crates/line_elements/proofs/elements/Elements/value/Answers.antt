use Rattle.serde_json.specs.View.{view}
use Rattle.line_elements.specs.Parts.{value}
use Rattle.line_elements.proofs.PartLaws.{tells_part}
use Rattle.line_elements.proofs.elements.Elements.value.Goals as goal

pub returns : goal.returns
returns c =
    tells_part (value c.args.version) c.args.self.now c.next.new.self (view c.in-Some.value.now) c.value.result c.ok_or.result
    c.ok_or.ensures.value c.in-Some.ensures c.value.ensures
