use Rattle.serde_json.specs.View.{view}
use Rattle.line_elements.specs.Parts.{side}
use Rattle.line_elements.proofs.PartLaws.{tells_part}
use Rattle.line_elements.proofs.elements.Elements.side.Goals as goal

pub returns : goal.returns
returns c =
    tells_part side c.args.self.now c.next.new.self (view c.in-Some.value.now) c.side.result c.ok_or.result
    c.ok_or.ensures.value c.in-Some.ensures c.side.ensures
