use Rattle.serde_json.specs.View.{view}
use Rattle.line_elements.specs.Parts.{lines}
use Rattle.line_elements.proofs.PartLaws.{tells_part}
use Rattle.line_elements.proofs.elements.Elements.lines.Goals as goal

pub returns : goal.returns
returns c =
    tells_part lines c.args.self.now c.next.new.self (view c.in-Some.value.now) c.in_ok-lines.field-0 c.ok_or.result
    c.ok_or.ensures.value c.in-Some.ensures c.in_ok-lines.ensures
