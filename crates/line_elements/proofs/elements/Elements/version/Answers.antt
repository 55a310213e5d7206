use Rattle.serde_json.specs.View.{view}
use Rattle.line_elements.specs.Parts.{version}
use Rattle.line_elements.proofs.PartLaws.{tells_part}
use Rattle.line_elements.proofs.elements.Elements.version.Goals as goal

pub returns : goal.returns
returns c =
    tells_part version c.args.self.now c.next.new.self (view c.in-Some.value.now) c.version.result c.ok_or.result
    c.ok_or.ensures.value c.in-Some.ensures c.version.ensures
