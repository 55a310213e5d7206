use Rattle.serde_json.specs.View.{view}
use Rattle.line_elements.specs.Parts.{class_tag}
use Rattle.line_elements.proofs.PartLaws.{tells_part}
use Rattle.line_elements.proofs.elements.Elements.class_tag.Goals as goal

pub returns : goal.returns
returns c =
    tells_part class_tag c.args.self.now c.next.new.self (view c.in-Some.value.now) c.class_tag.result c.ok_or.result
    c.ok_or.ensures.value c.in-Some.ensures c.class_tag.ensures
