use Rattle.serde_json.specs.View.{view}
use Rattle.line_elements.specs.Parts.{object_tag}
use Rattle.line_elements.proofs.PartLaws.{tells_part}
use Rattle.line_elements.proofs.elements.Elements.object_tag.Goals as goal

pub returns : goal.returns
returns c =
    tells_part object_tag c.args.self.now c.next.new.self (view c.in-Some.value.now) c.object_tag.result c.ok_or.result
    c.ok_or.ensures.value c.in-Some.ensures c.object_tag.ensures
