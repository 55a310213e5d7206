use Rattle.serde_json.specs.View.{view}
use Rattle.line_elements.specs.Parts.{text_or_null}
use Rattle.line_elements.proofs.PartLaws.{tells_part}
use Rattle.line_elements.proofs.elements.Elements.text_or_null.Goals as goal

pub returns : goal.returns
returns c =
    tells_part text_or_null c.args.self.now c.next.new.self (view c.in-Some.value.now) c.in_ok-text_or_null.field-0 c.ok_or.result
    c.ok_or.ensures.value c.in-Some.ensures c.in_ok-text_or_null.ensures
