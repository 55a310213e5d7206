use Rattle.serde_json.specs.View.{view}
use Rattle.line_elements.specs.Parts.{natural}
use Rattle.line_elements.proofs.PartLaws.{tells_part}
use Rattle.line_elements.proofs.elements.Elements.natural.Goals as goal

pub returns-clause-value : goal.returns-clause-value
returns-clause-value c =
    tells_part (natural c.args.least c.args.bound) c.args.self.now c.next.new.self (view c.in-Some.value.now) c.natural.result c.ok_or.result
    c.ok_or.ensures.value c.in-Some.ensures c.natural.ensures.value
