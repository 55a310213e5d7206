use Rattle.std.proofs.Common.{◌≡◌, map, take}
use Rattle.serde_json.specs.View.{view}
use Rattle.ask_texts.proofs.forms.list_json.Given as goal

-- the values so far are those of the elements so far
abbrev pub invariant-loop-element : goal.invariant-loop-element
invariant-loop-element g l =
    map view l.values.items ≡ map g.T.Element.data_of (take l.element-index l.elements)
