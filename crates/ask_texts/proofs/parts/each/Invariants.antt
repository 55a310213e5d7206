use Rattle.std.proofs.Common.{◌≡◌, ◌++◌, drop, option_map}
use Rattle.line_elements.specs.Values.{each_of}
use Rattle.serde_json.specs.View.{items_view}
use Rattle.ask_texts.proofs.parts.each.Given as goal

-- all that is listed is what was found so far, and what is found in the elements that are left
abbrev pub invariant-loop-element : goal.invariant-loop-element
invariant-loop-element g l = each_of g.T.Element.read_of (items_view l.elements)
    ≡ option_map (λ rest. l.list ++ rest) (each_of g.T.Element.read_of (items_view (drop l.element-index l.elements)))
