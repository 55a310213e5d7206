use Rattle.std.proofs.Common.{◌≡◌, [], sym, ap, ◌∙◌}
use Rattle.std.proofs.lemmas.List.{nil_from_length}
use Rattle.serde_json.specs.Data.{object}
use Rattle.serde_json.specs.View.{members_view}
use Rattle.serde_json.proofs.Views.{view-Object}
use Rattle.dap_messages.proofs.Placings.{placed, placed-ascending}
use Rattle.dap_messages.proofs.objects.object.Goals as goal

pub returns : goal.returns
returns c =
    let none : c.loop-name.name-iterator.rest.items ≡ [] =
    nil_from_length _ (sym c.loop-name.name-iterator.rest.ok.0 ∙ c.in-None.ensures.steps.0) in
    let all = ap (λ ms. placed ms (members_view c.loop-name.map.entries)) (sym none) ∙ c.loop-name.invariant in
    view-Object c.loop-name.map ∙ ap object (all ∙ placed-ascending c.args.members.items c.requires)
