use Rattle.std.proofs.Common.{◌++◌, ◌∙◌, flat_map, string_bytes, sym, ap, map-id}
use Rattle.std.proofs.lemmas.Iterator.{YieldsList-from_chars, YieldsList-from_take}
use Rattle.std.proofs.lemmas.Iterator.Consumers.{YieldsList-end}
use Rattle.value_views.specs.Quotes.{quoted_char}
use Rattle.value_views.proofs.quotes.push_chars.Goals as goal

pub returns : goal.returns
returns c =
    let text = c.args.text.now in
    let end = YieldsList-end (YieldsList-from_take 1000 (YieldsList-from_chars text c.utf8.text cc) cc)
    c.loop-char.yielded _ c.loop-char.yielded_by _ _ c.in-None.is c.next.ensures.steps in
    c.loop-char.invariant ∙ ap (λ cs. string_bytes c.args.shown.now ++ flat_map quoted_char cs)
    (sym (map-id c.loop-char.yielded) ∙ end.0)
