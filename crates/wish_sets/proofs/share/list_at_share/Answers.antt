-- The list at the place is the one under the key.
use Rattle.std.proofs.Common.{◌≡◌, ◌+◌, ◌∙◌, ap, arith, sym, Some}
use Rattle.std.specs.Prelude.{bytes_eq}
use Rattle.std.proofs.lemmas.Result.{IfOk-weaker}
use Rattle.wish_sets.specs.Counts.{list_share, listed_share}
use Rattle.wish_sets.proofs.FirstLaws.{place_within}
use Rattle.wish_sets.proofs.ShareLaws.{looked_up}
use Rattle.wish_sets.proofs.share.list_at_share.Goals as goal

pub returns-then-at-lists : goal.returns-then-at-lists
returns-then-at-lists c =
    absurd (let within = place_within (λ list. bytes_eq c.args.key.now list.0) 0 c.args.lists.now c.args.at (sym c.requires)
    in omega (arith, within))

pub returns : goal.returns
returns c =
    let here : c.args.at ≡ 0 + c.args.at = omega arith in
    let found = looked_up bytes_eq c.args.key.now 0 c.args.lists.now c.args.at c.index-lists-at.result
    (sym c.requires ∙ ap Some here) in
    IfOk-weaker c.list_share.result _ _ (λ shared is. is
    ∙ (ap (λ entries. list_share c.args.classes.now.entries (c.args.key.now, entries)) c.as_slice.ensures
    ∙ ap (listed_share c.args.classes.now.entries c.args.key.now) (sym found))) c.list_share.ensures
