-- Names are one where their wishes are.
use Rattle.std.proofs.Common.{◌∙◌, ap, sym}
use Rattle.std.specs.Prelude.{bytes_eq}
use Rattle.wish_sets.specs.declared.wish.Wish.TheVariants as wishes
use Rattle.wish_sets.specs.Names.{package_name}
use Rattle.wish_sets.specs.Order.{is_wish}
use Rattle.wish_sets.proofs.FormingLaws.{same_package}
use Rattle.wish_sets.proofs.asked.is_watch_of.Goals as goal

pub returns-in-Watch : goal.returns-in-Watch
returns-in-Watch c =
    c.is_package_name.ensures
    ∙ (ap (λ name. bytes_eq name (package_name c.args.path.now)) c.as_bytes.ensures
    ∙ (same_package c.in-Watch.name (package_name c.args.path.now)
    ∙ ap (is_wish (wishes.Watch (package_name c.args.path.now))) (sym c.in-Watch.is)))
