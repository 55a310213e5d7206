-- A package is watched where it is wished.
use Rattle.std.proofs.Common.{◌∙◌, ap, sym, arith}
use Rattle.wish_sets.specs.declared.wish.Wish.TheVariants as wishes
use Rattle.wish_sets.specs.Kept.{wanted_by}
use Rattle.wish_sets.specs.Names.{package_name}
use Rattle.wish_sets.specs.Order.{has_wish}
use Rattle.wish_sets.specs.Slots.{wishes_in}
use Rattle.wish_sets.proofs.WantedLaws.{has_early}
use Rattle.wish_sets.proofs.WatchLaws.{watched_is_wished}
use Rattle.wish_sets.proofs.wishes.Wishes.is_watched.Goals as goal

pub returns : goal.returns
returns c =
    let watch = wishes.Watch (package_name c.args.path.now) in
    rw (← c.self.view_is) (c.watches.ensures
    ∙ (ap (λ slots. has_wish (wishes_in slots) watch) c.deref.ensures.value
    ∙ (ap (λ those. has_wish those watch) c.self.invariant.0.wishes
    ∙ (sym (has_early (wanted_by c.self.inside.wants) watch (omega arith))
    ∙ sym (watched_is_wished (wanted_by c.self.inside.wants) c.args.path.now)))))
