-- Where the class isn't there, nothing changes.
use Rattle.std.proofs.Common.{◌∙◌, ap, sym}
use Rattle.class_tables.specs.Facts.{same_class}
use Rattle.wish_sets.specs.Tables.{put_back}
use Rattle.wish_sets.proofs.TakenLaws.{set_nowhere}
use Rattle.wish_sets.proofs.known.take_back.Goals as goal

pub returns-in_default : goal.returns-in_default
returns-in_default c =
    rw c.get_mut.follows.holds-at-none
    (sym (set_nowhere same_class c.args.class c.in-Some.before c.args.known.now.entries c.in_default.ensures.value)
    ∙ ap (λ before. put_back same_class c.args.class before c.args.known.now.entries) (sym c.in-Some.is))
