-- The list at the place is the one under the key; where there is no place, there is none.
use Rattle.std.proofs.Common.{◌∙◌, ap, sym}
use Rattle.std.specs.Prelude.{bytes_eq}
use Rattle.wish_sets.specs.Counts.{listed_share}
use Rattle.wish_sets.proofs.ShareLaws.{nowhere}
use Rattle.wish_sets.proofs.share.share_at.Goals as goal

pub returns-in-None : goal.returns-in-None
returns-in-None c =
    c.new.ensures.items
    ∙ ap (listed_share c.args.wants.now.classes.entries c.args.key.now)
    (sym (nowhere bytes_eq c.args.key.now 0 c.args.wants.now.lists.items (let h = c.requires in cc)))
