-- The value stands at its place.
use Rattle.std.proofs.Common.{sym}
use Rattle.wish_sets.proofs.TableLaws.{valued}
use Rattle.wish_sets.proofs.TakenLaws.{value_beyond}
use Rattle.wish_sets.proofs.table.put_value.Goals as goal

pub returns-then-at-entries : goal.returns-then-at-entries
returns-then-at-entries g c =
    rw (c.replace.ensures.after, ← c.index-entries-at.is)
    (valued c.args.entries.now c.args.at c.index-entries-at.result c.args.value c.index-entries-at.is)

pub returns-else-at-entries : goal.returns-else-at-entries
returns-else-at-entries g c =
    sym (value_beyond c.args.entries.now c.args.at c.args.value c.if-at-entries.false)
