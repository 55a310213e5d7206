-- The value stands at its place.
use Rattle.wish_sets.proofs.TableLaws.{valued, restored}
use Rattle.wish_sets.proofs.table.put_at.Goals as goal

pub returns-in-Some-clause-ok : goal.returns-in-Some-clause-ok
returns-in-Some-clause-ok g c =
    rw (c.in-Some.is, c.replace.ensures.after)
    (valued c.args.entries.now.items c.in-Some.at c.index_mut.result.now c.args.value c.index_mut.ensures.value)

pub returns-in-Some-clause-back : goal.returns-in-Some-clause-back
returns-in-Some-clause-back g c =
    rw (c.in-Some.is, c.replace.ensures.value)
    (restored c.args.entries.now.items c.in-Some.at c.index_mut.result.now c.replace.new.dest c.index_mut.ensures.value)
