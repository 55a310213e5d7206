-- What was known is put back.
use Rattle.std.proofs.Common.{◌∙◌, ap, sym}
use Rattle.class_tables.specs.Facts.{same_class}
use Rattle.class_tables.specs.Tables.{put}
use Rattle.class_tables.proofs.TableLaws.{inserted}
use Rattle.wish_sets.specs.declared.known.Replaced.{Replaced}
use Rattle.wish_sets.specs.Tables.{put_back, undone}
use Rattle.wish_sets.proofs.TakenLaws.{put_back_is, undone_append}
use Rattle.wish_sets.proofs.known.replace.Goals as goal

pub returns-in-Err-clause-back : goal.returns-in-Err-clause-back
returns-in-Err-clause-back c =
    let put_now = c.in_ok-facts.ensures.entries
    ∙ inserted same_class c.args.class c.args.facts c.args.known.now.entries in
    rw (c.in-Err.ensures.items, c.take_back.ensures)
    (ap (undone c.args.replaced.now.items)
    (ap (λ (one : Replaced). put_back same_class c.args.class one.facts c.insert.new.self.entries)
    c.in-Err.ensures.value_returned
    ∙ (ap (put_back same_class c.args.class c.in_ok-facts.facts) put_now
    ∙ put_back_is same_class c.args.class c.args.facts c.args.known.now.entries c.in_ok-facts.facts
    c.in_ok-facts.ensures.old)))

pub returns-clause-ok : goal.returns-clause-ok
returns-clause-ok c =
    c.in_ok-facts.ensures.entries ∙ inserted same_class c.args.class c.args.facts c.args.known.now.entries

pub returns-clause-back : goal.returns-clause-back
returns-clause-back c =
    let put_now = c.in_ok-facts.ensures.entries
    ∙ inserted same_class c.args.class c.args.facts c.args.known.now.entries in
    rw c.in_default.ensures.items
    (undone_append c.args.replaced.now.items (record { class = c.args.class; facts = c.in_ok-facts.facts })
    c.insert.new.self.entries
    ∙ ap (undone c.args.replaced.now.items)
    (ap (put_back same_class c.args.class c.in_ok-facts.facts) put_now
    ∙ put_back_is same_class c.args.class c.args.facts c.args.known.now.entries c.in_ok-facts.facts
    c.in_ok-facts.ensures.old))
