-- The share of the class is added to what is wished more, and that of what was known of it to what is wished less.
use Rattle.std.proofs.Common.{◌++◌, subst, sym}
use Rattle.std.proofs.lemmas.Result.{on_ok_weaker}
use Rattle.class_tables.specs.Facts.{same_class}
use Rattle.class_tables.specs.Tables.{put}
use Rattle.wish_sets.specs.Counts.{class_share, option_share, AreEarly, IsTold}
use Rattle.wish_sets.specs.Wanted.{Wanted, nothing_wanted}
use Rattle.wish_sets.proofs.ShareLaws.{class_share_early, told_one}
use Rattle.wish_sets.proofs.known.know.Goals as goal

pub returns-clause-early : goal.returns-clause-early
returns-clause-early c =
    let wanted : Wanted = record nothing_wanted {
      lists = c.args.entries.lists.now;
      functions = c.args.entries.functions.now;
    } in
    on_ok_weaker c.replace.result (λ is all. subst AreEarly (sym c.in_ok-add_class_share.ensures)
    (class_share_early wanted (c.args.class, c.in-Some.facts) c.args.shift.now.added.items all)) c.replace.ensures.ok

pub returns-clause-shift : goal.returns-clause-shift
returns-clause-shift c =
    let wanted : Wanted = record nothing_wanted {
      lists = c.args.entries.lists.now;
      functions = c.args.entries.functions.now;
    } in
    let known = c.args.known.now.entries in
    let added = c.args.shift.now.added.items in
    let taken = c.args.shift.now.taken.items in
    let later = put same_class c.args.class c.in-Some.facts known in
    let share = class_share wanted (c.args.class, c.in-Some.facts) in
    on_ok_weaker c.replace.result (λ is.
    subst (λ now. IsTold wanted known now added c.add_class_share.new.found.items taken
    c.add_known_share.new.found.items) (sym is)
    (subst (λ now. IsTold wanted known later added now taken c.add_known_share.new.found.items)
    (sym c.in_ok-add_class_share.ensures)
    (subst (λ now. IsTold wanted known later added (added ++ share) taken now)
    (sym c.in_ok-add_known_share.ensures)
    (subst (λ o. IsTold wanted known later added (added ++ share) taken (taken ++ option_share wanted c.args.class o))
    (sym c.get.ensures.value)
    (told_one wanted c.args.class c.in-Some.facts known added taken))))) c.replace.ensures.ok
