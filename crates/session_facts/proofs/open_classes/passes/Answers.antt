-- Its source isn't listed, and no function names it.
use Rattle.std.proofs.Common.{◌∙◌, ap, sym}
use Rattle.class_tables.specs.Lookups.{found_in}
use Rattle.session_facts.specs.OpenClasses.{unnamed_by}
use Rattle.session_facts.proofs.OpenLaws.{passed}
use Rattle.session_facts.proofs.open_classes.passes.Goals as goal

pub returns : goal.returns
returns c is =
    let wanted = c.args.wishes.now.wanted in
    passed wanted (found_in c.args.classes.now) c.args.class
    (sym c.is_unlisted.ensures ∙ c.if-not-is_unlisted.false)
    (ap (unnamed_by wanted) (sym c.known_signature.ensures) ∙ sym c.is_unnamed.ensures ∙ is)
