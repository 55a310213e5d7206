-- None is left that lacks something, so none of all is.
use Rattle.std.proofs.Common.{◌∙◌, sym}
use Rattle.class_tables.specs.Lookups.{found_in}
use Rattle.session_facts.proofs.OpenLaws.{none_lack}
use Rattle.session_facts.proofs.open_classes.trimmed.Goals as goal

pub returns-then-none_lacks-clause-lacking : goal.returns-then-none_lacks-clause-lacking
returns-then-none_lacks-clause-lacking c =
    none_lack c.args.wishes.now.wanted (found_in c.args.classes.now) c.args.left c.requires
    (sym c.none_lacks.ensures ∙ c.if-none_lacks.true)
