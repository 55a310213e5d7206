use Rattle.std.proofs.Common.{◌∙◌}
use Rattle.class_tables.specs.contracts.classes.Classes.{the_view}
use Rattle.class_tables.specs.Lookups.{found_in}
use Rattle.class_tables.proofs.ViewLaws.{are_facts_of}
use Rattle.class_tables.proofs.classes.Classes.view.Goals as goal

pub returns : goal.returns
returns c =
    rw (← c.self.view_is)
    (are_facts_of (found_in (the_view c.self.inside)) c.args.class _ _ c.get-loaded.ensures c.tag_of.ensures
    c.signature_of.ensures c.is_prepared.ensures (c.file_of.ensures ∙ c.get.ensures) c.get-2.ensures c.get-3.ensures
    (c.copied.ensures ∙ c.get-4.ensures))
