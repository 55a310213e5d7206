use Rattle.std.proofs.Common.{◌≡◌, true, false, ap, ◌∙◌}
use Rattle.machine_model.specs.Due.{can_read, is_full}
use Rattle.bridge_core.proofs.TalkLaws.{goes_on_so}
use Rattle.bridge_core.proofs.machine.Machine.step.Goals as goal

pub returns : goal.returns
returns c = λ id_pending full. rw (← c.self.view_is)
    (goes_on_so c.go_on.result id_pending _ c.go_on.new.state c.go_on.new.hand c.args.full
    (λ none. (let no : false ≡ true = rw none at c.if-is_none.ensures in cc))
    (ap can_read c.self.view_is ∙ c.requires.read) (ap (is_full id_pending) c.self.view_is ∙ full) c.go_on.ensures)
