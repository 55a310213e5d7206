use Rattle.std.proofs.Common.{sym, ap, ◌∙◌}
use Rattle.machine_model.specs.State.{is_gone}
use Rattle.bridge_core.specs.Cores.{CoreState}
use Rattle.bridge_core.proofs.RestLaws.{rests_so}
use Rattle.bridge_core.proofs.session.Core.at_rest.Goals as goal

pub returns-else-is_gone : goal.returns-else-is_gone
returns-else-is_gone c =
    c.awaits_nothing.ensures ∙ rests_so c.args.self.now c.requires
    (ap (λ (core : CoreState). is_gone core.machine.state.phase) (sym c.self.view_is) ∙ sym c.if-is_gone.ensures)
