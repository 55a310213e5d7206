use Rattle.std.proofs.Common.{Some, refl, sym, ap, ◌∙◌}
use Rattle.std.proofs.lemmas.Result.{err_from_is_err_and, on_ok_weaker}
use Rattle.machine_model.specs.State.{SizesRead}
use Rattle.bridge_core.specs.Calls.{RefusesPacket}
use Rattle.bridge_core.specs.Cores.{CoreState}
use Rattle.bridge_core.specs.declared.session.Core.TheInside.{Inside}
use Rattle.bridge_core.proofs.PacketLaws.{keeps_so, refuses_command, refuses_memory, refuses_untaken_so, takes_so}
use Rattle.bridge_core.proofs.session.Core.take_command.Goals as goal

pub returns-then-not-is_composite-clause-err : goal.returns-then-not-is_composite-clause-err
returns-then-not-is_composite-clause-err c =
    rw c.target_fault.ensures
    (refuses_command c.args.self.now c.args.self.now c.args.at c.args.id c.args.set c.args.command c.args.body.now
    (sym c.if-not-is_composite.ensures) refl)

pub returns-in_err-known-in-Some-clause-err : goal.returns-in_err-known-in-Some-clause-err
returns-in_err-known-in-Some-clause-err c =
    let gives = err_from_is_err_and c.from_residual.result c.from_residual.ensures.1 in
    rw (gives.1, gives.2) RefusesPacket.no_memory

pub returns-in-None-clause-ok : goal.returns-in-None-clause-ok
returns-in-None-clause-ok c =
    on_ok_weaker c.keep.result (λ same.
    keeps_so c.args.self.now _ c.args.at c.args.id c.args.set c.args.command c.args.body.now c.requires
    (sym c.if-not-is_composite.ensures)
    (ap (λ (core : CoreState). core.machine.state.sizes) (sym c.self.view_is)
    ∙ ap (λ (inside : Inside). inside.machine.state.sizes) (sym c.self-inside.view_is) ∙ sym c.in-None.ensures) same)
    c.keep.ensures.ok

pub returns-in-None-clause-err : goal.returns-in-None-clause-err
returns-in-None-clause-err c = refuses_memory c.keep.result _ _ _ _ c.keep.ensures.err

pub returns-in_ok-known-in-Some-clause-ok : goal.returns-in_ok-known-in-Some-clause-ok
returns-in_ok-known-in-Some-clause-ok c =
    on_ok_weaker c.come.result (λ taken.
    takes_so c.args.self.now _ c.in_ok-known-in-Some.field-0 c.args.at c.args.id c.args.set c.args.command
    c.args.body.now c.requires (sym c.if-not-is_composite.ensures)
    (ap (λ (core : CoreState). core.machine.state.sizes) (sym c.self.view_is)
    ∙ ap (λ (inside : Inside). inside.machine.state.sizes) (sym c.self-inside.view_is) ∙ sym c.in-Some.ensures
    ∙ ap (λ (found : SizesRead). Some found) c.in_ok-known-in-Some.ensures) taken)
    c.come.ensures.ok

pub returns-in_ok-known-in-Some-clause-err : goal.returns-in_ok-known-in-Some-clause-err
returns-in_ok-known-in-Some-clause-err c =
    refuses_untaken_so c.come.result c.args.self.now _ c.in_ok-known-in-Some.field-0 c.args.at c.args.id c.args.set
    c.args.command c.args.body.now (sym c.if-not-is_composite.ensures)
    (ap (λ (core : CoreState). core.machine.state.sizes) (sym c.self.view_is)
    ∙ ap (λ (inside : Inside). inside.machine.state.sizes) (sym c.self-inside.view_is) ∙ sym c.in-Some.ensures
    ∙ ap (λ (found : SizesRead). Some found) c.in_ok-known-in-Some.ensures)
    c.come.ensures.err
