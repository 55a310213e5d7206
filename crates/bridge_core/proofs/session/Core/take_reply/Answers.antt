use Rattle.std.proofs.Common.{refl, sym, ap, ◌∙◌}
use Rattle.std.proofs.lemmas.Result.{err_from_is_err_and}
use Rattle.pending_table.specs.Windows.{place_under}
use Rattle.bridge_core.specs.Cores.{CoreState}
use Rattle.bridge_core.proofs.SettleLaws.{none_under, refuses_on, refuses_reply, refuses_unknown, settles_on}
use Rattle.bridge_core.proofs.session.Core.take_reply.Goals as goal

pub returns-in_err-settle-in-Some-clause-err : goal.returns-in_err-settle-in-Some-clause-err
returns-in_err-settle-in-Some-clause-err c =
    let gives = err_from_is_err_and c.from_residual.result c.from_residual.ensures.1 in
    rw (gives.1, gives.2)
    (refuses_reply c.args.self.now _ c.args.at c.args.id c.args.error c.args.body.now _ c.requires
    c.in_err-settle-in-Some.ensures.err)

pub returns-in-None-clause-err : goal.returns-in-None-clause-err
returns-in-None-clause-err c =
    rw c.target_fault.ensures
    (refuses_unknown c.args.self.now c.args.self.now c.args.id c.args.error c.args.at c.args.body.now
    (none_under c.args.id _ (ap (λ (core : CoreState). place_under c.args.id core.commands.sent) (sym c.self.view_is)
    ∙ sym c.in-None.ensures)) refl)

pub returns-in_ok-settle-in-Some-clause-ok : goal.returns-in_ok-settle-in-Some-clause-ok
returns-in_ok-settle-in-Some-clause-ok c =
    settles_on c.read_kept.result c.args.self.now c.args.id c.in-Some.place c.args.error c.args.at c.args.body.now
    c.settle.new.self c.read_kept.new.self c.requires
    (ap (λ (core : CoreState). place_under c.args.id core.commands.sent) (sym c.self.view_is)
    ∙ sym c.in-Some.ensures) c.in_ok-settle-in-Some.ensures.ok (ap (λ (core : CoreState). core) c.self-in-Some.view_is)
    c.read_kept.ensures.ok c.read_kept.ensures.none

pub returns-in_ok-settle-in-Some-clause-err : goal.returns-in_ok-settle-in-Some-clause-err
returns-in_ok-settle-in-Some-clause-err c =
    refuses_on c.read_kept.result c.args.self.now c.args.id c.in-Some.place c.args.error c.args.at c.args.body.now
    c.settle.new.self c.read_kept.new.self c.requires
    (ap (λ (core : CoreState). place_under c.args.id core.commands.sent) (sym c.self.view_is)
    ∙ sym c.in-Some.ensures) c.in_ok-settle-in-Some.ensures.ok (ap (λ (core : CoreState). core) c.self-in-Some.view_is)
    c.read_kept.ensures.err
