use Rattle.std.proofs.Common.{ap, subst, ◌∙◌}
use Rattle.std.proofs.lemmas.Result.{err_from_is_err_and}
use Rattle.machine_model.specs.Replying.{SizesFor}
use Rattle.pending_table.specs.Windows.{place_under}
use Rattle.bridge_core.specs.Cores.{CoreState}
use Rattle.bridge_core.specs.Packets.{IsUnsettled}
use Rattle.bridge_core.specs.contracts.session.Core.{the_view}
use Rattle.bridge_core.proofs.SettleLaws.{can_reply_in, never_none, settled_in, unsettled_in}
use Rattle.bridge_core.proofs.session.Core.settle.Goals as goal

pub unreachable-requires : goal.unreachable-requires
unreachable-requires c =
    never_none c.args.id c.args.place _
    (ap (λ (core : CoreState). place_under c.args.id core.commands.sent)
    (ap the_view c.self-inside.view_is ∙ c.self.view_is) ∙ c.requires.at) c.in-Err.ensures.asked.0

pub returns-in_err-sizes-in-Ok-clause-err : goal.returns-in_err-sizes-in-Ok-clause-err
returns-in_err-sizes-in-Ok-clause-err c =
    let gives = err_from_is_err_and c.from_residual.result c.from_residual.ensures.1 in
    rw (gives.1, gives.2) IsUnsettled.no_memory

pub returns-in_err-replied-in-Ok-clause-err : goal.returns-in_err-replied-in-Ok-clause-err
returns-in_err-replied-in-Ok-clause-err c =
    let exit = c.from_residual-in_err-replied-in-Ok in
    let gives = err_from_is_err_and exit.result exit.ensures.1 in
    rw (gives.1, gives.2)
    (unsettled_in _ c.args.self.now c.settle.new.self c.args.at c.args.id c.args.error c.args.body.now _ c.in-Ok.asked
    c.in_ok-sizes-in-Ok.sizes (ap the_view c.self-inside.view_is ∙ c.self.view_is) c.in-Ok.ensures.asked
    (subst (λ sizes. SizesFor sizes c.in_ok-sizes-in-Ok.sizes) c.sizes.ensures c.in_ok-sizes-in-Ok.ensures)
    c.in_err-replied-in-Ok.ensures.err c.in-Ok.ensures.ok)

pub reply-requires : goal.reply-requires
reply-requires c =
    can_reply_in _ c.args.self.now c.args.id c.args.place c.in-Ok.asked
    (ap the_view c.self-inside.view_is ∙ c.self.view_is) c.requires.ready c.in-Ok.ensures.asked c.requires.at

pub returns-in_err-reply-in-Ok-clause-err : goal.returns-in_err-reply-in-Ok-clause-err
returns-in_err-reply-in-Ok-clause-err c =
    let exit = c.from_residual-in_err-reply-in-Ok in
    let gives = err_from_is_err_and exit.result exit.ensures.1 in
    rw (gives.1, gives.2) IsUnsettled.no_memory

pub returns-clause-ok : goal.returns-clause-ok
returns-clause-ok c =
    settled_in _ c.args.self.now c.reply.new.self c.settle.new.self c.args.id c.args.place c.args.error
    c.args.body.now c.in-Ok.asked c.in_ok-replied-in-Ok.replied c.in_ok-sizes-in-Ok.sizes
    (ap the_view c.self-inside.view_is ∙ c.self.view_is) c.in-Ok.ensures.asked
    (subst (λ sizes. SizesFor sizes c.in_ok-sizes-in-Ok.sizes) c.sizes.ensures c.in_ok-sizes-in-Ok.ensures)
    c.in_ok-replied-in-Ok.ensures.ok c.in_ok-reply-in-Ok.ensures c.in-Ok.ensures.ok
