use Rattle.std.proofs.Common.{ap, sym}
use Rattle.bridge_core.specs.Cores.{Unheard}
use Rattle.bridge_serve.proofs.Taking.{if_error, is_true, on_both, takes_greeting, tells_greeting, tells_last, tells_on}
use Rattle.bridge_serve.proofs.handling.take_greeting.Goals as goal

pub tell-requires : goal.tell-requires
tell-requires g c =
    tells_greeting _ _ _ c.args.inputs.now c.requires.ready c.requires.not_ended c.target_greeted.ensures.same
    c.target_greeted.ensures.ready

pub returns-clause-ok : goal.returns-clause-ok
returns-clause-ok g c =
    let came = is_true _ _ c.if-not-is_greeted.ensures (ap (λ (u : Unheard). u.target.greeted) c.inputs.view_is) in
    let takes = takes_greeting _ _ _ c.args.inputs.now c.requires.ready (sym c.if-is_greeted.ensures) came
    c.target_greeted.ensures.same in
    on_both c.tell.result _ _ _ c.tell.ensures.ok c.tell.ensures.nothing_due
    (λ on due. tells_on _ _ _ _ _ c.args.inputs.now _ takes on due)

pub returns-clause-err : goal.returns-clause-err
returns-clause-err g c =
    let came = is_true _ _ c.if-not-is_greeted.ensures (ap (λ (u : Unheard). u.target.greeted) c.inputs.view_is) in
    let takes = takes_greeting _ _ _ c.args.inputs.now c.requires.ready (sym c.if-is_greeted.ensures) came
    c.target_greeted.ensures.same in
    if_error c.tell.result _ _ c.tell.ensures.err
    (λ ending stops. tells_last _ _ _ _ _ c.args.inputs.now _ ending takes stops)
