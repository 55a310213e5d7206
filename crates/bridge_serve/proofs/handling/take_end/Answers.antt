use Rattle.std.proofs.Common.{◌∙◌, ap, sym}
use Rattle.std.proofs.lemmas.Result.{err_from_is_err_and}
use Rattle.bridge_core.specs.Cores.{Unheard}
use Rattle.bridge_serve.proofs.Taking.{end_taken, goes_as, if_error, on_both, refuses_end, takes_end, tells_end}
use Rattle.bridge_serve.proofs.Taking.{tells_last, tells_on}
use Rattle.bridge_serve.proofs.handling.take_end.Goals as goal

pub tell-requires : goal.tell-requires
tell-requires g c =
    tells_end _ _ _ c.args.inputs.now c.requires c.in_ok-target_shut.ensures.ok c.in_ok-target_shut.ensures.ready

pub returns-in_err-target_shut-clause-err : goal.returns-in_err-target_shut-clause-err
returns-in_err-target_shut-clause-err g c =
    let ended = sym (ap (λ (u : Unheard). u.ended) c.inputs.view_is) ∙ c.if-not-inputs.false in
    let gives = err_from_is_err_and c.from_residual.result c.from_residual.ensures.1 in
    rw (gives.1, gives.2)
    (refuses_end _ _ _ c.args.inputs.now _ c.requires ended c.in_err-target_shut.ensures.err)

pub returns-clause-ok : goal.returns-clause-ok
returns-clause-ok g c =
    let unheard = c.args.inputs.now in
    let ended = sym (ap (λ (u : Unheard). u.ended) c.inputs.view_is) ∙ c.if-not-inputs.false in
    let takes = takes_end _ _ _ unheard c.requires ended c.in_ok-target_shut.ensures.ok in
    on_both c.tell.result _ _ _ c.tell.ensures.ok c.tell.ensures.nothing_due
    (λ on due. goes_as (ap (λ (u : Unheard). end_taken u) c.inputs.view_is)
    (tells_on _ _ _ _ _ unheard _ takes on due))

pub returns-clause-err : goal.returns-clause-err
returns-clause-err g c =
    let unheard = c.args.inputs.now in
    let ended = sym (ap (λ (u : Unheard). u.ended) c.inputs.view_is) ∙ c.if-not-inputs.false in
    let takes = takes_end _ _ _ unheard c.requires ended c.in_ok-target_shut.ensures.ok in
    if_error c.tell.result _ _ c.tell.ensures.err
    (λ ending stops. tells_last _ _ _ _ _ unheard _ ending takes stops)
