use Rattle.std.proofs.Common.{ap, sym, ◌∙◌, Some}
use Rattle.std.proofs.lemmas.Result.{err_from_is_err_and}
use Rattle.machine_model.specs.State.{SizesRead}
use Rattle.bridge_core.specs.Calls.{AreRead}
use Rattle.bridge_core.specs.Moving.{RefusesKept}
use Rattle.bridge_core.specs.contracts.machine.Machine.{the_view}
use Rattle.bridge_core.proofs.KeptLaws.{reads_kept_so, refuses_kept_so}
use Rattle.message_bodies.proofs.HearLaws.{none_left_so}
use Rattle.bridge_core.proofs.machine.Machine.read_kept.Goals as goal

pub returns-then-is_gone-clause-ok : goal.returns-then-is_gone-clause-ok
returns-then-is_gone-clause-ok c = AreRead.none

pub returns-in-None-clause-ok : goal.returns-in-None-clause-ok
returns-in-None-clause-ok c = AreRead.none

pub returns-in_err-known-in-Some-clause-err : goal.returns-in_err-known-in-Some-clause-err
returns-in_err-known-in-Some-clause-err c =
    let gives = err_from_is_err_and c.from_residual.result c.from_residual.ensures.1 in
    rw (gives.1, gives.2) RefusesKept.no_memory

pub returns-in_ok-known-in-Some-clause-ok : goal.returns-in_ok-known-in-Some-clause-ok
returns-in_ok-known-in-Some-clause-ok c =
    rw (← c.self.view_is)
    (reads_kept_so c.read_kept.result _ c.in_ok-known-in-Some.field-0 c.read_kept.new.waiting.items
    (sym c.if-is_gone.ensures)
    (sym c.in-Some.ensures ∙ ap (λ (found : SizesRead). Some found) c.in_ok-known-in-Some.ensures)
    c.read_kept.ensures.ok)

pub returns-in_ok-known-in-Some-clause-none : goal.returns-in_ok-known-in-Some-clause-none
returns-in_ok-known-in-Some-clause-none c =
    none_left_so c.read_kept.result (the_view c.self.inside) c.read_kept.new.waiting.items c.read_kept.ensures.none

pub returns-in_ok-known-in-Some-clause-err : goal.returns-in_ok-known-in-Some-clause-err
returns-in_ok-known-in-Some-clause-err c =
    rw (← c.self.view_is)
    (refuses_kept_so c.read_kept.result _ c.in_ok-known-in-Some.field-0 c.read_kept.new.waiting.items
    (sym c.if-is_gone.ensures)
    (sym c.in-Some.ensures ∙ ap (λ (found : SizesRead). Some found) c.in_ok-known-in-Some.ensures)
    c.read_kept.ensures.err)
