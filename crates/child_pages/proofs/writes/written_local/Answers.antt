use Rattle.std.proofs.Common.{◌≡◌, ap, sym, subst, ◌∙◌, IfOk, option_map}
use Rattle.machine_model.specs.Plans.{need}
use Rattle.machine_model.specs.Writing.{child_written, slot_store}
use Rattle.look_ups.specs.Needs.{need_with, seen_by}
use Rattle.look_ups.specs.Shown.{declared_of}
use Rattle.child_pages.specs.Shown.{place_of, write_said, writing_of}
use Rattle.child_pages.proofs.WriteLaws.{child_is}
use Rattle.child_pages.proofs.writes.written_local.Goals as goal

pub returns-in-Some : goal.returns-in-Some
returns-in-Some c =
    let view = c.child.view_is in
    let store_in = slot_store c.args.frame in
    let written = child_is (writing_of c.args.writing) store_in c.in-Some.child.now c.slot_store-store.result
    (declared_of c.child.inside.declared) (place_of c.child.inside.place) (ap (λ child. child.declared) (sym view))
    (ap (λ child. child.place) (sym view)) c.slot_store-store.ensures in
    let here = ap (λ child. child_written (writing_of c.args.writing) store_in (option_map (λ one. one.now) child))
    (sym c.in-Some.is) in
    subst (λ plan. IfOk c.place_written.result (λ found. need_with write_said found ≡ need (seen_by c.args.sight) plan))
    (written ∙ here) c.place_written.ensures
