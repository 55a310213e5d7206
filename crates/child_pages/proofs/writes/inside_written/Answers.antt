use Rattle.std.proofs.Common.{◌≡◌, ap, sym, subst, ◌∙◌, true, bytes_eq, IfOk}
use Rattle.machine_model.specs.Children.{index_name, of_index}
use Rattle.machine_model.specs.Plans.{need}
use Rattle.machine_model.specs.Writing.{element_by, element_store}
use Rattle.look_ups.specs.Needs.{need_with, seen_by}
use Rattle.look_ups.specs.Shown.{declared_of}
use Rattle.child_pages.specs.Shown.{place_of, write_said, writing_of}
use Rattle.child_pages.proofs.WriteLaws.{child_is}
use Rattle.child_pages.proofs.writes.inside_written.Goals as goal

pub returns-then-eq : goal.returns-then-eq
returns-then-eq c =
    let is = c.child.view_is ∙ c.in_ok-child.ensures in
    let child = of_index c.args.array c.args.index in
    let written = child_is (writing_of c.args.writing) (element_store c.args.array) child c.in_ok-store.store
    (declared_of c.child.inside.declared) (place_of c.child.inside.place) (ap (λ child. child.declared) (sym is))
    (ap (λ child. child.place) (sym is)) c.in_ok-store.ensures in
    let named : bytes_eq c.args.name.now (index_name c.args.index) ≡ true =
    ap (λ name. bytes_eq name (index_name c.args.index)) (sym c.as_bytes.ensures)
    ∙ ap (λ name. bytes_eq c.as_bytes.result.now name) (sym (ap (λ child. child.name) is) ∙ sym c.as_bytes-2.ensures)
    ∙ sym c.eq.ensures ∙ c.if-eq.true in
    let here = ap (λ same. element_by (writing_of c.args.writing) true same c.args.array c.args.index) (sym named) in
    subst (λ plan. IfOk c.place_written.result (λ found. need_with write_said found ≡ need (seen_by c.args.sight) plan))
    (written ∙ here) c.place_written.ensures
