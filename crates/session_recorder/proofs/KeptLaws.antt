-- What is kept of what the wires inside logged, and how their links are told where memory was not refused.
use Rattle.std.proofs.Common.{◌≡◌, Bool, true, false, not, ◌&&◌, List, [], ◌∷◌, refl, sym, ap, ◌∙◌}
use Rattle.wire_core.specs.Outside.{Link, Outside, link_of}
use Rattle.wire_core.specs.declared.outside.Entry.{Entry}
use Rattle.wire_core.specs.declared.outside.Entry.TheVariants.{In, Out, Shut, Failed, Quiet}
use Rattle.wire_core.specs.declared.outside.Side.{Side}
use Rattle.wire_core.specs.declared.outside.Side.TheVariants.{Client, Target}
use Rattle.session_recorder.specs.Books.{is_refused}
use Rattle.session_recorder.specs.Recording.{IsKept, agrees, has_failure, link_over, outside_over, unsent}
use Rattle.session_recorder.specs.States.{is_lost, fits}
use Rattle.session_recorder.specs.declared.book.Book.{Book}
use Rattle.session_recorder.specs.declared.side_state.SideState.{SideState}
use Rattle.session_recorder.specs.declared.side_state.SideState.TheVariants.{Open, Closed, Lost}
use Rattle.session_recorder.proofs.StateLaws.{or_both}
use Rattle.session_recorder.proofs.OverLaws.{side_fits}

pub came_kept : (told kept : List Entry) → IsKept told kept → unsent kept ≡ unsent told
came_kept told kept IsKept.none = refl
came_kept told kept (IsKept.same (In side bytes) is) = ap (λ (l : List Entry). In side bytes ∷ l) (came_kept _ _ is)
came_kept told kept (IsKept.same (Out side bytes) is) = came_kept _ _ is
came_kept told kept (IsKept.same (Shut side) is) = ap (λ (l : List Entry). Shut side ∷ l) (came_kept _ _ is)
came_kept told kept (IsKept.same (Failed side) is) = ap (λ (l : List Entry). Failed side ∷ l) (came_kept _ _ is)
came_kept told kept (IsKept.same Quiet is) = ap (λ (l : List Entry). Quiet ∷ l) (came_kept _ _ is)
came_kept told kept (IsKept.broken side part is) = ap (λ (l : List Entry). Failed side ∷ l) (came_kept _ _ is)

pub whole_kept : (told kept : List Entry) → IsKept told kept → has_failure kept ≡ false → kept ≡ told
whole_kept told kept IsKept.none none = refl
whole_kept told kept (IsKept.same (In side bytes) is) none =
    ap (λ (l : List Entry). In side bytes ∷ l) (whole_kept _ _ is none)
whole_kept told kept (IsKept.same (Out side bytes) is) none =
    ap (λ (l : List Entry). Out side bytes ∷ l) (whole_kept _ _ is none)
whole_kept told kept (IsKept.same (Shut side) is) none =
    ap (λ (l : List Entry). Shut side ∷ l) (whole_kept _ _ is none)
whole_kept told kept (IsKept.same (Failed side) is) none = absurd cc
whole_kept told kept (IsKept.same Quiet is) none = ap (λ (l : List Entry). Quiet ∷ l) (whole_kept _ _ is none)
whole_kept told kept (IsKept.broken side part is) none = absurd cc

-- a link with this for whether it is open
with_open : Link → Bool → Link
with_open l is = record { faults = l.faults; empties = l.empties; is_open = is }

not_open : (b : Bool) → not b ≡ true → false ≡ b
not_open true is = absurd cc
not_open false is = refl

link_same : (s : SideState) (l : Link) (right : Bool) → right ≡ true → fits s l ≡ true → is_lost s ≡ false
    → link_over right s l ≡ l
unfolding with_open
link_same Open l true is fit whole = ap (with_open l) (sym fit)
link_same Open l false is fit whole = absurd cc
link_same Closed l true is fit whole = ap (with_open l) (not_open l.is_open fit)
link_same Closed l false is fit whole = absurd cc
link_same Lost l right is fit whole = absurd cc

pub links_same : (side : Side) (o : Outside) (b : Book) → agrees o b ≡ true → is_refused b ≡ false
    → link_of side (outside_over o b) ≡ link_of side o
links_same Client o b right whole =
    link_same b.client o.client (agrees o b) right (side_fits Client o b right) (or_both _ _ whole).0
links_same Target o b right whole =
    link_same b.target o.target (agrees o b) right (side_fits Target o b right) (or_both _ _ whole).1
