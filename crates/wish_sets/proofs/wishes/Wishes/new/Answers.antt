-- Nothing is kept but the slots of threads and the fixed ones.
use Rattle.std.proofs.Common.{sym, subst, refl}
use Rattle.wish_sets.specs.Bounds.{IsBound}
use Rattle.wish_sets.proofs.NewLaws.{new_counts, new_kept}
use Rattle.wish_sets.proofs.wishes.Wishes.new.Goals as goal

pub invariant_of-result : goal.invariant_of-result
invariant_of-result c = (
  rw (
    c.new-3.ensures,
    c.fixed_slots.ensures,
    c.in_ok-push-2.ensures.items,
    c.in_ok-push.ensures.items,
    c.new-slots.ensures.items,
    c.new.ensures,
    c.new-2.ensures,
  ) new_kept,
  subst (λ wanted. IsBound wanted c.new-4.result) (sym c.new-3.ensures) c.new-4.ensures,
  rw c.new-6.ensures (record { late = tt; installed = refl; unset = tt; wished = refl }),
  λ whole. absurd (let not_whole = c.new-5.ensures in cc),
  rw (
    c.new-3.ensures,
    c.in_ok-push-2.ensures.items,
    c.in_ok-push.ensures.items,
    c.new-slots.ensures.items,
    c.new.ensures,
    c.new-2.ensures,
  ) new_counts,
)
