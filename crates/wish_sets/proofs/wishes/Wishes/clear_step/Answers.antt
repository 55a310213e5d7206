-- The slots of steps are those of no step.
use Rattle.std.proofs.Common.{None}
use Rattle.wish_sets.proofs.StepKept.{step_is, step_kept}
use Rattle.wish_sets.proofs.wishes.Wishes.clear_step.Goals as goal

pub invariant_of-self : goal.invariant_of-self
invariant_of-self c = (
  rw c.want_step.ensures (step_kept c.self.inside.wants c.self.inside.slots.items c.self.inside.fixed
      c.self.invariant.0 None),
  c.self.invariant.1,
  c.self.invariant.2,
  c.self.invariant.3,
  record {
    slotted = c.self.invariant.4.slotted;
    numbers = c.self.invariant.4.numbers;
    wished = c.self.invariant.4.wished;
  },
)

pub returns : goal.returns
returns c =
    rw (c.want_step.ensures, ← c.self.view_is) (step_is c.self.inside.wants c.self.inside.slots.items
    c.self.inside.fixed
    c.self.invariant.0 None)
