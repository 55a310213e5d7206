-- The slots of exceptions are those of the flags.
use Rattle.wish_sets.proofs.ThrownLaws.{thrown_is, thrown_kept}
use Rattle.wish_sets.proofs.wishes.Wishes.set_exceptions.Goals as goal

pub invariant_of-self : goal.invariant_of-self
invariant_of-self c = (
  rw c.want_thrown.ensures (thrown_kept c.self.inside.wants c.self.inside.slots.items c.self.inside.fixed
      c.self.invariant.0 c.args.caught c.args.uncaught),
  c.self.invariant.1,
  c.self.invariant.2,
  c.self.invariant.3,
  record {
    slotted = c.self.invariant.4.slotted;
    numbers = c.self.invariant.4.numbers;
    wished = c.self.invariant.4.wished;
  },
)

pub returns : goal.returns
returns c =
    rw (c.want_thrown.ensures, ← c.self.view_is) (thrown_is c.self.inside.wants c.self.inside.slots.items
    c.self.inside.fixed
    c.self.invariant.0 c.args.caught c.args.uncaught)
