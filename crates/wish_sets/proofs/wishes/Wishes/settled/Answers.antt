-- What stands is what the outcome leads to, and what is kept says so.
use Rattle.std.proofs.Common.{sym, ap, ◌∙◌, subst, slice_get}
use Rattle.wish_sets.specs.Kept.{wanted_by, wishes_by}
use Rattle.wish_sets.specs.Owners.{AreOwned}
use Rattle.wish_sets.specs.Slots.{awaits, marked}
use Rattle.wish_sets.proofs.FirstLaws.{changed-append}
use Rattle.wish_sets.proofs.ShiftLaws.{counts_marked}
use Rattle.wish_sets.proofs.MarkedLaws.{kept_marked, quiet_is, settled_is}
use Rattle.wish_sets.proofs.OwnerLaws.{changed_within, elsewhere, found_still}
use Rattle.wish_sets.proofs.wishes.Wishes.settled.Goals as goal

pub invariant_of-self : goal.invariant_of-self
invariant_of-self c =
    let is = rw (← c.self.view_is) at c.requires.outcome in (
      rw (c.settle-found.ensures.slots, c.settle-found.ensures.fixed)
          (kept_marked (wanted_by c.self.inside.wants) c.args.outcome c.self.inside.slots.items c.self.inside.fixed
          c.self.invariant.0
          (quiet_is c.self.inside.wants c.self.inside.slots.items c.self.inside.fixed c.self.invariant.0
          c.args.outcome is)),
      c.self.invariant.1,
      c.settle-found.ensures.past,
      subst (AreOwned c.keep.new.self) c.deref.ensures.value
          (c.keep.ensures (λ whole place other. found_still c.self.inside.owners.places c.self.inside.slots.items
          c.deref.result.now place
          (ap (λ those. slice_get those place) (c.deref.ensures.value ∙ c.settle-found.ensures.slots)
          ∙ elsewhere (awaits c.args.outcome) (marked c.args.outcome) c.self.inside.slots.items
          c.settle-found.result place c.settle-found.ensures.place other)
          (c.self.invariant.3 whole place))),
      rw c.settle-found.ensures.slots
          (counts_marked (wanted_by c.self.inside.wants) c.args.outcome c.self.inside.slots.items c.self.invariant.4),
    )

pub keep-requires : goal.keep-requires
keep-requires c =
    rw (c.deref.ensures.value, c.settle-found.ensures.slots)
    (changed_within (awaits c.args.outcome) (marked c.args.outcome) c.self.inside.slots.items c.settle-found.result
    c.settle-found.ensures.place)

pub returns : goal.returns
returns c =
    let is = rw (← c.self.view_is) at c.requires.outcome in
    rw (c.settle-found.ensures.slots, c.settle-found.ensures.fixed, ← c.self.view_is)
    (ap (wishes_by c.self.inside.wants) (sym (changed-append (awaits c.args.outcome) (marked c.args.outcome)
    c.self.inside.slots.items c.self.inside.fixed))
    ∙ settled_is c.self.inside.wants c.self.inside.slots.items c.self.inside.fixed c.self.invariant.0 c.args.outcome is)
