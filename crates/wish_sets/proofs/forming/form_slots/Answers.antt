-- Each wish has its slot, and its number there changes.
use Rattle.std.proofs.Common.{◌≡◌, ◌∙◌, ap, sym, subst, true}
use Rattle.std.specs.List.{AllByRecursion}
use Rattle.wish_sets.specs.Counts.{lowered_all, raised_all}
use Rattle.wish_sets.specs.Forming.{has_its_slot}
use Rattle.wish_sets.specs.Standing.{AreSorted}
use Rattle.wish_sets.proofs.CountLaws.{raised_all_sorted}
use Rattle.wish_sets.proofs.forming.form_slots.Goals as goal

pub lower_all-requires : goal.lower_all-requires
lower_all-requires c =
    subst AreSorted (sym c.raise_all.ensures)
    (raised_all_sorted c.as_slice-added.result.now c.add_slots.new.slots.items c.add_slots.ensures.wider.in_order.sorted)

pub returns-clause-ok : goal.returns-clause-ok
returns-clause-ok c = record {
  wide = c.add_slots.new.slots.items;
  wider = c.add_slots.ensures.wider;
  slotted = subst (AllByRecursion (λ wish. has_its_slot c.add_slots.new.slots.items wish ≡ true))
      c.as_slice-added.ensures.value c.in_ok-add_slots.ensures.ok;
  numbers = c.lower_all.ensures
      ∙ (ap (lowered_all c.as_slice.result.now) c.raise_all.ensures
      ∙ (ap (λ those. lowered_all those (raised_all c.as_slice-added.result.now c.add_slots.new.slots.items))
      c.as_slice.ensures.value
      ∙ ap (λ those. lowered_all c.args.shift.now.taken.items (raised_all those c.add_slots.new.slots.items))
      c.as_slice-added.ensures.value));
}
