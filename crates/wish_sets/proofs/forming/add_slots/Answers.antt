-- One wish more has its slot, and room in it.
use Rattle.std.proofs.Common.{◌≡◌, true, subst, add-one, arith}
use Rattle.wish_sets.specs.Forming.{has_its_slot}
use Rattle.wish_sets.proofs.FormingLaws.{wider-refl, wider-trans, one_more, room_more}
use Rattle.wish_sets.proofs.forming.add_slots.Goals as goal

pub loop-wish-init : goal.loop-wish-init
loop-wish-init c = record { wider = wider-refl c.args.slots.now.items c.requires.in_order; slotted = tt; room = tt }

pub loop-wish-preserved : goal.loop-wish-preserved
loop-wish-preserved c =
    rw add-one (record {
      wider = wider-trans c.args.slots.now.items c.loop-wish.slots.items c.add_slot.new.slots.items
          c.loop-wish.invariant.wider c.add_slot.ensures.wider;
      slotted = one_more c.args.those.now c.loop-wish.slots.items c.add_slot.new.slots.items c.loop-wish.wish-index
          c.wish-item.result (omega arith) c.add_slot.ensures.wider c.loop-wish.invariant.slotted
          (subst (λ wish. has_its_slot c.add_slot.new.slots.items wish ≡ true) c.wish-item.is
          c.in_ok-add_slot.ensures.ok);
      room = room_more c.args.those.now c.loop-wish.slots.items c.add_slot.new.slots.items c.deref.result.now
          c.loop-wish.wish-index _ c.wish-item.result (omega arith) c.add_slot.ensures.wider c.loop-wish.invariant.room
          c.wish-item.is c.deref.ensures.value
          (c.is_within.ensures c.if-not-is_within.false);
    })

pub returns-in_err-add_slot-clause-wider : goal.returns-in_err-add_slot-clause-wider
returns-in_err-add_slot-clause-wider c =
    wider-trans c.args.slots.now.items c.loop-wish.slots.items c.add_slot.new.slots.items
    c.loop-wish.invariant.wider c.add_slot.ensures.wider

pub returns-then-not-is_within-clause-wider : goal.returns-then-not-is_within-clause-wider
returns-then-not-is_within-clause-wider c =
    wider-trans c.args.slots.now.items c.loop-wish.slots.items c.add_slot.new.slots.items
    c.loop-wish.invariant.wider c.add_slot.ensures.wider
