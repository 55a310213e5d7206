-- One more of these is raised.
use Rattle.std.proofs.Common.{◌≡◌, ◌+◌, ◌∷◌, ◌∙◌, suc, ap, arith, drop, drop-cons, length, refl, subst, sym}
use Rattle.wish_sets.specs.Counts.{most_for, raised, raised_all, HaveRoom}
use Rattle.wish_sets.proofs.CountLaws.{raised_sorted, room_is, room_raised}
use Rattle.wish_sets.proofs.counts.raise_each.Goals as goal

pub loop-wish-init : goal.loop-wish-init
loop-wish-init c = record {
  sorted = c.requires.sorted;
  room = let same : most_for (length c.args.those.now) ≡ most_for (length c.args.those.now) + 0 = omega arith in
      subst (λ n. HaveRoom n c.args.slots.now c.args.those.now) same c.requires.room;
  done = refl;
}

pub raise-requires-clause-room : goal.raise-requires-clause-room
raise-requires-clause-room c =
    let those = c.args.those.now in
    let at = c.loop-wish.wish-index in
    let most = most_for (length those) + at in
    let head = drop-cons those at c.wish-item.result (omega arith)
    ∙ ap (λ w. w ∷ drop (suc at) those) (sym c.wish-item.is) in
    let room = subst (HaveRoom most c.loop-wish.slots) head c.loop-wish.invariant.room in
    room_is most c.wish-item.result c.loop-wish.slots room.0 (omega (arith, c.requires.few))

pub loop-wish-preserved : goal.loop-wish-preserved
loop-wish-preserved c =
    let those = c.args.those.now in
    let at = c.loop-wish.wish-index in
    let most = most_for (length those) + at in
    let head = drop-cons those at c.wish-item.result (omega arith)
    ∙ ap (λ w. w ∷ drop (suc at) those) (sym c.wish-item.is) in
    let room = subst (HaveRoom most c.loop-wish.slots) head c.loop-wish.invariant.room in
    let more : most + 1 ≡ most_for (length those) + suc at = omega arith in
    let next : suc at ≡ at + 1 = omega arith in
    rw c.raise.ensures (record {
      sorted = raised_sorted c.wish-item.result c.loop-wish.slots c.loop-wish.invariant.sorted;
      room = subst (λ n. HaveRoom (most_for (length those) + n) (raised c.wish-item.result c.loop-wish.slots)
          (drop n those)) next
          (subst (λ n. HaveRoom n (raised c.wish-item.result c.loop-wish.slots) (drop (suc at) those)) more
          (room_raised most c.wish-item.result c.loop-wish.slots (drop (suc at) those) room.1));
      done = ap (λ n. raised_all (drop n those) (raised c.wish-item.result c.loop-wish.slots)) (sym next)
          ∙ (ap (λ ws. raised_all ws c.loop-wish.slots) (sym head) ∙ c.loop-wish.invariant.done);
    })
