-- One more of these is lowered.
use Rattle.std.proofs.Common.{◌∷◌, ◌∙◌, suc, add-one, ap, arith, drop, drop-cons, sym}
use Rattle.wish_sets.specs.Counts.{lowered_all}
use Rattle.wish_sets.proofs.CountLaws.{lowered_sorted}
use Rattle.wish_sets.proofs.counts.lower_each.Goals as goal

pub loop-wish-preserved : goal.loop-wish-preserved
loop-wish-preserved c =
    let those = c.args.those.now in
    let at = c.loop-wish.wish-index in
    let head = drop-cons those at c.wish-item.result (omega arith)
    ∙ ap (λ w. w ∷ drop (suc at) those) (sym c.wish-item.is) in
    rw (add-one, c.lower.ensures) (record {
      sorted = lowered_sorted c.wish-item.result c.loop-wish.slots c.loop-wish.invariant.sorted;
      done = ap (λ ws. lowered_all ws c.loop-wish.slots) (sym head) ∙ c.loop-wish.invariant.done;
    })
