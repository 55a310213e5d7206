use Rattle.std.proofs.Common.{◌≡◌, [], drop, filter, map}
use Rattle.std.specs.Prelude.{fold}
use Rattle.std.specs.BTreeSet.{insert_key}
use Rattle.std.specs.Ordering.{nat_cmp, on}
use Rattle.machine_model.specs.Stops.{stopping_at}
use Rattle.wish_sets.specs.Order.{is_wish}
use Rattle.wish_sets.specs.declared.wish.Wish.TheVariants as wishes
use Rattle.talk_events.proofs.strikes.stopping_at.Given as goal

-- the breakpoints of all strikes are those found so far with those of the strikes that are left
abbrev pub invariant-loop-strike : goal.invariant-loop-strike
invariant-loop-strike l =
    (fold (insert_key (on (λ entry. entry.id) nat_cmp)) l.entries.items
    (map (λ strike. strike.entry)
    (filter (λ strike. is_wish (wishes.Stop l.fn.at) (wishes.Stop strike.at)) (drop l.strike-index l.stops)))
    ≡ stopping_at l.fn.at l.stops) × (l.wish ≡ wishes.Stop l.fn.at)
