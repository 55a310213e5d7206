-- There are no more slots than were added.
use Rattle.std.proofs.Common.{◌+◌, ◌-◌, ◌∙◌, ap, arith, length}
use Rattle.wish_sets.specs.Counts.{raised_all}
use Rattle.wish_sets.proofs.CountLaws.{moved_length}
use Rattle.wish_sets.proofs.forming.form.Goals as goal

pub onward-requires-clause-few : goal.onward-requires-clause-few
onward-requires-clause-few c =
    let is = c.in-Ok.ensures.ok in
    let added = c.args.shift.now.added.items in
    let taken = c.args.shift.now.taken.items in
    let all = ap length (c.deref.ensures.value ∙ is.numbers)
    ∙ (moved_length (λ n. n - 1) taken (raised_all added is.wide) ∙ moved_length (λ n. n + 1) added is.wide) in
    omega (arith, all, is.wider.in_order.counted)
