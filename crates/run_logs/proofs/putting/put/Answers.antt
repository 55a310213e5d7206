use Rattle.std.proofs.Common.{◌<◌, ◌≤◌, sym, ◌∙◌, ap, length, arith}
use Rattle.run_logs.specs.Runs.{quiets_of, most_quiets}
use Rattle.run_logs.proofs.PutLaws.{count_fits, takes_one, takes_quiet, takes_counted, stands_alone}
use Rattle.run_logs.proofs.putting.put.Goals as goal

pub overflow_add-n : goal.overflow_add-n
overflow_add-n c =
    let last = sym (rw c.deref.ensures.value at c.in-Some.ensures) in
    let few = rw c.in-Quiet.is at c.requires.few in
    let fits : c.in-Some.n ≤ quiets_of c.args.runs.now.items = count_fits _ _ last in
    omega (arith, few)

pub returns-in-Some-clause-takes : goal.returns-in-Some-clause-takes
returns-in-Some-clause-takes c =
    let value = c.deref.ensures.value in
    let last = sym (rw value at c.in-Some.ensures) in
    let few = rw c.in-Quiet.is at c.requires.few in
    let less : quiets_of c.args.runs.now.items < most_quiets = omega (arith, few) in
    let len = c.len-last.ensures ∙ sym c.deref.ensures.len ∙ ap length value in
    rw (len, c.in-Quiet.is) (takes_counted _ _ last c.requires.runs less)

pub returns-in-None-clause-takes : goal.returns-in-None-clause-takes
returns-in-None-clause-takes c =
    let last = sym (rw c.deref.ensures.value at c.in-None.ensures) in
    let few = rw c.in-Quiet.is at c.requires.few in
    let less : quiets_of c.args.runs.now.items < most_quiets = omega (arith, few) in
    rw (c.push_reserved.ensures.items, c.in-Quiet.is) (takes_quiet _ c.requires.runs last less)

pub returns-in_default-clause-takes : goal.returns-in_default-clause-takes
returns-in_default-clause-takes c =
    rw (c.push_reserved-in_default.ensures.items, c.in_default.entry-is)
    (takes_one _ _ c.requires.runs (stands_alone _ (λ is. c.in_default.not-Quiet (c.in_default.entry-is ∙ is))))
