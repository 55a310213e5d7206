use Rattle.std.proofs.Common.{get_or, arith}
use Rattle.std.proofs.lemmas.Option.{slice_get-get_or}
use Rattle.std.proofs.lemmas.Result.{IfErr-weaker, IfOk-weaker}
use Rattle.tap_core.specs.Names.{Ask}
use Rattle.tap_core.specs.Taking.{EndsBy}
use Rattle.tap_core.proofs.TakeLaws.{answered, misanswered}
use Rattle.tap_core.proofs.hearing.answer_in.Goals as goal

pub returns-in_default-clause-err : goal.returns-in_default-clause-err
returns-in_default-clause-err c = λ packet s known. EndsBy.no_memory

pub returns-then-n-asks-clause-err : goal.returns-then-n-asks-clause-err
returns-then-n-asks-clause-err c = λ packet s known. EndsBy.no_memory

pub returns-clause-ok : goal.returns-clause-ok
returns-clause-ok c =
    let ask : Ask = get_or c.args.asks.now c.args.n c.index-asks-n.result in
    let there =
    slice_get-get_or c.args.asks.now c.args.n c.index-asks-n.result (omega (arith, c.if-n-asks.false)) in
    IfOk-weaker c.question_answer.result _ _ (λ answer reads packet s known.
    answered packet c.args.at c.args.n c.args.body.now c.args.asks.now ask c.in-Some.used c.args.sizes s answer there
    c.in-Some.is known reads) c.question_answer.ensures.ok

pub returns-clause-err : goal.returns-clause-err
returns-clause-err c =
    let ask : Ask = get_or c.args.asks.now c.args.n c.index-asks-n.result in
    let there =
    slice_get-get_or c.args.asks.now c.args.n c.index-asks-n.result (omega (arith, c.if-n-asks.false)) in
    IfErr-weaker c.question_answer.result _ _ (λ ending bad packet s known.
    misanswered packet c.args.at c.args.n c.args.body.now c.args.asks.now ask c.in-Some.used c.args.sizes s ending there
    c.in-Some.is known bad) c.question_answer.ensures.err
