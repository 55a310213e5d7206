use Rattle.std.proofs.lemmas.Result.{err_from_is_err_and}
use Rattle.jdwp_values.specs.Rows.{times_at}
use Rattle.jdwp_values.proofs.Times.{goes_on, fails, is_done}
use Rattle.jdwp_commands.specs.Regions.{element_at}
use Rattle.jdwp_commands.proofs.region.read_elements.Goals as goal

pub returns-in_err-read_element : goal.returns-in_err-read_element
returns-in_err-read_element c =
    let p = err_from_is_err_and c.from_residual.result c.from_residual.ensures.1 in
    rw (p.1, p.2)
    (fails (element_at c.args.tag) c.in_err-read_element.field-0.0 c.loop.values c.args.count c.loop.counter
    c.loop.reader c.read_element.new.reader c.read_element.new.reader
    (times_at c.args.count (element_at c.args.tag) c.args.reader.now) c.loop-test.true
    c.in_err-read_element.ensures c.loop.invariant)

pub loop-preserved : goal.loop-preserved
loop-preserved c =
    rw c.in_ok-push.ensures.ok
    (goes_on (element_at c.args.tag) c.loop.values c.args.count c.loop.counter c.loop.reader
    c.in_ok-read_element.field-0 c.read_element.new.reader
    (times_at c.args.count (element_at c.args.tag) c.args.reader.now) c.loop-test.true
    c.in_ok-read_element.ensures c.loop.invariant)

pub returns : goal.returns
returns c =
    is_done (element_at c.args.tag) c.loop.values c.args.count c.loop.counter c.loop.reader
    (times_at c.args.count (element_at c.args.tag) c.args.reader.now) c.loop-test.false c.loop.invariant
