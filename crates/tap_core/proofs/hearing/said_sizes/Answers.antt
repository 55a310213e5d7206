use Rattle.tap_core.specs.Taking.{EndsBy}
use Rattle.tap_core.proofs.TakeLaws.{sizes_bad}
use Rattle.tap_core.proofs.hearing.said_sizes.Goals as goal

pub returns-in-Err-clause-err : goal.returns-in-Err-clause-err
returns-in-Err-clause-err c = λ packet s.
    rw c.in-IdSizes.is (sizes_bad packet c.args.at c.in-IdSizes.field c.in-IdSizes.method c.in-IdSizes.object
    c.in-IdSizes.class c.in-IdSizes.frame c.in-Err.bad.0 _ _ s c.in-Err.ensures.ok c.bad_body.ensures
    c.tap_ending.ensures)

pub returns-in_default : goal.returns-in_default
returns-in_default c = record { ok = tt; err = λ packet s. EndsBy.no_memory }
