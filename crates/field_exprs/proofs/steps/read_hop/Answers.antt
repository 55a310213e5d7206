use Rattle.std.proofs.Common.{◌∷◌}
use Rattle.field_exprs.specs.Reading.{IsTail}
use Rattle.field_exprs.specs.Sticking.{IsStuck}
use Rattle.field_exprs.proofs.ReadSoFar.{stuck_behind, mapped}
use Rattle.field_exprs.proofs.steps.read_hop.Goals as goal

pub returns-in-Some-clause-err : goal.returns-in-Some-clause-err
returns-in-Some-clause-err c =
    mapped c.read_field.result c.map.result _ (IsStuck (λ behind. IsTail (46 ∷ behind)) c.in-Some.rest.now)
    (IsStuck IsTail c.args.text.now) c.map.ensures.cases c.read_field.ensures.err
    (λ stuck is. stuck_behind 46 c.args.text.now c.in-Some.rest.now stuck (c.in-Some.ensures {u = tt}) is)

pub returns-in-Some-behind-clause-err : goal.returns-in-Some-behind-clause-err
returns-in-Some-behind-clause-err c =
    mapped c.read_index.result c.map-in-Some-behind.result _
    (IsStuck (λ behind. IsTail (91 ∷ behind)) c.in-Some-behind.rest.now) (IsStuck IsTail c.args.text.now)
    c.map-in-Some-behind.ensures.cases c.read_index.ensures.err
    (λ stuck is. stuck_behind 91 c.args.text.now c.in-Some-behind.rest.now stuck (c.in-Some-behind.ensures {u = tt}) is)
