use Rattle.std.proofs.Common.{ap, subst, ◌∙◌, arith}
use Rattle.jdwp_events.specs.Composites.{composite_at, IsRead}
use Rattle.jdwp_events.proofs.CompositeLaws.{is_found, composite_again}
use Rattle.jdwp_events.proofs.composite.read_composite.Goals as goal

pub returns-clause-found : goal.returns-clause-found
returns-clause-found c =
    is_found c.args.sizes c.args.body.now c.read.result (λ i. omega (arith, c.type_inv.body i)) c.read.ensures

pub returns-clause-only : goal.returns-clause-only
returns-clause-only c =
    λ v fits range e. subst (λ f. IsRead f c.read.result)
    (ap (composite_at c.args.sizes) e ∙ composite_again c.args.sizes v fits range) c.read.ensures
