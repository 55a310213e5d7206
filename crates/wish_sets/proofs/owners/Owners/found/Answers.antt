-- The owner is where its request leads.
use Rattle.std.proofs.Common.{◌∙◌, ap, sym, cond, option_copied, nat_eq, Some, None, arith}
use Rattle.indexmap.specs.IndexMap.{get}
use Rattle.wish_sets.proofs.BoundLaws.{got, got_nothing}
use Rattle.wish_sets.proofs.OwnerLaws.{owner_none, owner_beyond, owner_is}
use Rattle.wish_sets.proofs.owners.Owners.found.Goals as goal

pub returns-in_err-at : goal.returns-in_err-at
returns-in_err-at c =
    ap option_copied c.from_residual.ensures
    ∙ owner_none c.args.kind c.args.request c.args.self.now.places c.args.slots.now c.requires
    (c.in_err-at.ensures.value ∙ ap (get nat_eq c.args.self.now.places) c.request_key.ensures)

pub returns-then-at-slots : goal.returns-then-at-slots
returns-then-at-slots c =
    owner_beyond c.args.kind c.args.request c.args.self.now.places c.args.slots.now c.requires c.in_ok-at.field-0.now
    (c.in_ok-at.ensures.value ∙ ap (get nat_eq c.args.self.now.places) c.request_key.ensures)
    (sym (got_nothing c.args.slots.now c.in_ok-at.field-0.now (omega arith)))

pub returns-then-is_owner : goal.returns-then-is_owner
returns-then-is_owner c =
    ap (λ b. cond b (Some c.index-slots-at.result.wish) None) c.if-is_owner.ensures
    ∙ owner_is c.args.kind c.args.request c.args.self.now.places c.args.slots.now c.requires c.in_ok-at.field-0.now
    c.index-slots-at.result
    (c.in_ok-at.ensures.value ∙ ap (get nat_eq c.args.self.now.places) c.request_key.ensures)
    (sym (got c.args.slots.now c.in_ok-at.field-0.now c.index-slots-at.result (omega arith) c.index-slots-at.is))

pub returns-else-is_owner : goal.returns-else-is_owner
returns-else-is_owner c =
    ap (λ b. cond b (Some c.index-slots-at.result.wish) None) c.if-is_owner.ensures
    ∙ owner_is c.args.kind c.args.request c.args.self.now.places c.args.slots.now c.requires c.in_ok-at.field-0.now
    c.index-slots-at.result
    (c.in_ok-at.ensures.value ∙ ap (get nat_eq c.args.self.now.places) c.request_key.ensures)
    (sym (got c.args.slots.now c.in_ok-at.field-0.now c.index-slots-at.result (omega arith) c.index-slots-at.is))
