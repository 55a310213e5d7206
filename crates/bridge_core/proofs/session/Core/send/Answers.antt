use Rattle.std.proofs.Common.{refl, subst}
use Rattle.machine_model.specs.Replying.{SizesFor}
use Rattle.bridge_core.proofs.session.Core.send.Goals as goal

pub returns : goal.returns
returns c = rw (← c.self.view_is) (record {
  side_is = refl;
  used = c.in_ok-sizes.sizes;
  serves = subst (λ known. SizesFor known c.in_ok-sizes.sizes) c.sizes.ensures c.in_ok-sizes.ensures;
  bytes_are = rw c.next_id.ensures at c.in_ok-bytes.ensures;
  same = rw c.send.ensures.sent refl;
})
