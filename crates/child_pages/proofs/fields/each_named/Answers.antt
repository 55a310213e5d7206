use Rattle.std.proofs.Common.{arith}
use Rattle.machine_model.specs.Children.{field_plan}
use Rattle.look_ups.specs.Needs.{seen_by}
use Rattle.look_ups.proofs.EachLaws.{none_left, one_more}
use Rattle.child_pages.proofs.fields.each_named.Goals as goal

pub loop-place-init : goal.loop-place-init
loop-place-init c = record {
  within = omega arith;
  found = rw c.new.ensures.items (none_left (seen_by c.args.sight) field_plan c.args.fields.now _ (omega arith));
}

pub loop-place-preserved : goal.loop-place-preserved
loop-place-preserved c = record {
  within = omega (arith, c.loop-place.invariant.within);
  found = one_more (seen_by c.args.sight) field_plan c.args.fields.now c.loop-place.place c.index-fields-place.result _ _ _
      c.loop-place-test.true c.loop-place.invariant.within c.index-fields-place.is c.in_ok-field_need.ensures c.loop-place.invariant.found c.in_ok-found.ensures;
}
