use Rattle.std.proofs.Common.{arith}
use Rattle.std.proofs.lemmas.List.{get_or_default}
use Rattle.machine_model.specs.Children.{class_fields}
use Rattle.look_ups.specs.Needs.{seen_by}
use Rattle.look_ups.proofs.EachLaws.{none_left, one_more}
use Rattle.child_pages.proofs.chains.each_fields.Goals as goal

pub loop-place-init : goal.loop-place-init
loop-place-init c = record {
  within = omega arith;
  found = rw c.new.ensures.items (none_left (seen_by c.args.sight) class_fields c.args.classes.now _ (omega arith));
}

pub loop-place-preserved : goal.loop-place-preserved
loop-place-preserved c = record {
  within = omega (arith, c.loop-place.invariant.within);
  found = one_more (seen_by c.args.sight) class_fields c.args.classes.now c.loop-place.place _ _ _ _
      c.loop-place-test.true c.loop-place.invariant.within
      (get_or_default c.args.classes.now _ 0 _ (omega (arith, c.loop-place-test.true, c.loop-place.invariant.within)))
      c.in_ok-class_fields.ensures c.loop-place.invariant.found c.in_ok-found.ensures;
}
