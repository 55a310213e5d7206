use Rattle.std.proofs.Common.{arith}
use Rattle.std.proofs.lemmas.List.{get_or_default}
use Rattle.machine_model.specs.Judging.{log_plan}
use Rattle.look_ups.specs.Needs.{seen_by}
use Rattle.look_ups.proofs.EachLaws.{none_left, one_more}
use Rattle.hit_values.proofs.messages.logs_need.Goals as goal

pub loop-place-init : goal.loop-place-init
loop-place-init c = record {
  within = omega arith;
  found = rw c.new.ensures.items
      (none_left (seen_by c.args.sight) (log_plan c.args.rules.now) c.args.strikes.now _ (omega arith));
}

pub loop-place-preserved : goal.loop-place-preserved
loop-place-preserved c = record {
  within = omega (arith, c.loop-place.invariant.within);
  found = one_more (seen_by c.args.sight) (log_plan c.args.rules.now) c.args.strikes.now c.loop-place.place _ _ _ _
      c.loop-place-test.true c.loop-place.invariant.within
      (get_or_default c.args.strikes.now _ _ _ (omega (arith, c.loop-place-test.true, c.loop-place.invariant.within)))
      c.in_ok-log_need.ensures c.loop-place.invariant.found c.in_ok-found.ensures;
}
