use Rattle.std.proofs.Common.{arith}
use Rattle.break_rules.specs.Rendering.{paths_in}
use Rattle.machine_model.specs.Judging.{path_text}
use Rattle.machine_model.specs.Plans.{each, need}
use Rattle.look_ups.specs.Needs.{seen_by}
use Rattle.hit_values.proofs.EachPieces.{none_left, piece_more}
use Rattle.hit_values.proofs.messages.texts_need.Goals as goal

pub loop-place-init : goal.loop-place-init
loop-place-init c = record {
  within = omega arith;
  found = rw c.new.ensures.items
      (none_left (seen_by c.args.sight) (path_text c.args.thread) c.args.pieces.now _ (omega arith));
}

pub loop-place-preserved : goal.loop-place-preserved
loop-place-preserved c = record {
  within = omega (arith, c.loop-place.invariant.within);
  found = piece_more (λ left. need (seen_by c.args.sight) (each (path_text c.args.thread) (paths_in left)))
      c.args.pieces.now c.loop-place.place c.index-pieces-place.result _ c.loop-place-test.true
      c.loop-place.invariant.within c.index-pieces-place.is
      (c.in_ok-found.ensures _ c.loop-place.invariant.found);
}
