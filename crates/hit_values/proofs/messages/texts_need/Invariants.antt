use Rattle.std.proofs.Common.{◌≡◌, ◌≤◌, drop, length}
use Rattle.break_rules.specs.Rendering.{paths_in}
use Rattle.machine_model.specs.Judging.{path_text}
use Rattle.machine_model.specs.Plans.{each, need}
use Rattle.look_ups.specs.Needs.{need_with, seen_by}
use Rattle.hit_values.proofs.messages.texts_need.Given as goal

-- the expressions from the place on were looked up
abbrev pub invariant-loop-place : goal.invariant-loop-place
invariant-loop-place l = record {
  within : l.place ≤ length l.pieces;
  found : need_with (λ texts. texts.items) l.found
      ≡ need (seen_by l.sight) (each (path_text l.thread) (paths_in (drop l.place l.pieces)));
}

abbrev pub decreases-loop-place : goal.decreases-loop-place
decreases-loop-place l = l.place
