use Rattle.std.proofs.Common.{◌≡◌, ◌≤◌, drop, length}
use Rattle.machine_model.specs.Judging.{log_plan}
use Rattle.machine_model.specs.Plans.{each, need}
use Rattle.look_ups.specs.Needs.{need_with, seen_by}
use Rattle.hit_values.proofs.messages.logs_need.Given as goal

-- those from the place on were looked up
abbrev pub invariant-loop-place : goal.invariant-loop-place
invariant-loop-place l = record {
  within : l.place ≤ length l.strikes;
  found : need_with (λ texts. texts.items) l.found
      ≡ need (seen_by l.sight) (each (log_plan l.rules) (drop l.place l.strikes));
}

abbrev pub decreases-loop-place : goal.decreases-loop-place
decreases-loop-place l = l.place
