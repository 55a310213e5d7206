use Rattle.std.proofs.Common.{◌≡◌, drop}
use Rattle.world_model.specs.Objects.{field_from}
use Rattle.script_worlds.proofs.given.field_of.Given as goal

-- the field is found from the class that was reached on, in the steps that are left
abbrev pub invariant-loop-step : goal.invariant-loop-step
invariant-loop-step l =
    field_from (drop l._step-index l.steps) l.world l.class l.field ≡ field_from l.steps l.world l.fn.class l.field
