use Rattle.std.proofs.Common.{◌≡◌, drop}
use Rattle.machine_model.specs.Composites.{has_death}
use Rattle.session_facts.proofs.composites.has_death.Given as goal

abbrev pub invariant-loop-event : goal.invariant-loop-event
invariant-loop-event l = has_death l.events ≡ has_death (drop l.event-index l.events)
