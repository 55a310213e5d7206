use Rattle.std.proofs.Common.{◌≡◌, drop}
use Rattle.machine_model.specs.Stops.{has_start}
use Rattle.talk_events.proofs.stops.has_start.Given as goal

abbrev pub invariant-loop-event : goal.invariant-loop-event
invariant-loop-event l = has_start l.events ≡ has_start (drop l.event-index l.events)
