use Rattle.std.proofs.Common.{◌≡◌, ◌++◌, drop}
use Rattle.std.specs.List.{flat_map}
use Rattle.machine_model.specs.Stops.{hit_by}
use Rattle.talk_events.proofs.hits.hits_in.Given as goal

abbrev pub invariant-loop-event : goal.invariant-loop-event
invariant-loop-event l =
    l.hits ++ flat_map (hit_by l.wishes) (drop l.event-index l.events) ≡ flat_map (hit_by l.wishes) l.events
