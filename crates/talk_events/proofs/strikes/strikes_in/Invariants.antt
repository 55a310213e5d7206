use Rattle.std.proofs.Common.{◌≡◌, ◌++◌, drop}
use Rattle.std.specs.List.{flat_map}
use Rattle.machine_model.specs.Stops.{strikes_by}
use Rattle.talk_events.proofs.strikes.strikes_in.Given as goal

abbrev pub invariant-loop-event : goal.invariant-loop-event
invariant-loop-event l =
    l.strikes ++ flat_map (strikes_by l.wishes) (drop l.event-index l.events) ≡ flat_map (strikes_by l.wishes) l.events
