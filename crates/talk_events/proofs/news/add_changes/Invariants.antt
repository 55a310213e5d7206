use Rattle.std.proofs.Common.{◌≡◌, ◌++◌, drop}
use Rattle.std.specs.List.{flat_map}
use Rattle.machine_model.specs.Composites.{change_told}
use Rattle.talk_events.proofs.news.add_changes.Given as goal

abbrev pub invariant-loop-event : goal.invariant-loop-event
invariant-loop-event l =
    l.news ++ flat_map change_told (drop l.event-index l.events)
    ≡ l.initial.news ++ flat_map change_told l.events
