use Rattle.std.proofs.Common.{◌≡◌, drop, fold}
use Rattle.std.specs.List.{flat_map}
use Rattle.machine_model.specs.Classes.{with_listed}
use Rattle.machine_model.specs.Composites.{prepared_by}
use Rattle.session_facts.specs.OpenClasses.{with_told}
use Rattle.session_facts.proofs.composites.learn_events.Given as goal

abbrev pub invariant-loop-event : goal.invariant-loop-event
invariant-loop-event l = record {
  known : fold with_listed l.classes (flat_map prepared_by (drop l.event-index l.events))
      ≡ fold with_listed l.initial.classes (flat_map prepared_by l.events);
  left : fold (with_told l.wishes.wanted) (l.classes, l.left) (flat_map prepared_by (drop l.event-index l.events))
      ≡ fold (with_told l.wishes.wanted) (l.initial.classes, l.initial.left) (flat_map prepared_by l.events);
}
