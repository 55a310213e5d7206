use Rattle.std.proofs.Common.{◌≡◌, ◌++◌, drop, filter, flat_map}
use Rattle.machine_model.specs.Classes.{counts}
use Rattle.session_facts.specs.ClassPlanning.{lines_lacking}
use Rattle.talk_look_ups.specs.Planning.{sight_in}
use Rattle.talk_look_ups.proofs.class_plans.add_all_lines.Given as goal

abbrev pub invariant-loop-method : goal.invariant-loop-method
invariant-loop-method l =
    l.wants.items
    ++ flat_map (λ method. lines_lacking (sight_in l.state l.asked) l.class method.id)
    (filter (counts l.keyed l.state.wishes.wanted l.signature) (drop l.method-index l.methods))
    ≡ l.initial.wants.items
    ++ flat_map (λ method. lines_lacking (sight_in l.state l.asked) l.class method.id)
    (filter (counts l.keyed l.state.wishes.wanted l.signature) l.methods)
