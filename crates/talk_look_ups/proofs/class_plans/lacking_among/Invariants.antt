use Rattle.std.proofs.Common.{◌≡◌, ◌++◌, drop}
use Rattle.session_facts.specs.ClassPlanning.{all_lacking}
use Rattle.talk_look_ups.specs.Planning.{sight_in}
use Rattle.talk_look_ups.proofs.class_plans.lacking_among.Given as goal

abbrev pub invariant-loop-class : goal.invariant-loop-class
invariant-loop-class l =
    let sight = sight_in l.state l.asked in
    let wanted = l.state.wishes.wanted in
    l.wants.items ++ all_lacking sight wanted (drop l.class-index l.those) ≡ all_lacking sight wanted l.those
