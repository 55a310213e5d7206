use Rattle.std.proofs.Common.{subst, Option}
use Rattle.std.specs.Prelude.{option_map}
use Rattle.wire_core.specs.declared.outside.Happening.{Happening}
use Rattle.wire_core.specs.Outside.{entry_of}
use Rattle.script_wires.specs.Plays.{playing}
use Rattle.script_wires.specs.Schedules.{GoesOn, Steps}
use Rattle.script_wires.proofs.play.Play.next.Goals as goal

pub loop-happening-init : goal.loop-happening-init
loop-happening-init c = GoesOn.none

pub returns-in-Some-clause-reaches : goal.returns-in-Some-clause-reaches
returns-in-Some-clause-reaches c = record {
  before = playing c.loop-happening.self c.args.links;
  goes_on = c.loop-happening.invariant;
  steps = subst (λ (said : Option Happening). Steps (playing c.loop-happening.self c.args.links)
      (option_map (entry_of c.step.new.buffer) said) (playing c.step.new.self c.args.links)) c.in-Some.is
      c.in_ok-happening.ensures.steps;
}

pub loop-happening-preserved : goal.loop-happening-preserved
loop-happening-preserved c =
    GoesOn.one_more c.loop-happening.invariant
    (subst (λ (said : Option Happening). Steps (playing c.loop-happening.self c.args.links)
    (option_map (entry_of c.step.new.buffer) said) (playing c.step.new.self c.args.links)) c.in_default.is
    c.in_ok-happening.ensures.steps)
