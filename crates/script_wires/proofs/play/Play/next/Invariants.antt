use Rattle.script_wires.specs.Plays.{playing}
use Rattle.script_wires.specs.Schedules.{GoesOn}
use Rattle.script_wires.proofs.WeightLaws.{weight}
use Rattle.script_wires.proofs.play.Play.next.Given as goal

-- lines were done of which the bridge hears nothing
abbrev pub invariant-loop-happening : goal.invariant-loop-happening
invariant-loop-happening l = GoesOn (playing l.initial.self l.links) (playing l.self l.links)

-- each leaves less to do
abbrev pub decreases-loop-happening : goal.decreases-loop-happening
decreases-loop-happening l = weight (playing l.self l.links)
