use Rattle.std.proofs.Common.{◌≡◌, ◌++◌, drop, map}
use Rattle.talk_look_ups.specs.FramePlanning.{frame_found}
use Rattle.talk_look_ups.specs.Planning.{sight_in}
use Rattle.talk_look_ups.proofs.frames.found_among.Given as goal

abbrev pub invariant-loop-frame : goal.invariant-loop-frame
invariant-loop-frame l =
    l.shown ++ map (frame_found l.state (sight_in l.state l.asked) l.thread) (drop l.frame-index l.frames)
    ≡ map (frame_found l.state (sight_in l.state l.asked) l.thread) l.frames
