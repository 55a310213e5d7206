use Rattle.std.proofs.Common.{◌≡◌, ◌++◌, drop, flat_map}
use Rattle.talk_look_ups.specs.FramePlanning.{frame_lacking}
use Rattle.talk_look_ups.specs.Planning.{sight_in}
use Rattle.talk_look_ups.proofs.frames.lacking_among.Given as goal

abbrev pub invariant-loop-frame : goal.invariant-loop-frame
invariant-loop-frame l =
    l.wants.items ++ flat_map (frame_lacking (sight_in l.state l.asked)) (drop l.frame-index l.frames)
    ≡ flat_map (frame_lacking (sight_in l.state l.asked)) l.frames
